use Rattle.std.proofs.Common.{◌≡◌, sym, subst}
use Rattle.std.specs.List.{Contains}
use Rattle.type_store.specs.Solutions.{constants_of}
use Rattle.type_store.specs.Store.{Store}
use Rattle.type_store.specs.View.{store_view}
use Rattle.type_store.proofs.store.Store.constant.Goals as goal

pub push-requires-clause-fresh : goal.push-requires-clause-fresh
push-requires-clause-fresh c r e h =
    let q : c.args.rigid ≡ r = cc in
    c.requires (subst (λ (s : Store). Contains (constants_of s) c.args.rigid) c.self.view_is
    (subst (Contains (constants_of (store_view c.self.inside.slots.items))) (sym q) h))
