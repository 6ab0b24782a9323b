use Rattle.std.proofs.Common.{◌≡◌, ◌++◌, ◌∷◌, [], suc, sym, ap, ◌∙◌, subst, arith, ◌+◌}
use Rattle.std.specs.List.{Contains}
use Rattle.elm_type.specs.Types.{Rigid}
use Rattle.type_store.specs.Store.{Constant}
use Rattle.type_store.specs.Solutions.{constants_of}
use Rattle.type_store.specs.Steps.{put}
use Rattle.type_schemes.proofs.Calls.{OpenedSoFar, next_new, opened_next, opened_last, taken_all}
use Rattle.type_schemes.proofs.constants.open_constants.Goals as goal

pub constant-requires : goal.constant-requires
constant-requires c = λ h.
    next_new c.args.depth c.args.rigids.now c.args.store.now c.loop-rigid.rigid-index c.loop-rigid.slots.items c.loop-rigid.store c.rigid-item.result
    c.loop-rigid.invariant c.requires.new c.requires.distinct c.loop-rigid-test.true c.rigid-item.is
    (subst (Contains (constants_of c.loop-rigid.store)) c.in_ok-clone.ensures.cases h)

pub loop-rigid-preserved : goal.loop-rigid-preserved
loop-rigid-preserved c =
    let i = c.loop-rigid.rigid-index in
    let e : i + 1 ≡ suc i = omega arith in
    subst (λ n. OpenedSoFar c.args.depth c.args.rigids.now c.args.store.now n c.push.new.self.items c.constant.new.self) (sym e)
    (opened_next c.args.depth c.args.rigids.now c.args.store.now i c.loop-rigid.slots.items c.push.new.self.items c.loop-rigid.store c.constant.new.self c.rigid-item.result
    c.in_ok-slot.slot c.loop-rigid.invariant c.loop-rigid-test.true c.rigid-item.is c.in_ok-slot.ensures.whole c.in_ok-slot.ensures.number
    (c.in_ok-slot.ensures.made ∙ ap (λ (r : Rigid). c.loop-rigid.store ++ put (Constant r) c.args.depth ∷ []) c.in_ok-clone.ensures.cases)
    c.in_ok-push.ensures.items)

pub returns : goal.returns
returns c =
    opened_last c.args.depth c.args.rigids.now c.args.store.now c.loop-rigid.rigid-index c.loop-rigid.slots.items c.loop-rigid.store c.loop-rigid.invariant
    (omega (arith, c.loop-rigid-test.false, c.loop-rigid.auto.rigid-index-end)) (taken_all c.args.rigids.now c.loop-rigid.rigid-index c.loop-rigid-test.false)
