use Rattle.std.specs.Prelude.{if◌then◌else◌}
use Rattle.std.proofs.Common.{Some, None, refl, ap, ◌∙◌, ◌++◌, ◌∷◌, [], ◌≡◌}
use Rattle.indexmap.specs.IndexMap.{get}
use Rattle.elm_canon.specs.Names.{Name}
use Rattle.infer_order.specs.Keys.{same_pair}
use Rattle.infer_order.specs.Owners.{items_of}
use Rattle.infer_order.proofs.Owning.{top_put}
use Rattle.infer_order.proofs.owners.Owners.add_top.Goals as goal

pub returns : goal.returns
returns c =
    let k : Name × Name = (c.in_ok-clone.field-0, c.in_ok-clone-2.field-0) in
    let key : Name × Name = (c.args.home.now, c.args.name.now) in
    let same : k ≡ key = λ i. (c.in_ok-clone.ensures.cases i, c.in_ok-clone-2.ensures.cases i) in
    top_put c.args.self.now (record c.args.self.now { tops = c.insert.new.self }) c.args.home.now c.args.name.now k
    c.args.number c.push.new.self same
    (c.in_ok-push.ensures.items ∙ ap (λ l. l ++ c.args.number ∷ [])
    (c.or_none-numbers.ensures ∙ ap items_of c.swap_remove.ensures.value
    ∙ ap (λ z. items_of (get same_pair c.args.self.now.tops z)) same))
    (λ y. c.in_ok-insert.ensures.updates.0 y ∙ ap (λ o. if same_pair k y then Some c.push.new.self else o)
    (c.swap_remove.ensures.updates.0 y ∙ ap (λ z. if same_pair z y then None else get same_pair c.args.self.now.tops y)
    same))
    refl
