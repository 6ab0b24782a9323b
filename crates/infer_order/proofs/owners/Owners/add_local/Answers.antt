use Rattle.std.specs.Prelude.{if◌then◌else◌}
use Rattle.elm_canon.specs.Names.{same_name}
use Rattle.std.proofs.Common.{Some, refl, ap, ◌∙◌, ◌++◌, ◌∷◌, []}
use Rattle.infer_order.specs.Owners.{items_of}
use Rattle.infer_order.proofs.Owning.{local_put}
use Rattle.infer_order.proofs.owners.Owners.add_local.Goals as goal

pub returns : goal.returns
returns c =
    local_put c.args.self.now (record c.args.self.now { locals = c.insert.new.self }) c.args.name.now
    c.in_ok-clone.field-0 c.args.number c.push.new.self
    c.in_ok-clone.ensures.cases
    (c.in_ok-push.ensures.items ∙ ap (λ l. l ++ c.args.number ∷ [])
    (c.or_none-numbers.ensures ∙ ap items_of c.swap_remove.ensures.value))
    (λ y. c.in_ok-insert.ensures.updates.0 y ∙ ap
    (λ o. if same_name c.in_ok-clone.field-0 y then Some c.push.new.self else o) (c.swap_remove.ensures.updates.0 y))
    refl
