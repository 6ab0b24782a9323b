use Rattle.std.proofs.Common.{[], ◌∷◌, map, ap, ◌∙◌}
use Rattle.std.proofs.lemmas.List.{reverse-append}
use Rattle.type_store.specs.View.{field_view}
use Rattle.infer_types.specs.Stacks.{waiting}
use Rattle.infer_types.proofs.writing.push_part.Goals as goal

pub returns : goal.returns
returns c =
    ap waiting c.in_ok-push.ensures.items
    ∙ (ap (map field_view) (reverse-append c.args.stack.now.items
    (record { name = c.in_ok-clone.field-0; slot = c.args.slot } ∷ []))
    ∙ ap (λ k. (k, c.args.slot) ∷ waiting c.args.stack.now.items) c.in_ok-clone.ensures.cases)
