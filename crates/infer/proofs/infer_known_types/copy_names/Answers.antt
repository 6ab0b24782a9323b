use Rattle.std.proofs.Common.{◌++◌, ◌∷◌, [], take, sym, ap, ◌∙◌, arith}
use Rattle.infer_order.proofs.Owning.{take_next}
use Rattle.infer.proofs.infer_known_types.copy_names.Goals as goal

pub loop-name-preserved : goal.loop-name-preserved
loop-name-preserved c =
    let i = c.loop-name.name-index in
    let x = c.name-item.result in
    c.in_ok-push.ensures.items
    ∙ (ap (λ l. l ++ c.in_ok-clone.field-0 ∷ []) c.loop-name.invariant
    ∙ (ap (λ y. take i c.args.names.now ++ y ∷ []) c.in_ok-clone.ensures.cases
    ∙ sym (take_next c.args.names.now i x (omega arith) c.name-item.is)))
