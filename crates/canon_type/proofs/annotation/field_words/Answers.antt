-- One field more.
use Rattle.std.proofs.Common.{◌++◌, ◌∷◌, [], map, arith, sym, ap, ◌∙◌}
use Rattle.std.proofs.lemmas.List.{take_all}
use Rattle.canon_env.proofs.Filtering.{map_next}
use Rattle.canon_type.specs.Walking.{field_name}
use Rattle.canon_type.proofs.annotation.field_words.Goals as goal

pub loop-field-preserved : goal.loop-field-preserved
loop-field-preserved c =
    let f = c.field-item.result in
    c.in_ok-push.ensures.items ∙ ap (λ l. l ++ field_name f ∷ []) c.loop-field.invariant
    ∙ sym (map_next field_name c.args.fields.now c.loop-field.field-index f (omega arith) c.field-item.is)

pub returns : goal.returns
returns c =
    c.loop-field.invariant ∙ ap (map field_name) (take_all c.loop-field.field-index c.args.fields.now (omega arith))
