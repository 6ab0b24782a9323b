-- Lists, one item after the other: `map_next`, `any_next`.
use Rattle.std.proofs.Common.{take, ◌||◌, arith, sym, ap, ◌∙◌}
use Rattle.elm_canon.specs.Names.{same_name}
use Rattle.elm_canon.specs.declared.tree.FieldType.{FieldType}
use Rattle.canon_env.specs.Exposing.{is_among}
use Rattle.canon_env.proofs.Filtering.{map_next, any_next}
use Rattle.canon_type.specs.Extending.{names_of}
use Rattle.canon_type.proofs.extending.insert_all.Goals as goal

pub loop-field-preserved : goal.loop-field-preserved
loop-field-preserved c = λ h x.
    let i = c.loop-field.field-index in
    let f = c.field-item.result in
    c.in_ok-insert.ensures x ∙ ap (λ b. b || same_name x f.name) (c.loop-field.invariant h x)
    ∙ any_next (same_name x) (names_of (take i c.args.fields.now)) f.name
    ∙ ap (is_among x) (sym (map_next (λ (g : FieldType). g.name) c.args.fields.now i f (omega arith) c.field-item.is))
