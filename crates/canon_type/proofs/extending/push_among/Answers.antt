-- The names that pass are kept, one field after the other.
use Rattle.std.proofs.Common.{◌++◌, [], ◌∷◌, take, arith, sym, ap, ◌∙◌, append_assoc}
use Rattle.std.specs.Prelude.{filter}
use Rattle.std.proofs.lemmas.List.Elements.{filter-append}
use Rattle.indexmap.specs.IndexSet.{contains}
use Rattle.elm_canon.specs.Names.{same_name}
use Rattle.elm_canon.specs.declared.tree.FieldType.{FieldType}
use Rattle.canon_env.proofs.Filtering.{map_next}
use Rattle.canon_type.specs.Extending.{names_of, repeated}
use Rattle.canon_type.proofs.extending.push_among.Goals as goal

pub loop-field-preserved : goal.loop-field-preserved
loop-field-preserved c =
    let i = c.loop-field.field-index in
    let f = c.field-item.result in
    let test = contains same_name c.args.names.now in
    let old = c.args.bad.now.items in
    let before = names_of (take i c.args.fields.now) in
    c.in_ok-push_if_among.ensures
    ∙ ap (λ z. z ++ repeated test f.name) c.loop-field.invariant
    ∙ append_assoc old (filter test before) (repeated test f.name)
    ∙ ap (λ z. old ++ z) (sym (filter-append test before (f.name ∷ [])))
    ∙ ap (λ z. old ++ filter test z)
    (sym (map_next (λ (g : FieldType). g.name) c.args.fields.now i f (omega arith) c.field-item.is))
