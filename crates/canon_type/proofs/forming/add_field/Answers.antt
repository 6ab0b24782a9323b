-- One field more: `pushed`.
use Rattle.std.proofs.Common.{◌≡◌, ◌++◌, ◌∷◌, [], map, refl, sym, subst}
use Rattle.std.specs.Prelude.{IsOkAnd}
use Rattle.std.proofs.lemmas.Result.{on_ok_weaker}
use Rattle.elm_canon.specs.View.{annotation_view, field_type_view}
use Rattle.elm_canon.proofs.Views.{field_type}
use Rattle.canon_env.proofs.Filtering.{pushed}
use Rattle.canon_type.proofs.forming.add_field.Goals as goal

pub returns-in-Ok : goal.returns-in-Ok
returns-in-Ok c =
    let old = map field_type_view c.args.fields.now.items in
    on_ok_weaker c.add.result
    (λ e. subst
    (λ made. IsOkAnd made (λ t. map field_type_view c.add.new.items.items ≡ old ++ (c.args.name, annotation_view t) ∷ []))
    (sym c.in-Ok.is)
    (pushed field_type_view c.args.fields.now.items c.add.new.items.items
    (record { name = c.args.name; field_type = c.in-Ok.field_type }) old (c.args.name, annotation_view c.in-Ok.field_type) e
    refl (field_type (record { name = c.args.name; field_type = c.in-Ok.field_type }))))
    c.add.ensures
