-- What a look-up finds stands for the name: `found_in_filling`.
use Rattle.std.proofs.Common.{map, Some, None, sym, ap, ◌∙◌}
use Rattle.std.specs.Prelude.{option_map, option_copied}
use Rattle.std.proofs.lemmas.Result.{IfOk-weaker}
use Rattle.elm_canon.specs.Tree.{field_types_of}
use Rattle.elm_canon.specs.View.{annotation_view, field_type_view}
use Rattle.elm_canon.proofs.Views.{type_of_record}
use Rattle.canon_env.specs.Expanding.{extended}
use Rattle.canon_type.proofs.Fillings.{found_in_filling}
use Rattle.canon_type.proofs.filling.Filling.with_fields.Goals as goal

pub returns-in-Some : goal.returns-in-Some
returns-in-Some c =
    let F = field_types_of (map field_type_view c.args.fields.items) in
    let x = c.args.name.now in
    IfOk-weaker c.extended.result _ _
    (λ r e s h. e ∙ ap (λ u. extended (annotation_view u) F) c.deref.ensures
    ∙ ap (λ u. extended u F) (found_in_filling s x (Some (annotation_view c.in-Some.t.now.value))
    (ap (option_map (λ u. annotation_view u.value)) (ap option_copied (sym c.in-Some.is) ∙ c.get.ensures.value) ∙ h x)))
    c.extended.ensures

pub returns-in-None : goal.returns-in-None
returns-in-None c =
    let F = field_types_of (map field_type_view c.args.fields.items) in
    let x = c.args.name.now in
    IfOk-weaker c.extended_type.result _ _
    (λ r e s h. ap annotation_view e ∙ type_of_record (Some x) c.args.fields
    ∙ ap (λ u. extended u F) (found_in_filling s x None
    (ap (option_map (λ u. annotation_view u.value)) (ap option_copied (sym c.in-None.is) ∙ c.get.ensures.value) ∙ h x)))
    c.extended_type.ensures
