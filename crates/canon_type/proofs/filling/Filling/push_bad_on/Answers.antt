-- What a look-up finds stands for the name: `found_in_filling`.
use Rattle.std.proofs.Common.{◌++◌, map, Some, None, sym, ap, ◌∙◌, append-nil}
use Rattle.std.specs.Prelude.{option_map, option_copied}
use Rattle.std.proofs.lemmas.Result.{on_ok_weaker}
use Rattle.elm_canon.specs.Tree.{field_types_of}
use Rattle.elm_canon.specs.View.{annotation_view, field_type_view}
use Rattle.canon_env.specs.Expanding.{bad_on}
use Rattle.canon_type.proofs.Fillings.{found_in_filling}
use Rattle.canon_type.proofs.filling.Filling.push_bad_on.Goals as goal

pub returns-in-Some : goal.returns-in-Some
returns-in-Some c =
    let F = field_types_of (map field_type_view c.args.fields.now) in
    let old = c.args.bad.now.items in
    let x = c.args.name.now in
    on_ok_weaker c.push_bad.result
    (λ e s h. e ∙ ap (λ u. old ++ bad_on (annotation_view u) F) c.deref.ensures
    ∙ ap (λ u. old ++ bad_on u F) (found_in_filling s x (Some (annotation_view c.in-Some.t.now.value))
    (ap (option_map (λ u. annotation_view u.value)) (ap option_copied (sym c.in-Some.is) ∙ c.get.ensures.value) ∙ h x)))
    c.push_bad.ensures

pub returns-in-None : goal.returns-in-None
returns-in-None c = λ s h.
    let F = field_types_of (map field_type_view c.args.fields.now) in
    let old = c.args.bad.now.items in
    let x = c.args.name.now in
    sym (append-nil old)
    ∙ ap (λ u. old ++ bad_on u F) (found_in_filling s x None
    (ap (option_map (λ u. annotation_view u.value)) (ap option_copied (sym c.in-None.is) ∙ c.get.ensures.value) ∙ h x))
