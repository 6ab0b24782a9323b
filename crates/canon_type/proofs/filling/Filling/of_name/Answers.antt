-- What a look-up finds stands for the name: `found_in_filling`.
use Rattle.std.proofs.Common.{Some, None, sym, ap, ◌∙◌}
use Rattle.std.specs.Prelude.{option_map, option_copied}
use Rattle.elm_canon.specs.Tree as plain
use Rattle.elm_canon.specs.View.{annotation_view}
use Rattle.elm_canon.proofs.Views.{variable_type, shared_type}
use Rattle.canon_type.proofs.Fillings.{found_in_filling}
use Rattle.canon_type.proofs.filling.Filling.of_name.Goals as goal

pub returns-in_ok-try_clone-in-Some : goal.returns-in_ok-try_clone-in-Some
returns-in_ok-try_clone-in-Some c = λ s h.
    let x = c.args.name.now in
    shared_type c.in_ok-try_clone-in-Some.field-0 ∙ ap annotation_view c.in_ok-try_clone-in-Some.ensures
    ∙ found_in_filling s x (Some (annotation_view c.in-Some.t.now.value))
    (ap (option_map (λ u. annotation_view u.value)) (ap option_copied (sym c.in-Some.is) ∙ c.get.ensures.value) ∙ h x)

pub returns-in_ok-clone-in-None : goal.returns-in_ok-clone-in-None
returns-in_ok-clone-in-None c = λ s h.
    let x = c.args.name.now in
    variable_type c.in_ok-clone-in-None.field-0 ∙ ap plain.Variable c.in_ok-clone-in-None.ensures.cases
    ∙ found_in_filling s x None
    (ap (option_map (λ u. annotation_view u.value)) (ap option_copied (sym c.in-None.is) ∙ c.get.ensures.value) ∙ h x)
