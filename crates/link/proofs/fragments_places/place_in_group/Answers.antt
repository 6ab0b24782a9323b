-- The values of a group, by its form.
use Rattle.std.proofs.Common.{sym, ap, ◌∙◌}
use Rattle.elm_canon.specs.View.{group_view}
use Rattle.elm_canon.specs.declared.tree.Group.{Group}
use Rattle.elm_canon.proofs.Views.{together, constant, destructure}
use Rattle.link.specs.Made.{place_in, group_values}
use Rattle.link.proofs.fragments_places.place_in_group.Goals as goal

pub returns-in-Together : goal.returns-in-Together
returns-in-Together c =
    let r = c.args.name.now in
    c.place_in_all.ensures
    ∙ ap (λ g. place_in r (group_values g)) (sym (together c.in-Together.functions))
    ∙ ap (λ (g : Group). place_in r (group_values (group_view g))) (sym c.in-Together.is)

pub returns-in-Constant : goal.returns-in-Constant
returns-in-Constant c =
    let r = c.args.name.now in
    c.place_in_title.ensures
    ∙ ap (λ g. place_in r (group_values g)) (sym (constant c.in-Constant.title c.in-Constant.field-1))
    ∙ ap (λ (g : Group). place_in r (group_values (group_view g))) (sym c.in-Constant.is)

pub returns-in-Destructure : goal.returns-in-Destructure
returns-in-Destructure c =
    let r = c.args.name.now in
    ap (λ g. place_in r (group_values g)) (sym (destructure c.in-Destructure.field-0 c.in-Destructure.field-1))
    ∙ ap (λ (g : Group). place_in r (group_values (group_view g))) (sym c.in-Destructure.is)
