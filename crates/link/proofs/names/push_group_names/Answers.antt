-- The names of a group, by its form.
use Rattle.std.proofs.Common.{◌≡◌, ◌++◌, OnOk, subst, sym, ap, ◌∙◌, append-nil}
use Rattle.elm_canon.specs.View.{group_view, pattern_view}
use Rattle.elm_canon.specs.declared.tree.Group.{Group}
use Rattle.elm_canon.proofs.Views.{together, constant, destructure}
use Rattle.elm_canon.specs.Proper.{group_names}
use Rattle.link.specs.Names.{top_names}
use Rattle.link.proofs.Naming.{no_tops}
use Rattle.link.proofs.names.push_group_names.Goals as goal

pub returns-in-Together : goal.returns-in-Together
returns-in-Together c =
    let names = c.args.names.now.items in
    subst (λ z. OnOk c.push_all_names.result (c.push_all_names.new.names.items ≡ names ++ z))
    (ap (λ g. top_names (group_names g)) (sym (together c.in-Together.functions))
    ∙ ap (λ (g : Group). top_names (group_names (group_view g))) (sym c.in-Together.is))
    c.push_all_names.ensures

pub returns-in-Constant : goal.returns-in-Constant
returns-in-Constant c =
    let names = c.args.names.now.items in
    subst (λ z. OnOk c.push_name.result (c.push_name.new.names.items ≡ names ++ z))
    (ap (λ g. top_names (group_names g)) (sym (constant c.in-Constant.title c.in-Constant.field-1))
    ∙ ap (λ (g : Group). top_names (group_names (group_view g))) (sym c.in-Constant.is))
    c.push_name.ensures

pub returns-in-Destructure : goal.returns-in-Destructure
returns-in-Destructure c =
    let names = c.args.names.now.items in
    sym (append-nil names)
    ∙ ap (λ z. names ++ z) (sym (no_tops (pattern_view c.in-Destructure.field-0))
    ∙ ap (λ g. top_names (group_names g)) (sym (destructure c.in-Destructure.field-0 c.in-Destructure.field-1))
    ∙ ap (λ (g : Group). top_names (group_names (group_view g))) (sym c.in-Destructure.is))
