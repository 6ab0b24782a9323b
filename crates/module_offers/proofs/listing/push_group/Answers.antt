-- The values of a group, by its form.
use Rattle.std.proofs.Common.{◌≡◌, ◌++◌, map, OnOk, subst, sym, ap, ◌∙◌, [], append-nil}
use Rattle.elm_canon.specs.Tree.{functions_of}
use Rattle.elm_canon.specs.View.{group_view, function_view}
use Rattle.elm_canon.specs.declared.tree.Group.{Group}
use Rattle.elm_canon.proofs.Views.{together, constant, destructure}
use Rattle.module_offers.specs.Offers.{named_by, function_values, group_values}
use Rattle.module_offers.specs.View.{values_view}
use Rattle.module_offers.proofs.listing.push_group.Goals as goal

pub returns-in-Together : goal.returns-in-Together
returns-in-Together g c =
    let told = g.T.Told.schemes c.args.told.now in
    let p = g.N.Naming.test c.args.naming.now in
    let old = values_view c.args.values.now.items in
    subst (λ z. OnOk c.push_functions.result (values_view c.push_functions.new.values.items ≡ old ++ named_by p z))
    (ap (λ fs. function_values told (functions_of (map function_view fs))) c.deref.ensures.value
    ∙ ap (group_values told) (sym (together c.in-Together.functions))
    ∙ ap (λ (x : Group). group_values told (group_view x)) (sym c.in-Together.is))
    c.push_functions.ensures

pub returns-in-Constant : goal.returns-in-Constant
returns-in-Constant g c =
    let told = g.T.Told.schemes c.args.told.now in
    let p = g.N.Naming.test c.args.naming.now in
    let old = values_view c.args.values.now.items in
    subst (λ z. OnOk c.push_defined.result (values_view c.push_defined.new.values.items ≡ old ++ named_by p z))
    (ap (group_values told) (sym (constant c.in-Constant.title c.in-Constant.field-1))
    ∙ ap (λ (x : Group). group_values told (group_view x)) (sym c.in-Constant.is))
    c.push_defined.ensures

pub returns-in-Destructure : goal.returns-in-Destructure
returns-in-Destructure g c =
    let told = g.T.Told.schemes c.args.told.now in
    let p = g.N.Naming.test c.args.naming.now in
    let old = values_view c.args.values.now.items in
    sym (append-nil old)
    ∙ ap (λ z. old ++ named_by p z)
    (ap (group_values told) (sym (destructure c.in-Destructure.field-0 c.in-Destructure.field-1))
    ∙ ap (λ (x : Group). group_values told (group_view x)) (sym c.in-Destructure.is))
