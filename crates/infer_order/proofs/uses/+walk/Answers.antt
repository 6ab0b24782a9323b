-- The uses of each form are those of its parts: one law of the view a form, and one part more in a list.
use Rattle.std.proofs.Common.{◌≡◌, [], ◌∷◌, ◌++◌, take, map, flat_map, OnOk, sym, ap, ◌∙◌, arith, refl, subst}
use Rattle.std.proofs.Common.{append-nil}
use Rattle.std.proofs.lemmas.List.Folds.{flat_map-map}
use Rattle.std.proofs.lemmas.Iterator.Adapters.{YieldsList-from_rev_slice}
use Rattle.std.proofs.lemmas.Iterator.Consumers.{YieldsList-end}
use Rattle.std.proofs.lemmas.List.{flat_map_more}
use Rattle.elm_canon.specs.Tree.{exprs_of, branches_of, groups_of, functions_of}
use Rattle.elm_canon.specs.View.{expr_view, link_view, branch_view, group_view, function_view}
use Rattle.elm_canon.proofs.Views as view
use Rattle.type_items.specs.Uses.{used, used_each, used_branches, used_groups, used_group, used_functions}
use Rattle.infer_order.specs.Owners.{all_numbers}
use Rattle.infer_order.specs.Links.{before, before_all, after}
use Rattle.infer_order.proofs.Using.{two, three, one, access_used, exprs_next, branches_next, groups_next}
use Rattle.infer_order.proofs.Using.{functions_next, links_next, linked_used, turned, also}
use Rattle.infer_order.proofs.Owning.{map_next}
use Rattle.infer_order.proofs.uses.+walk.Goals as goal

pub push_expr-returns-in-Literal : goal.push_expr-returns-in-Literal
push_expr-returns-in-Literal t c =
    sym (append-nil c.args.found.now.items) ∙ ap (λ us. c.args.found.now.items ++ us)
    (sym (ap (λ e. all_numbers c.args.owners.now (used (expr_view e))) c.in-Literal.is ∙ ap
    (λ e. all_numbers c.args.owners.now (used e)) (view.literal c.in-Literal.field-0)))

pub push_expr-returns-in-Name : goal.push_expr-returns-in-Name
push_expr-returns-in-Name t c =
    subst (λ z. OnOk c.push.result (c.push.new.found.items ≡ z))
    (ap (λ us. c.args.found.now.items ++ us)
    (sym (ap (λ e. all_numbers c.args.owners.now (used (expr_view e))) c.in-Name.is ∙ ap
    (λ e. all_numbers c.args.owners.now (used e)) (view.name c.in-Name.name) ∙ one c.args.owners.now c.in-Name.name)))
    c.push.ensures

pub push_expr-returns-in-Accessor : goal.push_expr-returns-in-Accessor
push_expr-returns-in-Accessor t c =
    sym (append-nil c.args.found.now.items) ∙ ap (λ us. c.args.found.now.items ++ us)
    (sym (ap (λ e. all_numbers c.args.owners.now (used (expr_view e))) c.in-Accessor.is ∙ ap
    (λ e. all_numbers c.args.owners.now (used e)) (view.accessor c.in-Accessor.field-0)))

pub push_expr-returns-in-Strict : goal.push_expr-returns-in-Strict
push_expr-returns-in-Strict t c =
    subst (λ z. OnOk c.push_all-in-Strict.result (c.push_all-in-Strict.new.found.items ≡ z))
    (ap (λ us. c.args.found.now.items ++ us)
    (ap (λ l. all_numbers c.args.owners.now (used_each (exprs_of (map expr_view l)))) c.deref-in-Strict.ensures.value ∙
    sym (ap (λ e. all_numbers c.args.owners.now (used (expr_view e))) c.in-Strict.is ∙ ap
    (λ e. all_numbers c.args.owners.now (used e)) (view.strict c.in-Strict.field-0 c.in-Strict.parts))))
    c.push_all-in-Strict.ensures

pub push_expr-returns-in-Access : goal.push_expr-returns-in-Access
push_expr-returns-in-Access t c =
    subst (λ z. OnOk c.push_expr-in-Access.result (c.push_expr-in-Access.new.found.items ≡ z))
    (ap (λ us. c.args.found.now.items ++ us)
    (ap (λ e. all_numbers c.args.owners.now (used (expr_view e))) c.deref-in-Access.ensures ∙ sym
    (ap (λ e. all_numbers c.args.owners.now (used (expr_view e))) c.in-Access.is ∙ ap
    (λ e. all_numbers c.args.owners.now (used e)) (view.access c.in-Access.inner c.in-Access.field-1) ∙ ap
    (all_numbers c.args.owners.now) (access_used (expr_view c.in-Access.inner.value) c.in-Access.field-1.items))))
    c.push_expr-in-Access.ensures

pub push_expr-returns-in-Located : goal.push_expr-returns-in-Located
push_expr-returns-in-Located t c =
    subst (λ z. OnOk c.push_expr-in-Located.result (c.push_expr-in-Located.new.found.items ≡ z))
    (ap (λ us. c.args.found.now.items ++ us)
    (ap (λ e. all_numbers c.args.owners.now (used (expr_view e))) c.deref-in-Located.ensures ∙ sym
    (ap (λ e. all_numbers c.args.owners.now (used (expr_view e))) c.in-Located.is ∙ ap
    (λ e. all_numbers c.args.owners.now (used e)) (view.located c.in-Located.field-0 c.in-Located.inner))))
    c.push_expr-in-Located.ensures

pub push_expr-returns-in-Lambda : goal.push_expr-returns-in-Lambda
push_expr-returns-in-Lambda t c =
    subst (λ z. OnOk c.push_expr.result (c.push_expr.new.found.items ≡ z))
    (ap (λ us. c.args.found.now.items ++ us)
    (ap (λ e. all_numbers c.args.owners.now (used (expr_view e))) c.deref.ensures ∙ sym
    (ap (λ e. all_numbers c.args.owners.now (used (expr_view e))) c.in-Lambda.is ∙ ap
    (λ e. all_numbers c.args.owners.now (used e)) (view.lambda c.in-Lambda.field-0 c.in-Lambda.body))))
    c.push_expr.ensures

pub push_expr-returns-in_ok-push_expr-in-Apply : goal.push_expr-returns-in_ok-push_expr-in-Apply
push_expr-returns-in_ok-push_expr-in-Apply t c =
    subst (λ z. OnOk c.push_all.result (c.push_all.new.found.items ≡ z))
    (also c.args.found.now.items c.push_expr-in-Apply.new.found.items
    (all_numbers c.args.owners.now (used (expr_view c.deref-in-Apply.result.now)))
    (all_numbers c.args.owners.now (used_each (exprs_of (map expr_view c.deref-in-Apply-2.result.now))))
    (all_numbers c.args.owners.now (used (expr_view c.args.expr.now))) c.in_ok-push_expr-in-Apply.ensures
    (ap (λ z. all_numbers c.args.owners.now (used (expr_view z)) ++ all_numbers c.args.owners.now
    (used_each (exprs_of (map expr_view c.deref-in-Apply-2.result.now)))) c.deref-in-Apply.ensures ∙ ap
    (λ z. all_numbers c.args.owners.now (used (expr_view c.in-Apply.function.value)) ++ all_numbers c.args.owners.now
    (used_each (exprs_of (map expr_view z)))) c.deref-in-Apply-2.ensures.value
    ∙ sym (ap (λ e. all_numbers c.args.owners.now (used (expr_view e))) c.in-Apply.is ∙ ap
    (λ e. all_numbers c.args.owners.now (used e)) (view.apply c.in-Apply.function c.in-Apply.arguments) ∙ two
    c.args.owners.now (used (expr_view c.in-Apply.function.value))
    (used_each (exprs_of (map expr_view c.in-Apply.arguments.items))))))
    c.push_all.ensures

pub push_expr-returns-in_ok-push_groups-in-Let : goal.push_expr-returns-in_ok-push_groups-in-Let
push_expr-returns-in_ok-push_groups-in-Let t c =
    subst (λ z. OnOk c.push_expr-in-Let.result (c.push_expr-in-Let.new.found.items ≡ z))
    (also c.args.found.now.items c.push_groups.new.found.items
    (all_numbers c.args.owners.now (used_groups (groups_of (map group_view c.deref-in-Let.result.now))))
    (all_numbers c.args.owners.now (used (expr_view c.deref-in-Let-2.result.now)))
    (all_numbers c.args.owners.now (used (expr_view c.args.expr.now))) c.in_ok-push_groups-in-Let.ensures
    (ap (λ z. all_numbers c.args.owners.now (used_groups (groups_of (map group_view z))) ++ all_numbers
    c.args.owners.now (used (expr_view c.deref-in-Let-2.result.now))) c.deref-in-Let.ensures.value ∙ ap
    (λ z. all_numbers c.args.owners.now (used_groups (groups_of (map group_view c.in-Let.groups.items))) ++ all_numbers
    c.args.owners.now (used (expr_view z))) c.deref-in-Let-2.ensures
    ∙ sym (ap (λ e. all_numbers c.args.owners.now (used (expr_view e))) c.in-Let.is ∙ ap
    (λ e. all_numbers c.args.owners.now (used e)) (view.let_in c.in-Let.groups c.in-Let.body) ∙ two c.args.owners.now
    (used_groups (groups_of (map group_view c.in-Let.groups.items))) (used (expr_view c.in-Let.body.value)))))
    c.push_expr-in-Let.ensures

pub push_expr-returns-in_ok-push_expr-in-If-2 : goal.push_expr-returns-in_ok-push_expr-in-If-2
push_expr-returns-in_ok-push_expr-in-If-2 t c =
    subst (λ z. OnOk c.push_expr-in-If-3.result (c.push_expr-in-If-3.new.found.items ≡ z))
    (also c.args.found.now.items c.push_expr-in-If-2.new.found.items
    (all_numbers c.args.owners.now (used (expr_view c.deref-in-If.result.now)) ++ all_numbers c.args.owners.now
    (used (expr_view c.deref-in-If-2.result.now)))
    (all_numbers c.args.owners.now (used (expr_view c.deref-in-If-3.result.now)))
    (all_numbers c.args.owners.now (used (expr_view c.args.expr.now)))
    (c.in_ok-push_expr-in-If-2.ensures ∙ also c.args.found.now.items c.push_expr-in-If.new.found.items
    (all_numbers c.args.owners.now (used (expr_view c.deref-in-If.result.now)))
    (all_numbers c.args.owners.now (used (expr_view c.deref-in-If-2.result.now)))
    (all_numbers c.args.owners.now (used (expr_view c.deref-in-If.result.now)) ++ all_numbers c.args.owners.now
    (used (expr_view c.deref-in-If-2.result.now))) c.in_ok-push_expr-in-If.ensures refl)
    (ap (λ z. all_numbers c.args.owners.now (used (expr_view z)) ++ all_numbers c.args.owners.now
    (used (expr_view c.deref-in-If-2.result.now)) ++ all_numbers c.args.owners.now
    (used (expr_view c.deref-in-If-3.result.now))) c.deref-in-If.ensures
    ∙ ap (λ z. all_numbers c.args.owners.now (used (expr_view c.in-If.condition.value)) ++ all_numbers c.args.owners.now
    (used (expr_view z)) ++ all_numbers c.args.owners.now (used (expr_view c.deref-in-If-3.result.now)))
    c.deref-in-If-2.ensures
    ∙ ap (λ z. all_numbers c.args.owners.now (used (expr_view c.in-If.condition.value)) ++ all_numbers c.args.owners.now
    (used (expr_view c.in-If.yes.value)) ++ all_numbers c.args.owners.now (used (expr_view z))) c.deref-in-If-3.ensures
    ∙ sym (ap (λ e. all_numbers c.args.owners.now (used (expr_view e))) c.in-If.is ∙ ap
    (λ e. all_numbers c.args.owners.now (used e)) (view.conditional c.in-If.condition c.in-If.yes c.in-If.no) ∙ three
    c.args.owners.now (used (expr_view c.in-If.condition.value)) (used (expr_view c.in-If.yes.value))
    (used (expr_view c.in-If.no.value)))))
    c.push_expr-in-If-3.ensures

pub push_expr-returns-in_ok-push_expr-in-Chain : goal.push_expr-returns-in_ok-push_expr-in-Chain
push_expr-returns-in_ok-push_expr-in-Chain t c =
    let old = c.args.found.now.items in
    let o = c.args.owners.now in
    let first = all_numbers o (before_all (map link_view c.deref-in-Chain.result.now)) in
    let own = all_numbers o (used (expr_view c.deref-in-Chain-2.result.now)) in
    let last = all_numbers o (flat_map after (map link_view c.deref-in-Chain-3.result.now)) in
    let ls = map link_view c.in-Chain.links.items in
    let e = expr_view c.in-Chain.first.value in
    subst (λ z. OnOk c.push_after.result (c.push_after.new.found.items ≡ z))
    (also old c.push_expr-in-Chain.new.found.items (first ++ own) last
    (all_numbers o (used (expr_view c.args.expr.now)))
    (c.in_ok-push_expr-in-Chain.ensures ∙ also old c.push_before.new.found.items first own (first ++ own)
    c.in_ok-push_before-in-Chain.ensures refl)
    (ap (λ z. all_numbers o (before_all (map link_view z)) ++ own ++ last) c.deref-in-Chain.ensures.value
    ∙ ap (λ z. all_numbers o (before_all ls) ++ all_numbers o (used (expr_view z)) ++ last) c.deref-in-Chain-2.ensures
    ∙ ap (λ z. all_numbers o (before_all ls) ++ all_numbers o (used e) ++ all_numbers o
    (flat_map after (map link_view z))) c.deref-in-Chain-3.ensures.value
    ∙ sym (ap (λ e. all_numbers o (used (expr_view e))) c.in-Chain.is ∙ ap (λ e. all_numbers o (used e))
    (view.chain c.in-Chain.first c.in-Chain.links)
    ∙ ap (all_numbers o) (linked_used e ls) ∙ three o (before_all ls) (used e) (flat_map after ls))))
    c.push_after.ensures

pub push_expr-returns-in_ok-push_expr-in-Case : goal.push_expr-returns-in_ok-push_expr-in-Case
push_expr-returns-in_ok-push_expr-in-Case t c =
    subst (λ z. OnOk c.push_branches.result (c.push_branches.new.found.items ≡ z))
    (also c.args.found.now.items c.push_expr-in-Case.new.found.items
    (all_numbers c.args.owners.now (used (expr_view c.deref-in-Case.result.now)))
    (all_numbers c.args.owners.now (used_branches (branches_of (map branch_view c.deref-in-Case-2.result.now))))
    (all_numbers c.args.owners.now (used (expr_view c.args.expr.now))) c.in_ok-push_expr-in-Case.ensures
    (ap (λ z. all_numbers c.args.owners.now (used (expr_view z)) ++ all_numbers c.args.owners.now
    (used_branches (branches_of (map branch_view c.deref-in-Case-2.result.now)))) c.deref-in-Case.ensures
    ∙ ap (λ z. all_numbers c.args.owners.now (used (expr_view c.in-Case.subject.value)) ++ all_numbers c.args.owners.now
    (used_branches (branches_of (map branch_view z)))) c.deref-in-Case-2.ensures.value
    ∙ sym (ap (λ e. all_numbers c.args.owners.now (used (expr_view e))) c.in-Case.is ∙ ap
    (λ e. all_numbers c.args.owners.now (used e)) (view.case_of c.in-Case.subject c.in-Case.branches)
    ∙ two c.args.owners.now (used (expr_view c.in-Case.subject.value))
    (used_branches (branches_of (map branch_view c.in-Case.branches.items))))))
    c.push_branches.ensures

pub push_group-returns-in-Together : goal.push_group-returns-in-Together
push_group-returns-in-Together t c =
    subst (λ z. OnOk c.push_functions.result (c.push_functions.new.found.items ≡ z))
    (ap (λ us. c.args.found.now.items ++ us)
    (ap (λ l. all_numbers c.args.owners.now (used_functions (functions_of (map function_view l)))) c.deref.ensures.value
    ∙ sym (ap (λ e. all_numbers c.args.owners.now (used_group (group_view e))) c.in-Together.is ∙ ap
    (λ e. all_numbers c.args.owners.now (used_group e)) (view.together c.in-Together.functions))))
    c.push_functions.ensures

pub push_group-returns-in-Constant : goal.push_group-returns-in-Constant
push_group-returns-in-Constant t c =
    subst (λ z. OnOk c.push_expr.result (c.push_expr.new.found.items ≡ z))
    (ap (λ us. c.args.found.now.items ++ us)
    (ap (λ e. all_numbers c.args.owners.now (used (expr_view e))) c.deref-in-Constant.ensures ∙ sym
    (ap (λ e. all_numbers c.args.owners.now (used_group (group_view e))) c.in-Constant.is ∙ ap
    (λ e. all_numbers c.args.owners.now (used_group e)) (view.constant c.in-Constant.field-0 c.in-Constant.body))))
    c.push_expr.ensures

pub push_group-returns-in-Destructure : goal.push_group-returns-in-Destructure
push_group-returns-in-Destructure t c =
    subst (λ z. OnOk c.push_expr-in-Destructure.result (c.push_expr-in-Destructure.new.found.items ≡ z))
    (ap (λ us. c.args.found.now.items ++ us)
    (ap (λ e. all_numbers c.args.owners.now (used (expr_view e))) c.deref-in-Destructure.ensures ∙ sym
    (ap (λ e. all_numbers c.args.owners.now (used_group (group_view e))) c.in-Destructure.is ∙ ap
    (λ e. all_numbers c.args.owners.now (used_group e))
    (view.destructure c.in-Destructure.field-0 c.in-Destructure.body))))
    c.push_expr-in-Destructure.ensures

pub push_all-loop-expr-preserved : goal.push_all-loop-expr-preserved
push_all-loop-expr-preserved t c =
    let i = c.loop-expr.expr-index in
    let x = c.expr-item.result in
    let first = map expr_view (take i c.args.exprs.now) in
    c.in_ok-push_expr.ensures
    ∙ also c.args.found.now.items c.loop-expr.found.items (all_numbers c.args.owners.now (used_each (exprs_of first)))
    (all_numbers c.args.owners.now (used (expr_view x)))
    (all_numbers c.args.owners.now (used_each (exprs_of (first ++ expr_view x ∷ [])))) c.loop-expr.invariant
    (exprs_next c.args.owners.now first (expr_view x))
    ∙ ap (λ l. c.args.found.now.items ++ all_numbers c.args.owners.now (used_each (exprs_of l)))
    (sym (map_next expr_view c.args.exprs.now i x (omega arith) c.expr-item.is))

pub push_branches-loop-branch-preserved : goal.push_branches-loop-branch-preserved
push_branches-loop-branch-preserved t c =
    let i = c.loop-branch.branch-index in
    let x = c.branch-item.result in
    let first = map branch_view (take i c.args.branches.now) in
    c.in_ok-push_expr.ensures
    ∙ also c.args.found.now.items c.loop-branch.found.items
    (all_numbers c.args.owners.now (used_branches (branches_of first)))
    (all_numbers c.args.owners.now (used (expr_view c.deref.result.now)))
    (all_numbers c.args.owners.now (used_branches (branches_of (first ++ branch_view x ∷ [])))) c.loop-branch.invariant
    (ap (λ e. all_numbers c.args.owners.now (used_branches (branches_of first)) ++ all_numbers c.args.owners.now
    (used (expr_view e))) c.deref.ensures ∙ ap
    (λ b. all_numbers c.args.owners.now (used_branches (branches_of first)) ++ all_numbers c.args.owners.now (used b.1))
    (sym (view.branch x)) ∙ branches_next c.args.owners.now first (branch_view x))
    ∙ ap (λ l. c.args.found.now.items ++ all_numbers c.args.owners.now (used_branches (branches_of l)))
    (sym (map_next branch_view c.args.branches.now i x (omega arith) c.branch-item.is))

pub push_groups-loop-group-preserved : goal.push_groups-loop-group-preserved
push_groups-loop-group-preserved t c =
    let i = c.loop-group.group-index in
    let x = c.group-item.result in
    let first = map group_view (take i c.args.groups.now) in
    c.in_ok-push_group.ensures
    ∙ also c.args.found.now.items c.loop-group.found.items
    (all_numbers c.args.owners.now (used_groups (groups_of first)))
    (all_numbers c.args.owners.now (used_group (group_view x)))
    (all_numbers c.args.owners.now (used_groups (groups_of (first ++ group_view x ∷ [])))) c.loop-group.invariant
    (groups_next c.args.owners.now first (group_view x))
    ∙ ap (λ l. c.args.found.now.items ++ all_numbers c.args.owners.now (used_groups (groups_of l)))
    (sym (map_next group_view c.args.groups.now i x (omega arith) c.group-item.is))

pub push_functions-loop-function-preserved : goal.push_functions-loop-function-preserved
push_functions-loop-function-preserved t c =
    let i = c.loop-function.function-index in
    let x = c.function-item.result in
    let first = map function_view (take i c.args.functions.now) in
    c.in_ok-push_expr.ensures
    ∙ also c.args.found.now.items c.loop-function.found.items
    (all_numbers c.args.owners.now (used_functions (functions_of first)))
    (all_numbers c.args.owners.now (used (expr_view c.deref.result.now)))
    (all_numbers c.args.owners.now (used_functions (functions_of (first ++ function_view x ∷ []))))
    c.loop-function.invariant
    (ap (λ e. all_numbers c.args.owners.now (used_functions (functions_of first)) ++ all_numbers c.args.owners.now
    (used (expr_view e))) c.deref.ensures ∙ ap
    (λ f. all_numbers c.args.owners.now (used_functions (functions_of first)) ++ all_numbers c.args.owners.now
    (used f.2)) (sym (view.function x)) ∙ functions_next c.args.owners.now first (function_view x))
    ∙ ap (λ l. c.args.found.now.items ++ all_numbers c.args.owners.now (used_functions (functions_of l)))
    (sym (map_next function_view c.args.functions.now i x (omega arith) c.function-item.is))

pub push_one_before-returns-in_ok-push_expr-in-Given : goal.push_one_before-returns-in_ok-push_expr-in-Given
push_one_before-returns-in_ok-push_expr-in-Given t c =
    subst (λ z. OnOk c.push_all.result (c.push_all.new.found.items ≡ z))
    (also c.args.found.now.items c.push_expr.new.found.items
    (all_numbers c.args.owners.now (used (expr_view c.deref.result.now)))
    (all_numbers c.args.owners.now (used_each (exprs_of (map expr_view c.deref-in-Given.result.now))))
    (all_numbers c.args.owners.now (before (link_view c.args.link.now))) c.in_ok-push_expr-in-Given.ensures
    (ap (λ z. all_numbers c.args.owners.now (used (expr_view z)) ++ all_numbers c.args.owners.now
    (used_each (exprs_of (map expr_view c.deref-in-Given.result.now)))) c.deref.ensures
    ∙ ap (λ z. all_numbers c.args.owners.now (used (expr_view c.in-Given.function.value)) ++ all_numbers
    c.args.owners.now (used_each (exprs_of (map expr_view z)))) c.deref-in-Given.ensures.value
    ∙ sym (ap (λ l. all_numbers c.args.owners.now (before (link_view l))) c.in-Given.is ∙ ap
    (λ l. all_numbers c.args.owners.now (before l)) (view.given c.in-Given.function c.in-Given.arguments)
    ∙ two c.args.owners.now (used (expr_view c.in-Given.function.value))
    (used_each (exprs_of (map expr_view c.in-Given.arguments.items))))))
    c.push_all.ensures

pub push_one_before-returns-in-Composed : goal.push_one_before-returns-in-Composed
push_one_before-returns-in-Composed t c =
    subst (λ z. OnOk c.push_expr-in-Composed.result (c.push_expr-in-Composed.new.found.items ≡ z))
    (ap (λ us. c.args.found.now.items ++ us)
    (ap (λ e. all_numbers c.args.owners.now (used (expr_view e))) c.deref-in-Composed.ensures ∙ sym
    (ap (λ l. all_numbers c.args.owners.now (before (link_view l))) c.in-Composed.is ∙ ap
    (λ l. all_numbers c.args.owners.now (before l)) (view.composed c.in-Composed.function c.in-Composed.field-1))))
    c.push_expr-in-Composed.ensures

pub push_one_before-returns-in-After : goal.push_one_before-returns-in-After
push_one_before-returns-in-After t c =
    subst (λ z. OnOk c.push_all-in-After.result (c.push_all-in-After.new.found.items ≡ z))
    (ap (λ us. c.args.found.now.items ++ us)
    (ap (λ l. all_numbers c.args.owners.now (used_each (exprs_of (map expr_view l)))) c.deref-in-After.ensures.value ∙
    sym (ap (λ l. all_numbers c.args.owners.now (before (link_view l))) c.in-After.is ∙ ap
    (λ l. all_numbers c.args.owners.now (before l)) (view.part_after c.in-After.field-0 c.in-After.parts))))
    c.push_all-in-After.ensures

pub push_one_before-returns-in-Before : goal.push_one_before-returns-in-Before
push_one_before-returns-in-Before t c =
    sym (append-nil c.args.found.now.items) ∙ ap (λ us. c.args.found.now.items ++ us)
    (sym (ap (λ l. all_numbers c.args.owners.now (before (link_view l))) c.in-Before.is ∙ ap
    (λ l. all_numbers c.args.owners.now (before l)) (view.part_before c.in-Before.field-0 c.in-Before.field-1)))

pub push_one_before-returns-in-Decided : goal.push_one_before-returns-in-Decided
push_one_before-returns-in-Decided t c =
    subst (λ z. OnOk c.push_expr-in-Decided.result (c.push_expr-in-Decided.new.found.items ≡ z))
    (ap (λ us. c.args.found.now.items ++ us)
    (ap (λ e. all_numbers c.args.owners.now (used (expr_view e))) c.deref-in-Decided.ensures ∙ sym
    (ap (λ l. all_numbers c.args.owners.now (before (link_view l))) c.in-Decided.is ∙ ap
    (λ l. all_numbers c.args.owners.now (before l))
    (view.decided c.in-Decided.field-0 c.in-Decided.field-1 c.in-Decided.left))))
    c.push_expr-in-Decided.ensures

pub push_one_after-returns-in-Given : goal.push_one_after-returns-in-Given
push_one_after-returns-in-Given t c =
    sym (append-nil c.args.found.now.items) ∙ ap (λ us. c.args.found.now.items ++ us)
    (sym (ap (λ l. all_numbers c.args.owners.now (after (link_view l))) c.in-Given.is ∙ ap
    (λ l. all_numbers c.args.owners.now (after l)) (view.given c.in-Given.field-0 c.in-Given.field-1)))

pub push_one_after-returns-in-Composed : goal.push_one_after-returns-in-Composed
push_one_after-returns-in-Composed t c =
    subst (λ z. OnOk c.push_expr.result (c.push_expr.new.found.items ≡ z))
    (ap (λ us. c.args.found.now.items ++ us)
    (ap (λ e. all_numbers c.args.owners.now (used (expr_view e))) c.deref.ensures ∙ sym
    (ap (λ l. all_numbers c.args.owners.now (after (link_view l))) c.in-Composed.is ∙ ap
    (λ l. all_numbers c.args.owners.now (after l)) (view.composed c.in-Composed.field-0 c.in-Composed.right))))
    c.push_expr.ensures

pub push_one_after-returns-in-After : goal.push_one_after-returns-in-After
push_one_after-returns-in-After t c =
    sym (append-nil c.args.found.now.items) ∙ ap (λ us. c.args.found.now.items ++ us)
    (sym (ap (λ l. all_numbers c.args.owners.now (after (link_view l))) c.in-After.is ∙ ap
    (λ l. all_numbers c.args.owners.now (after l)) (view.part_after c.in-After.field-0 c.in-After.field-1)))

pub push_one_after-returns-in-Before : goal.push_one_after-returns-in-Before
push_one_after-returns-in-Before t c =
    subst (λ z. OnOk c.push_expr-in-Before.result (c.push_expr-in-Before.new.found.items ≡ z))
    (ap (λ us. c.args.found.now.items ++ us)
    (ap (λ e. all_numbers c.args.owners.now (used (expr_view e))) c.deref-in-Before.ensures ∙ sym
    (ap (λ l. all_numbers c.args.owners.now (after (link_view l))) c.in-Before.is ∙ ap
    (λ l. all_numbers c.args.owners.now (after l)) (view.part_before c.in-Before.field-0 c.in-Before.right))))
    c.push_expr-in-Before.ensures

pub push_one_after-returns-in-Decided : goal.push_one_after-returns-in-Decided
push_one_after-returns-in-Decided t c =
    sym (append-nil c.args.found.now.items) ∙ ap (λ us. c.args.found.now.items ++ us)
    (sym (ap (λ l. all_numbers c.args.owners.now (after (link_view l))) c.in-Decided.is ∙ ap
    (λ l. all_numbers c.args.owners.now (after l))
    (view.decided c.in-Decided.field-0 c.in-Decided.field-1 c.in-Decided.field-2)))

pub push_before-loop-link-preserved : goal.push_before-loop-link-preserved
push_before-loop-link-preserved t c =
    c.in_ok-push_one_before.ensures
    ∙ ap (λ us. us ++ all_numbers c.args.owners.now (before (link_view c.in-Some.link.now))) c.loop-link.invariant
    ∙ flat_map_more (λ y. all_numbers c.args.owners.now (before (link_view y.now))) c.args.found.now.items
    c.loop-link.yielded c.in-Some.link

pub push_before-returns : goal.push_before-returns
push_before-returns t c =
    let links = c.args.links.now in
    let o = c.args.owners.now in
    let e = YieldsList-end (YieldsList-from_rev_slice links cc) c.loop-link.yielded _ c.loop-link.yielded_by _ _
    c.in-None.is c.next.ensures.steps in
    c.loop-link.invariant
    ∙ ap (λ us. c.args.found.now.items ++ us)
    (sym (flat_map-map (λ l. all_numbers o (before (link_view l))) (λ y. y.now) c.loop-link.yielded)
    ∙ ap (flat_map (λ l. all_numbers o (before (link_view l)))) e.0 ∙ turned o links)

pub push_after-loop-link-preserved : goal.push_after-loop-link-preserved
push_after-loop-link-preserved t c =
    let i = c.loop-link.link-index in
    let x = c.link-item.result in
    let first = map link_view (take i c.args.links.now) in
    c.in_ok-push_one_after.ensures
    ∙ also c.args.found.now.items c.loop-link.found.items (all_numbers c.args.owners.now (flat_map after first))
    (all_numbers c.args.owners.now (after (link_view x)))
    (all_numbers c.args.owners.now (flat_map after (first ++ link_view x ∷ []))) c.loop-link.invariant
    (links_next c.args.owners.now first (link_view x))
    ∙ ap (λ l. c.args.found.now.items ++ all_numbers c.args.owners.now (flat_map after l))
    (sym (map_next link_view c.args.links.now i x (omega arith) c.link-item.is))
