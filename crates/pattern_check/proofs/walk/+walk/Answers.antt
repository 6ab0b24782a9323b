-- The faults of each form are those of its parts: one law of the view a form, and one part more in a list.
use Rattle.std.proofs.Common.{◌≡◌, [], ◌∷◌, ◌++◌, take, map, flat_map, OnOk, sym, ap, ◌∙◌, arith, refl, subst, append-nil, append_assoc}
use Rattle.std.proofs.lemmas.List.Folds.{flat_map-map}
use Rattle.std.proofs.lemmas.Iterator.Adapters.{YieldsList-from_rev_slice}
use Rattle.std.proofs.lemmas.Iterator.Consumers.{YieldsList-end}
use Rattle.std.proofs.lemmas.List.{flat_map_more}
use Rattle.elm_canon.specs.Tree.{exprs_of, branches_of, groups_of, functions_of}
use Rattle.elm_canon.specs.View.{expr_view, link_view, branch_view, group_view, function_view, pattern_view, patterns_view}
use Rattle.elm_canon.proofs.Views as view
use Rattle.canon_env.proofs.Filtering.{map_next}
use Rattle.pattern_check.specs.Sites.{Choice, Sole, branch_patterns, sole_sites, expr_sites, exprs_sites, branches_sites}
use Rattle.pattern_check.specs.Sites.{groups_sites, group_sites, functions_sites}
use Rattle.pattern_check.specs.Faults.{faults, faults_at}
use Rattle.pattern_check.specs.Links.{before, before_all, after}
use Rattle.pattern_check.proofs.Adding.{two, three, access_sites, exprs_next, branches_next, groups_next, functions_next, also}
use Rattle.pattern_check.proofs.Linking.{linked_faults, turned}
use Rattle.pattern_check.proofs.walk.+walk.Goals as goal

pub push_expr-returns-in-Literal : goal.push_expr-returns-in-Literal
push_expr-returns-in-Literal t c =
    sym (append-nil c.args.findings.now.items) ∙ ap (λ us. c.args.findings.now.items ++ us) (sym (ap (λ e. faults (expr_sites c.args.here (expr_view e))) c.in-Literal.is ∙ ap (λ e. faults (expr_sites c.args.here e)) (view.literal c.in-Literal.field-0)))

pub push_expr-returns-in-Name : goal.push_expr-returns-in-Name
push_expr-returns-in-Name t c =
    sym (append-nil c.args.findings.now.items) ∙ ap (λ us. c.args.findings.now.items ++ us) (sym (ap (λ e. faults (expr_sites c.args.here (expr_view e))) c.in-Name.is ∙ ap (λ e. faults (expr_sites c.args.here e)) (view.name c.in-Name.field-0)))

pub push_expr-returns-in-Accessor : goal.push_expr-returns-in-Accessor
push_expr-returns-in-Accessor t c =
    sym (append-nil c.args.findings.now.items) ∙ ap (λ us. c.args.findings.now.items ++ us) (sym (ap (λ e. faults (expr_sites c.args.here (expr_view e))) c.in-Accessor.is ∙ ap (λ e. faults (expr_sites c.args.here e)) (view.accessor c.in-Accessor.field-0)))

pub push_expr-returns-in-Strict : goal.push_expr-returns-in-Strict
push_expr-returns-in-Strict t c =
    subst (λ z. OnOk c.push_all-in-Strict.result (c.push_all-in-Strict.new.findings.items ≡ z))
    (ap (λ us. c.args.findings.now.items ++ us) (ap (λ l. faults (exprs_sites c.args.here (exprs_of (map expr_view l)))) c.deref-in-Strict.ensures.value ∙ sym (ap (λ e. faults (expr_sites c.args.here (expr_view e))) c.in-Strict.is ∙ ap (λ e. faults (expr_sites c.args.here e)) (view.strict c.in-Strict.field-0 c.in-Strict.parts))))
    c.push_all-in-Strict.ensures

pub push_expr-returns-in-Access : goal.push_expr-returns-in-Access
push_expr-returns-in-Access t c =
    subst (λ z. OnOk c.push_expr-in-Access.result (c.push_expr-in-Access.new.findings.items ≡ z))
    (ap (λ us. c.args.findings.now.items ++ us) (ap (λ e. faults (expr_sites c.args.here (expr_view e))) c.deref-in-Access.ensures ∙ sym (ap (λ e. faults (expr_sites c.args.here (expr_view e))) c.in-Access.is ∙ ap (λ e. faults (expr_sites c.args.here e)) (view.access c.in-Access.inner c.in-Access.field-1) ∙ ap faults (access_sites c.args.here (expr_view c.in-Access.inner.value) c.in-Access.field-1.items))))
    c.push_expr-in-Access.ensures

pub push_expr-returns-in-Located : goal.push_expr-returns-in-Located
push_expr-returns-in-Located t c =
    subst (λ z. OnOk c.push_expr-in-Located.result (c.push_expr-in-Located.new.findings.items ≡ z))
    (ap (λ us. c.args.findings.now.items ++ us) (ap (λ e. faults (expr_sites c.in-Located.place (expr_view e))) c.deref-in-Located.ensures ∙ sym (ap (λ e. faults (expr_sites c.args.here (expr_view e))) c.in-Located.is ∙ ap (λ e. faults (expr_sites c.args.here e)) (view.located c.in-Located.place c.in-Located.inner))))
    c.push_expr-in-Located.ensures

pub push_expr-returns-in_ok-push_soles-in-Lambda : goal.push_expr-returns-in_ok-push_soles-in-Lambda
push_expr-returns-in_ok-push_soles-in-Lambda t c =
    subst (λ z. OnOk c.push_expr.result (c.push_expr.new.findings.items ≡ z))
    (also c.args.findings.now.items c.push_soles.new.findings.items (faults (sole_sites c.args.here (patterns_view c.deref.result.now))) (faults (expr_sites c.args.here (expr_view c.deref-in-Lambda.result.now)))
    (faults (expr_sites c.args.here (expr_view c.args.expr.now))) c.in_ok-push_soles-in-Lambda.ensures
    (ap (λ z. faults (sole_sites c.args.here (patterns_view z)) ++ faults (expr_sites c.args.here (expr_view c.deref-in-Lambda.result.now))) c.deref.ensures.value ∙ ap (λ z. faults (sole_sites c.args.here (patterns_view c.in-Lambda.parameters.items)) ++ faults (expr_sites c.args.here (expr_view z))) c.deref-in-Lambda.ensures
    ∙ sym (ap (λ e. faults (expr_sites c.args.here (expr_view e))) c.in-Lambda.is ∙ ap (λ e. faults (expr_sites c.args.here e)) (view.lambda c.in-Lambda.parameters c.in-Lambda.body) ∙ two (sole_sites c.args.here (patterns_view c.in-Lambda.parameters.items)) (expr_sites c.args.here (expr_view c.in-Lambda.body.value)))))
    c.push_expr.ensures

pub push_expr-returns-in_ok-push_expr-in-Apply : goal.push_expr-returns-in_ok-push_expr-in-Apply
push_expr-returns-in_ok-push_expr-in-Apply t c =
    subst (λ z. OnOk c.push_all.result (c.push_all.new.findings.items ≡ z))
    (also c.args.findings.now.items c.push_expr-in-Apply.new.findings.items (faults (expr_sites c.args.here (expr_view c.deref-in-Apply.result.now))) (faults (exprs_sites c.args.here (exprs_of (map expr_view c.deref-in-Apply-2.result.now))))
    (faults (expr_sites c.args.here (expr_view c.args.expr.now))) c.in_ok-push_expr-in-Apply.ensures
    (ap (λ z. faults (expr_sites c.args.here (expr_view z)) ++ faults (exprs_sites c.args.here (exprs_of (map expr_view c.deref-in-Apply-2.result.now)))) c.deref-in-Apply.ensures ∙ ap (λ z. faults (expr_sites c.args.here (expr_view c.in-Apply.function.value)) ++ faults (exprs_sites c.args.here (exprs_of (map expr_view z)))) c.deref-in-Apply-2.ensures.value
    ∙ sym (ap (λ e. faults (expr_sites c.args.here (expr_view e))) c.in-Apply.is ∙ ap (λ e. faults (expr_sites c.args.here e)) (view.apply c.in-Apply.function c.in-Apply.arguments) ∙ two (expr_sites c.args.here (expr_view c.in-Apply.function.value)) (exprs_sites c.args.here (exprs_of (map expr_view c.in-Apply.arguments.items))))))
    c.push_all.ensures

pub push_expr-returns-in_ok-push_groups-in-Let : goal.push_expr-returns-in_ok-push_groups-in-Let
push_expr-returns-in_ok-push_groups-in-Let t c =
    subst (λ z. OnOk c.push_expr-in-Let.result (c.push_expr-in-Let.new.findings.items ≡ z))
    (also c.args.findings.now.items c.push_groups.new.findings.items (faults (groups_sites c.args.here (groups_of (map group_view c.deref-in-Let.result.now)))) (faults (expr_sites c.args.here (expr_view c.deref-in-Let-2.result.now)))
    (faults (expr_sites c.args.here (expr_view c.args.expr.now))) c.in_ok-push_groups-in-Let.ensures
    (ap (λ z. faults (groups_sites c.args.here (groups_of (map group_view z))) ++ faults (expr_sites c.args.here (expr_view c.deref-in-Let-2.result.now))) c.deref-in-Let.ensures.value ∙ ap (λ z. faults (groups_sites c.args.here (groups_of (map group_view c.in-Let.groups.items))) ++ faults (expr_sites c.args.here (expr_view z))) c.deref-in-Let-2.ensures
    ∙ sym (ap (λ e. faults (expr_sites c.args.here (expr_view e))) c.in-Let.is ∙ ap (λ e. faults (expr_sites c.args.here e)) (view.let_in c.in-Let.groups c.in-Let.body) ∙ two (groups_sites c.args.here (groups_of (map group_view c.in-Let.groups.items))) (expr_sites c.args.here (expr_view c.in-Let.body.value)))))
    c.push_expr-in-Let.ensures

pub push_expr-returns-in_ok-push_expr-in-If-2 : goal.push_expr-returns-in_ok-push_expr-in-If-2
push_expr-returns-in_ok-push_expr-in-If-2 t c =
    subst (λ z. OnOk c.push_expr-in-If-3.result (c.push_expr-in-If-3.new.findings.items ≡ z))
    (also c.args.findings.now.items c.push_expr-in-If-2.new.findings.items (faults (expr_sites c.args.here (expr_view c.deref-in-If.result.now)) ++ faults (expr_sites c.args.here (expr_view c.deref-in-If-2.result.now)))
    (faults (expr_sites c.args.here (expr_view c.deref-in-If-3.result.now))) (faults (expr_sites c.args.here (expr_view c.args.expr.now)))
    (c.in_ok-push_expr-in-If-2.ensures ∙ also c.args.findings.now.items c.push_expr-in-If.new.findings.items (faults (expr_sites c.args.here (expr_view c.deref-in-If.result.now))) (faults (expr_sites c.args.here (expr_view c.deref-in-If-2.result.now)))
    (faults (expr_sites c.args.here (expr_view c.deref-in-If.result.now)) ++ faults (expr_sites c.args.here (expr_view c.deref-in-If-2.result.now))) c.in_ok-push_expr-in-If.ensures refl)
    (ap (λ z. faults (expr_sites c.args.here (expr_view z)) ++ faults (expr_sites c.args.here (expr_view c.deref-in-If-2.result.now)) ++ faults (expr_sites c.args.here (expr_view c.deref-in-If-3.result.now))) c.deref-in-If.ensures
    ∙ ap (λ z. faults (expr_sites c.args.here (expr_view c.in-If.condition.value)) ++ faults (expr_sites c.args.here (expr_view z)) ++ faults (expr_sites c.args.here (expr_view c.deref-in-If-3.result.now))) c.deref-in-If-2.ensures
    ∙ ap (λ z. faults (expr_sites c.args.here (expr_view c.in-If.condition.value)) ++ faults (expr_sites c.args.here (expr_view c.in-If.yes.value)) ++ faults (expr_sites c.args.here (expr_view z))) c.deref-in-If-3.ensures
    ∙ sym (ap (λ e. faults (expr_sites c.args.here (expr_view e))) c.in-If.is ∙ ap (λ e. faults (expr_sites c.args.here e)) (view.conditional c.in-If.condition c.in-If.yes c.in-If.no) ∙ three (expr_sites c.args.here (expr_view c.in-If.condition.value)) (expr_sites c.args.here (expr_view c.in-If.yes.value)) (expr_sites c.args.here (expr_view c.in-If.no.value)))))
    c.push_expr-in-If-3.ensures

pub push_expr-returns-in_ok-push_expr-in-Chain : goal.push_expr-returns-in_ok-push_expr-in-Chain
push_expr-returns-in_ok-push_expr-in-Chain t c =
    let old = c.args.findings.now.items in
    let here = c.args.here in
    let first = before_all here (map link_view c.deref-in-Chain.result.now) in
    let own = faults (expr_sites here (expr_view c.deref-in-Chain-2.result.now)) in
    let last = flat_map (after here) (map link_view c.deref-in-Chain-3.result.now) in
    subst (λ z. OnOk c.push_after.result (c.push_after.new.findings.items ≡ z))
    (also old c.push_expr-in-Chain.new.findings.items (first ++ own) last (faults (expr_sites here (expr_view c.args.expr.now)))
    (c.in_ok-push_expr-in-Chain.ensures ∙ also old c.push_before.new.findings.items first own (first ++ own) c.in_ok-push_before-in-Chain.ensures refl)
    (ap (λ z. before_all here (map link_view z) ++ own ++ last) c.deref-in-Chain.ensures.value
    ∙ ap (λ z. before_all here (map link_view c.in-Chain.links.items) ++ faults (expr_sites here (expr_view z)) ++ last) c.deref-in-Chain-2.ensures
    ∙ ap (λ z. before_all here (map link_view c.in-Chain.links.items) ++ faults (expr_sites here (expr_view c.in-Chain.first.value)) ++ flat_map (after here) (map link_view z)) c.deref-in-Chain-3.ensures.value
    ∙ sym (ap (λ e. faults (expr_sites here (expr_view e))) c.in-Chain.is ∙ ap (λ e. faults (expr_sites here e)) (view.chain c.in-Chain.first c.in-Chain.links)
    ∙ linked_faults here (expr_view c.in-Chain.first.value) (map link_view c.in-Chain.links.items))))
    c.push_after.ensures

pub push_expr-returns-in_ok-push_choice-in-Case : goal.push_expr-returns-in_ok-push_choice-in-Case
push_expr-returns-in_ok-push_choice-in-Case t c =
    let old = c.args.findings.now.items in
    let here = c.args.here in
    let own = faults (expr_sites here (expr_view c.deref-in-Case.result.now)) in
    let ch = faults_at (Choice here (branch_patterns (branches_of (map branch_view c.deref-in-Case-2.result.now)))) in
    let last = faults (branches_sites here (branches_of (map branch_view c.deref-in-Case-3.result.now))) in
    let bs = branches_of (map branch_view c.in-Case.branches.items) in
    subst (λ z. OnOk c.push_branches.result (c.push_branches.new.findings.items ≡ z))
    (also old c.push_choice.new.findings.items (own ++ ch) last (faults (expr_sites here (expr_view c.args.expr.now)))
    (c.in_ok-push_choice-in-Case.ensures ∙ also old c.push_expr-in-Case.new.findings.items own ch (own ++ ch) c.in_ok-push_expr-in-Case.ensures refl)
    (append_assoc own ch last
    ∙ ap (λ z. faults (expr_sites here (expr_view z)) ++ (ch ++ last)) c.deref-in-Case.ensures
    ∙ ap (λ z. faults (expr_sites here (expr_view c.in-Case.subject.value)) ++ (faults_at (Choice here (branch_patterns (branches_of (map branch_view z)))) ++ last)) c.deref-in-Case-2.ensures.value
    ∙ ap (λ z. faults (expr_sites here (expr_view c.in-Case.subject.value)) ++ (faults_at (Choice here (branch_patterns bs)) ++ faults (branches_sites here (branches_of (map branch_view z))))) c.deref-in-Case-3.ensures.value
    ∙ sym (ap (λ e. faults (expr_sites here (expr_view e))) c.in-Case.is ∙ ap (λ e. faults (expr_sites here e)) (view.case_of c.in-Case.subject c.in-Case.branches)
    ∙ two (expr_sites here (expr_view c.in-Case.subject.value)) (Choice here (branch_patterns bs) ∷ branches_sites here bs))))
    c.push_branches.ensures

pub push_group-returns-in-Together : goal.push_group-returns-in-Together
push_group-returns-in-Together t c =
    subst (λ z. OnOk c.push_functions.result (c.push_functions.new.findings.items ≡ z))
    (ap (λ us. c.args.findings.now.items ++ us) (ap (λ l. faults (functions_sites (functions_of (map function_view l)))) c.deref.ensures.value ∙ sym (ap (λ e. faults (group_sites c.args.here (group_view e))) c.in-Together.is ∙ ap (λ e. faults (group_sites c.args.here e)) (view.together c.in-Together.functions))))
    c.push_functions.ensures

pub push_group-returns-in-Constant : goal.push_group-returns-in-Constant
push_group-returns-in-Constant t c =
    subst (λ z. OnOk c.push_expr.result (c.push_expr.new.findings.items ≡ z))
    (ap (λ us. c.args.findings.now.items ++ us) (ap (λ e. faults (expr_sites c.in-Constant.title.place (expr_view e)))
    c.deref-in-Constant.ensures ∙ sym (ap (λ e. faults (group_sites c.args.here (group_view e))) c.in-Constant.is ∙ ap
    (λ e. faults (group_sites c.args.here e)) (view.constant c.in-Constant.title c.in-Constant.body))))
    c.push_expr.ensures

pub push_group-returns-in_ok-push_sole-in-Destructure : goal.push_group-returns-in_ok-push_sole-in-Destructure
push_group-returns-in_ok-push_sole-in-Destructure t c =
    let own = faults_at (Sole c.args.here (pattern_view c.in-Destructure.pattern)) in
    subst (λ z. OnOk c.push_expr-in-Destructure.result (c.push_expr-in-Destructure.new.findings.items ≡ z))
    (also c.args.findings.now.items c.push_sole.new.findings.items own
    (faults (expr_sites c.args.here (expr_view c.deref-in-Destructure.result.now)))
    (faults (group_sites c.args.here (group_view c.args.group.now)))
    c.in_ok-push_sole-in-Destructure.ensures
    (ap (λ e. own ++ faults (expr_sites c.args.here (expr_view e))) c.deref-in-Destructure.ensures ∙ sym
    (ap (λ e. faults (group_sites c.args.here (group_view e))) c.in-Destructure.is ∙ ap
    (λ e. faults (group_sites c.args.here e)) (view.destructure c.in-Destructure.pattern c.in-Destructure.body))))
    c.push_expr-in-Destructure.ensures

pub push_all-loop-expr-preserved : goal.push_all-loop-expr-preserved
push_all-loop-expr-preserved t c =
    let i = c.loop-expr.expr-index in
    let x = c.expr-item.result in
    let first = map expr_view (take i c.args.exprs.now) in
    c.in_ok-push_expr.ensures
    ∙ also c.args.findings.now.items c.loop-expr.findings.items (faults (exprs_sites c.args.here (exprs_of first))) (faults (expr_sites c.args.here (expr_view x)))
    (faults (exprs_sites c.args.here (exprs_of (first ++ expr_view x ∷ [])))) c.loop-expr.invariant (exprs_next c.args.here first (expr_view x))
    ∙ ap (λ l. c.args.findings.now.items ++ faults (exprs_sites c.args.here (exprs_of l))) (sym (map_next expr_view c.args.exprs.now i x (omega arith) c.expr-item.is))

pub push_branches-loop-branch-preserved : goal.push_branches-loop-branch-preserved
push_branches-loop-branch-preserved t c =
    let i = c.loop-branch.branch-index in
    let x = c.branch-item.result in
    let first = map branch_view (take i c.args.branches.now) in
    c.in_ok-push_expr.ensures
    ∙ also c.args.findings.now.items c.loop-branch.findings.items (faults
    (branches_sites c.args.here (branches_of first))) (faults (expr_sites c.args.here (expr_view c.deref.result.now)))
    (faults (branches_sites c.args.here (branches_of (first ++ branch_view x ∷ [])))) c.loop-branch.invariant
    (ap (λ e. faults (branches_sites c.args.here (branches_of first)) ++ faults
    (expr_sites c.args.here (expr_view e))) c.deref.ensures
    ∙ ap (λ b. faults (branches_sites c.args.here (branches_of first)) ++ faults (expr_sites c.args.here b.1))
    (sym (view.branch x)) ∙ branches_next c.args.here first (branch_view x))
    ∙ ap (λ l. c.args.findings.now.items ++ faults (branches_sites c.args.here (branches_of l))) (sym (map_next branch_view c.args.branches.now i x (omega arith) c.branch-item.is))

pub push_groups-loop-group-preserved : goal.push_groups-loop-group-preserved
push_groups-loop-group-preserved t c =
    let i = c.loop-group.group-index in
    let x = c.group-item.result in
    let first = map group_view (take i c.args.groups.now) in
    c.in_ok-push_group.ensures
    ∙ also c.args.findings.now.items c.loop-group.findings.items (faults (groups_sites c.args.here (groups_of first))) (faults (group_sites c.args.here (group_view x)))
    (faults (groups_sites c.args.here (groups_of (first ++ group_view x ∷ [])))) c.loop-group.invariant (groups_next c.args.here first (group_view x))
    ∙ ap (λ l. c.args.findings.now.items ++ faults (groups_sites c.args.here (groups_of l))) (sym (map_next group_view c.args.groups.now i x (omega arith) c.group-item.is))

pub push_functions-loop-function-preserved : goal.push_functions-loop-function-preserved
push_functions-loop-function-preserved t c =
    let i = c.loop-function.function-index in
    let x = c.function-item.result in
    let first = map function_view (take i c.args.functions.now) in
    let done = faults (functions_sites (functions_of first)) in
    let a = faults (sole_sites x.title.place (patterns_view c.deref.result.now)) in
    let b = faults (expr_sites x.title.place (expr_view c.deref-in-loop-function.result.now)) in
    c.in_ok-push_expr.ensures
    ∙ also c.args.findings.now.items c.push_soles.new.findings.items (done ++ a) b
    (faults (functions_sites (functions_of (first ++ function_view x ∷ []))))
    (c.in_ok-push_soles.ensures ∙ also c.args.findings.now.items c.loop-function.findings.items done a (done ++ a) c.loop-function.invariant refl)
    (ap (λ z. done ++ faults (sole_sites x.title.place (patterns_view z)) ++ b) c.deref.ensures.value
    ∙ ap (λ e. done ++ faults (sole_sites x.title.place (patterns_view x.parameters.items)) ++ faults
    (expr_sites x.title.place (expr_view e))) c.deref-in-loop-function.ensures
    ∙ ap (λ f. done ++ faults (sole_sites f.0.place f.1) ++ faults (expr_sites f.0.place f.2)) (sym (view.function x)) ∙ functions_next first (function_view x))
    ∙ ap (λ l. c.args.findings.now.items ++ faults (functions_sites (functions_of l))) (sym (map_next function_view c.args.functions.now i x (omega arith) c.function-item.is))

pub push_one_before-returns-in_ok-push_expr-in-Given : goal.push_one_before-returns-in_ok-push_expr-in-Given
push_one_before-returns-in_ok-push_expr-in-Given t c =
    subst (λ z. OnOk c.push_all.result (c.push_all.new.findings.items ≡ z))
    (also c.args.findings.now.items c.push_expr.new.findings.items (faults
    (expr_sites c.args.here (expr_view c.deref.result.now))) (faults (exprs_sites c.args.here
    (exprs_of (map expr_view c.deref-in-Given.result.now))))
    (before c.args.here (link_view c.args.link.now)) c.in_ok-push_expr-in-Given.ensures
    (ap (λ z. faults (expr_sites c.args.here (expr_view z)) ++ faults (exprs_sites c.args.here
    (exprs_of (map expr_view c.deref-in-Given.result.now)))) c.deref.ensures
    ∙ ap (λ z. faults (expr_sites c.args.here (expr_view c.in-Given.function.value)) ++ faults
    (exprs_sites c.args.here (exprs_of (map expr_view z)))) c.deref-in-Given.ensures.value
    ∙ sym (ap (λ l. before c.args.here (link_view l)) c.in-Given.is ∙ ap (before c.args.here) (view.given c.in-Given.function c.in-Given.arguments))))
    c.push_all.ensures

pub push_one_before-returns-in-Composed : goal.push_one_before-returns-in-Composed
push_one_before-returns-in-Composed t c =
    subst (λ z. OnOk c.push_expr-in-Composed.result (c.push_expr-in-Composed.new.findings.items ≡ z))
    (ap (λ us. c.args.findings.now.items ++ us) (ap (λ e. faults (expr_sites c.args.here (expr_view e)))
    c.deref-in-Composed.ensures ∙ sym (ap (λ l. before c.args.here (link_view l)) c.in-Composed.is ∙ ap
    (before c.args.here) (view.composed c.in-Composed.function c.in-Composed.field-1))))
    c.push_expr-in-Composed.ensures

pub push_one_before-returns-in-After : goal.push_one_before-returns-in-After
push_one_before-returns-in-After t c =
    subst (λ z. OnOk c.push_all-in-After.result (c.push_all-in-After.new.findings.items ≡ z))
    (ap (λ us. c.args.findings.now.items ++ us) (ap (λ l. faults (exprs_sites c.args.here (exprs_of (map expr_view l)))) c.deref-in-After.ensures.value ∙ sym (ap (λ l. before c.args.here (link_view l)) c.in-After.is ∙ ap (before c.args.here) (view.part_after c.in-After.field-0 c.in-After.parts))))
    c.push_all-in-After.ensures

pub push_one_before-returns-in-Before : goal.push_one_before-returns-in-Before
push_one_before-returns-in-Before t c =
    sym (append-nil c.args.findings.now.items) ∙ ap (λ us. c.args.findings.now.items ++ us) (sym (ap (λ l. before c.args.here (link_view l)) c.in-Before.is ∙ ap (before c.args.here) (view.part_before c.in-Before.field-0 c.in-Before.field-1)))

pub push_one_before-returns-in-Decided : goal.push_one_before-returns-in-Decided
push_one_before-returns-in-Decided t c =
    subst (λ z. OnOk c.push_expr-in-Decided.result (c.push_expr-in-Decided.new.findings.items ≡ z))
    (ap (λ us. c.args.findings.now.items ++ us) (ap (λ e. faults (expr_sites c.args.here (expr_view e)))
    c.deref-in-Decided.ensures ∙ sym (ap (λ l. before c.args.here (link_view l)) c.in-Decided.is ∙ ap
    (before c.args.here) (view.decided c.in-Decided.field-0 c.in-Decided.field-1 c.in-Decided.left))))
    c.push_expr-in-Decided.ensures

pub push_one_after-returns-in-Given : goal.push_one_after-returns-in-Given
push_one_after-returns-in-Given t c =
    sym (append-nil c.args.findings.now.items) ∙ ap (λ us. c.args.findings.now.items ++ us) (sym (ap (λ l. after c.args.here (link_view l)) c.in-Given.is ∙ ap (after c.args.here) (view.given c.in-Given.field-0 c.in-Given.field-1)))

pub push_one_after-returns-in-Composed : goal.push_one_after-returns-in-Composed
push_one_after-returns-in-Composed t c =
    subst (λ z. OnOk c.push_expr.result (c.push_expr.new.findings.items ≡ z))
    (ap (λ us. c.args.findings.now.items ++ us) (ap (λ e. faults (expr_sites c.args.here (expr_view e)))
    c.deref.ensures ∙ sym (ap (λ l. after c.args.here (link_view l)) c.in-Composed.is ∙ ap (after c.args.here)
    (view.composed c.in-Composed.field-0 c.in-Composed.right))))
    c.push_expr.ensures

pub push_one_after-returns-in-After : goal.push_one_after-returns-in-After
push_one_after-returns-in-After t c =
    sym (append-nil c.args.findings.now.items) ∙ ap (λ us. c.args.findings.now.items ++ us) (sym (ap (λ l. after c.args.here (link_view l)) c.in-After.is ∙ ap (after c.args.here) (view.part_after c.in-After.field-0 c.in-After.field-1)))

pub push_one_after-returns-in-Before : goal.push_one_after-returns-in-Before
push_one_after-returns-in-Before t c =
    subst (λ z. OnOk c.push_expr-in-Before.result (c.push_expr-in-Before.new.findings.items ≡ z))
    (ap (λ us. c.args.findings.now.items ++ us) (ap (λ e. faults (expr_sites c.args.here (expr_view e)))
    c.deref-in-Before.ensures ∙ sym (ap (λ l. after c.args.here (link_view l)) c.in-Before.is ∙ ap (after c.args.here)
    (view.part_before c.in-Before.field-0 c.in-Before.right))))
    c.push_expr-in-Before.ensures

pub push_one_after-returns-in-Decided : goal.push_one_after-returns-in-Decided
push_one_after-returns-in-Decided t c =
    sym (append-nil c.args.findings.now.items) ∙ ap (λ us. c.args.findings.now.items ++ us) (sym (ap (λ l. after c.args.here (link_view l)) c.in-Decided.is ∙ ap (after c.args.here) (view.decided c.in-Decided.field-0 c.in-Decided.field-1 c.in-Decided.field-2)))

pub push_before-loop-link-preserved : goal.push_before-loop-link-preserved
push_before-loop-link-preserved t c =
    c.in_ok-push_one_before.ensures
    ∙ ap (λ us. us ++ before c.args.here (link_view c.in-Some.link.now)) c.loop-link.invariant
    ∙ flat_map_more (λ y. before c.args.here (link_view y.now)) c.args.findings.now.items c.loop-link.yielded c.in-Some.link

pub push_before-returns : goal.push_before-returns
push_before-returns t c =
    let links = c.args.links.now in
    let e = YieldsList-end (YieldsList-from_rev_slice links cc) c.loop-link.yielded _ c.loop-link.yielded_by _ _ c.in-None.is c.next.ensures.steps in
    c.loop-link.invariant
    ∙ ap (λ us. c.args.findings.now.items ++ us) (sym (flat_map-map (λ l. before c.args.here (link_view l)) (λ y. y.now) c.loop-link.yielded)
    ∙ ap (flat_map (λ l. before c.args.here (link_view l))) e.0 ∙ turned c.args.here links)

pub push_after-loop-link-preserved : goal.push_after-loop-link-preserved
push_after-loop-link-preserved t c =
    let i = c.loop-link.link-index in
    let x = c.link-item.result in
    let first = map link_view (take i c.args.links.now) in
    c.in_ok-push_one_after.ensures
    ∙ ap (λ us. us ++ after c.args.here (link_view x)) c.loop-link.invariant
    ∙ flat_map_more (after c.args.here) c.args.findings.now.items first (link_view x)
    ∙ ap (λ l. c.args.findings.now.items ++ flat_map (after c.args.here) l) (sym (map_next link_view c.args.links.now i x (omega arith) c.link-item.is))
