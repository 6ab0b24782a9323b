-- What each form uses is what its parts use: one law of the view a form, and one part more in a list.
use Rattle.std.proofs.Common.{◌≡◌, ◌+◌, [], ◌∷◌, ◌++◌, take, map, flat_map, sym, ap, ◌∙◌, arith}
use Rattle.std.proofs.lemmas.List.{take_all}
use Rattle.elm_canon.specs.Tree.{exprs_of, branches_of, groups_of, functions_of}
use Rattle.elm_canon.specs.View.{expr_view, link_view, branch_view, group_view, function_view}
use Rattle.elm_canon.proofs.Views.{literal, name, accessor, lambda, apply, strict, access, conditional, chain, let_in}
use Rattle.elm_canon.proofs.Views.{case_of, located, together, constant, destructure, branch, function}
use Rattle.elm_canon.proofs.Views as view
use Rattle.canon_env.proofs.Filtering.{map_next, flat_next}
use Rattle.canon_env.specs.Uses.{expr_uses, exprs_uses, branches_uses, groups_uses, group_uses, functions_uses}
use Rattle.canon_env.specs.Links.{before, before_all, after}
use Rattle.canon_env.proofs.CanonUsesAdding.{access_uses, exprs_next, branches_next, groups_next, functions_next}
use Rattle.canon_env.proofs.CanonUsesAdding.{nothing, also, alike}
use Rattle.canon_env.proofs.Linking.{linked_uses, one_before}
use Rattle.canon_env.proofs.uses.+uses.Goals as goal

pub add_uses-returns-in-Literal : goal.add_uses-returns-in-Literal
add_uses-returns-in-Literal t c =
    alike _
    (sym (ap (λ e. expr_uses (expr_view e)) c.in-Literal.is
    ∙ ap expr_uses (literal c.in-Literal.field-0)))
    (nothing c.args.fits.now c.args.uses.now.items)

pub add_uses-returns-in-Accessor : goal.add_uses-returns-in-Accessor
add_uses-returns-in-Accessor t c =
    alike _
    (sym (ap (λ e. expr_uses (expr_view e)) c.in-Accessor.is
    ∙ ap expr_uses (accessor c.in-Accessor.field-0)))
    (nothing c.args.fits.now c.args.uses.now.items)

pub add_uses-returns-in-Name : goal.add_uses-returns-in-Name
add_uses-returns-in-Name t c =
    alike _
    (sym (ap (λ e. expr_uses (expr_view e)) c.in-Name.is
    ∙ ap expr_uses (name c.in-Name.name))) c.push_ref.ensures

pub add_uses-returns-in-Lambda : goal.add_uses-returns-in-Lambda
add_uses-returns-in-Lambda t c =
    alike _
    (sym (ap (λ e. expr_uses (expr_view e)) c.in-Lambda.is
    ∙ ap expr_uses (lambda c.in-Lambda.field-0 c.in-Lambda.body)))
    c.add_boxed.ensures

pub add_uses-returns-in-Strict : goal.add_uses-returns-in-Strict
add_uses-returns-in-Strict t c =
    alike _
    (sym (ap (λ e. expr_uses (expr_view e)) c.in-Strict.is
    ∙ ap expr_uses (strict c.in-Strict.field-0 c.in-Strict.parts)))
    c.add_all-in-Strict.ensures

pub add_uses-returns-in-Located : goal.add_uses-returns-in-Located
add_uses-returns-in-Located t c =
    alike _
    (sym (ap (λ e. expr_uses (expr_view e)) c.in-Located.is
    ∙ ap expr_uses (located c.in-Located.field-0 c.in-Located.inner)))
    c.add_boxed-in-Located.ensures

pub add_uses-returns-in-Access : goal.add_uses-returns-in-Access
add_uses-returns-in-Access t c =
    alike _
    (sym (ap (λ e. expr_uses (expr_view e)) c.in-Access.is
    ∙ ap expr_uses (access c.in-Access.inner c.in-Access.field-1)
    ∙ access_uses (expr_view c.in-Access.inner.value) c.in-Access.field-1.items))
    c.add_boxed-in-Access.ensures

pub add_uses-returns-in-Apply : goal.add_uses-returns-in-Apply
add_uses-returns-in-Apply t c =
    alike _
    (sym (ap (λ e. expr_uses (expr_view e)) c.in-Apply.is
    ∙ ap expr_uses (apply c.in-Apply.function c.in-Apply.arguments)))
    (also _ _ _ c.add_boxed-in-Apply.ensures c.add_all.ensures)

pub add_uses-returns-in-If : goal.add_uses-returns-in-If
add_uses-returns-in-If t c =
    alike _
    (sym (ap (λ e. expr_uses (expr_view e)) c.in-If.is
    ∙ ap expr_uses (conditional c.in-If.condition c.in-If.yes c.in-If.no)))
    (also _ _ _ (also _ _ _ c.add_boxed-in-If.ensures c.add_boxed-in-If-2.ensures) c.add_boxed-in-If-3.ensures)

pub add_uses-returns-in-Chain : goal.add_uses-returns-in-Chain
add_uses-returns-in-Chain t c =
    alike _
    (sym (ap (λ e. expr_uses (expr_view e)) c.in-Chain.is
    ∙ ap expr_uses (chain c.in-Chain.first c.in-Chain.links)
    ∙ linked_uses (expr_view c.in-Chain.first.value) (map link_view c.in-Chain.links.items)))
    (also _ _ _ (also _ _ _ c.add_before.ensures c.add_boxed-in-Chain.ensures) c.add_after.ensures)

pub add_uses-returns-in-Let : goal.add_uses-returns-in-Let
add_uses-returns-in-Let t c =
    alike _
    (sym (ap (λ e. expr_uses (expr_view e)) c.in-Let.is
    ∙ ap expr_uses (let_in c.in-Let.groups c.in-Let.body)))
    (also _ _ _ c.add_groups.ensures c.add_boxed-in-Let.ensures)

pub add_uses-returns-in-Case : goal.add_uses-returns-in-Case
add_uses-returns-in-Case t c =
    alike _
    (sym (ap (λ e. expr_uses (expr_view e)) c.in-Case.is
    ∙ ap expr_uses (case_of c.in-Case.subject c.in-Case.branches)))
    (also _ _ _ c.add_boxed-in-Case.ensures c.add_branches.ensures)

pub add_boxed-returns : goal.add_boxed-returns
add_boxed-returns t c =
    alike _ (ap (λ e. expr_uses (expr_view e)) c.deref.ensures) c.add_uses.ensures

pub add_one_before-returns-in-Given : goal.add_one_before-returns-in-Given
add_one_before-returns-in-Given t c =
    alike _
    (sym (ap (λ l. before (link_view l)) c.in-Given.is
    ∙ ap before (view.given c.in-Given.function c.in-Given.arguments)))
    (also _ _ _ c.add_boxed.ensures c.add_all.ensures)

pub add_one_before-returns-in-Composed : goal.add_one_before-returns-in-Composed
add_one_before-returns-in-Composed t c =
    alike _
    (sym (ap (λ l. before (link_view l)) c.in-Composed.is
    ∙ ap before (view.composed c.in-Composed.function c.in-Composed.field-1)))
    c.add_boxed-in-Composed.ensures

pub add_one_before-returns-in-After : goal.add_one_before-returns-in-After
add_one_before-returns-in-After t c =
    alike _
    (sym (ap (λ l. before (link_view l)) c.in-After.is
    ∙ ap before (view.part_after c.in-After.field-0 c.in-After.parts)))
    c.add_all-in-After.ensures

pub add_one_before-returns-in-Before : goal.add_one_before-returns-in-Before
add_one_before-returns-in-Before t c =
    alike _
    (sym (ap (λ l. before (link_view l)) c.in-Before.is
    ∙ ap before (view.part_before c.in-Before.field-0 c.in-Before.field-1)))
    (nothing c.args.fits.now c.args.uses.now.items)

pub add_one_before-returns-in-Decided : goal.add_one_before-returns-in-Decided
add_one_before-returns-in-Decided t c =
    alike _
    (sym (ap (λ l. before (link_view l)) c.in-Decided.is
    ∙ ap before (view.decided c.in-Decided.field-0 c.in-Decided.field-1 c.in-Decided.left)))
    c.add_boxed-in-Decided.ensures

pub add_one_after-returns-in-Given : goal.add_one_after-returns-in-Given
add_one_after-returns-in-Given t c =
    alike _
    (sym (ap (λ l. after (link_view l)) c.in-Given.is
    ∙ ap after (view.given c.in-Given.field-0 c.in-Given.field-1)))
    (nothing c.args.fits.now c.args.uses.now.items)

pub add_one_after-returns-in-Composed : goal.add_one_after-returns-in-Composed
add_one_after-returns-in-Composed t c =
    alike _
    (sym (ap (λ l. after (link_view l)) c.in-Composed.is
    ∙ ap after (view.composed c.in-Composed.field-0 c.in-Composed.right)))
    c.add_boxed.ensures

pub add_one_after-returns-in-After : goal.add_one_after-returns-in-After
add_one_after-returns-in-After t c =
    alike _
    (sym (ap (λ l. after (link_view l)) c.in-After.is
    ∙ ap after (view.part_after c.in-After.field-0 c.in-After.field-1)))
    (nothing c.args.fits.now c.args.uses.now.items)

pub add_one_after-returns-in-Before : goal.add_one_after-returns-in-Before
add_one_after-returns-in-Before t c =
    alike _
    (sym (ap (λ l. after (link_view l)) c.in-Before.is
    ∙ ap after (view.part_before c.in-Before.field-0 c.in-Before.right)))
    c.add_boxed-in-Before.ensures

pub add_one_after-returns-in-Decided : goal.add_one_after-returns-in-Decided
add_one_after-returns-in-Decided t c =
    alike _
    (sym (ap (λ l. after (link_view l)) c.in-Decided.is
    ∙ ap after (view.decided c.in-Decided.field-0 c.in-Decided.field-1 c.in-Decided.field-2)))
    (nothing c.args.fits.now c.args.uses.now.items)

pub add_group-returns-in-Together : goal.add_group-returns-in-Together
add_group-returns-in-Together t c =
    alike _
    (sym (ap (λ e. group_uses (group_view e)) c.in-Together.is
    ∙ ap group_uses (together c.in-Together.functions)))
    c.add_functions.ensures

pub add_group-returns-in-Constant : goal.add_group-returns-in-Constant
add_group-returns-in-Constant t c =
    alike _
    (sym (ap (λ e. group_uses (group_view e)) c.in-Constant.is
    ∙ ap group_uses (constant c.in-Constant.field-0 c.in-Constant.body)))
    c.add_boxed.ensures

pub add_group-returns-in-Destructure : goal.add_group-returns-in-Destructure
add_group-returns-in-Destructure t c =
    alike _
    (sym (ap (λ e. group_uses (group_view e)) c.in-Destructure.is
    ∙ ap group_uses (destructure c.in-Destructure.field-0 c.in-Destructure.body)))
    c.add_boxed-in-Destructure.ensures

pub add_all-loop-i-preserved : goal.add_all-loop-i-preserved
add_all-loop-i-preserved t c =
    let xs = c.args.exprs.now.items in
    let i = c.loop-i.i in
    let x = c.index.result.now in
    alike _ (exprs_next (map expr_view (take i xs)) (expr_view x)
    ∙ ap (λ l. exprs_uses (exprs_of l))
    (sym (map_next expr_view xs i x (omega arith) c.index.ensures)))
    (also _ _ _ c.loop-i.invariant c.add_uses.ensures)

pub add_branches-loop-i-preserved : goal.add_branches-loop-i-preserved
add_branches-loop-i-preserved t c =
    let xs = c.args.branches.now.items in
    let i = c.loop-i.i in
    let x = c.index.result.now in
    let first = map branch_view (take i xs) in
    alike _ (ap (λ b. branches_uses (branches_of first) ++ expr_uses b.1) (sym (branch x))
    ∙ branches_next first (branch_view x)
    ∙ ap (λ l. branches_uses (branches_of l))
    (sym (map_next branch_view xs i x (omega arith) c.index.ensures)))
    (also _ _ _ c.loop-i.invariant c.add_boxed.ensures)

pub add_functions-loop-i-preserved : goal.add_functions-loop-i-preserved
add_functions-loop-i-preserved t c =
    let xs = c.args.functions.now.items in
    let i = c.loop-i.i in
    let x = c.index.result.now in
    let first = map function_view (take i xs) in
    alike _ (ap (λ f. functions_uses (functions_of first) ++ expr_uses f.2) (sym (function x))
    ∙ functions_next first (function_view x)
    ∙ ap (λ l. functions_uses (functions_of l))
    (sym (map_next function_view xs i x (omega arith) c.index.ensures)))
    (also _ _ _ c.loop-i.invariant c.add_boxed.ensures)

pub add_groups-loop-i-preserved : goal.add_groups-loop-i-preserved
add_groups-loop-i-preserved t c =
    let xs = c.args.groups.now.items in
    let i = c.loop-i.i in
    let x = c.index.result.now in
    alike _ (groups_next (map group_view (take i xs)) (group_view x)
    ∙ ap (λ l. groups_uses (groups_of l))
    (sym (map_next group_view xs i x (omega arith) c.index.ensures)))
    (also _ _ _ c.loop-i.invariant c.add_group.ensures)

pub add_after-loop-i-preserved : goal.add_after-loop-i-preserved
add_after-loop-i-preserved t c =
    let xs = c.args.links.now.items in
    let i = c.loop-i.i in
    let x = c.index.result.now in
    alike _ (sym (flat_next after link_view xs i x (omega arith) c.index.ensures))
    (also _ _ _ c.loop-i.invariant c.add_one_after.ensures)

pub add_before-loop-left-preserved : goal.add_before-loop-left-preserved
add_before-loop-left-preserved t c =
    let left = c.loop-left.left in (
      omega (arith, c.loop-left.invariant.0),
      alike _
          (one_before c.args.links.now.items left c.index.result.now c.loop-left-test.true c.loop-left.invariant.0
          c.index.ensures)
          (also _ _ _ c.loop-left.invariant.1 c.add_one_before.ensures),
    )

pub add_all-returns : goal.add_all-returns
add_all-returns t c =
    alike _ (ap (λ l. exprs_uses (exprs_of (map expr_view l)))
    (take_all c.loop-i.i c.args.exprs.now.items (omega arith)))
    c.loop-i.invariant

pub add_all-loop-i-init : goal.add_all-loop-i-init
add_all-loop-i-init t c =
    (nothing c.args.fits.now c.args.uses.now.items)

pub add_branches-returns : goal.add_branches-returns
add_branches-returns t c =
    alike _ (ap (λ l. branches_uses (branches_of (map branch_view l)))
    (take_all c.loop-i.i c.args.branches.now.items (omega arith)))
    c.loop-i.invariant

pub add_branches-loop-i-init : goal.add_branches-loop-i-init
add_branches-loop-i-init t c =
    (nothing c.args.fits.now c.args.uses.now.items)

pub add_groups-returns : goal.add_groups-returns
add_groups-returns t c =
    alike _ (ap (λ l. groups_uses (groups_of (map group_view l)))
    (take_all c.loop-i.i c.args.groups.now.items (omega arith)))
    c.loop-i.invariant

pub add_groups-loop-i-init : goal.add_groups-loop-i-init
add_groups-loop-i-init t c =
    (nothing c.args.fits.now c.args.uses.now.items)

pub add_functions-returns : goal.add_functions-returns
add_functions-returns t c =
    alike _ (ap (λ l. functions_uses (functions_of (map function_view l)))
    (take_all c.loop-i.i c.args.functions.now.items (omega arith)))
    c.loop-i.invariant

pub add_functions-loop-i-init : goal.add_functions-loop-i-init
add_functions-loop-i-init t c =
    (nothing c.args.fits.now c.args.uses.now.items)

pub add_after-returns : goal.add_after-returns
add_after-returns t c =
    alike _ (ap (λ l. flat_map after (map link_view l))
    (take_all c.loop-i.i c.args.links.now.items (omega arith)))
    c.loop-i.invariant

pub add_after-loop-i-init : goal.add_after-loop-i-init
add_after-loop-i-init t c =
    (nothing c.args.fits.now c.args.uses.now.items)
