-- What each form is spelled as is what its parts are: one law of the view a form, and one part more in a list.
use Rattle.std.proofs.Common.{◌≡◌, ◌+◌, ◌-◌, ◌∷◌, ◌++◌, take, drop, map, sym, ap, ◌∙◌, arith, append-nil, append_assoc}
use Rattle.std.proofs.lemmas.List.{flat_map_more}
use Rattle.elm_canon.specs.View.{expr_view, link_view, branch_view, group_view, function_view, patterns_view}
use Rattle.elm_canon.specs.View.{pattern_view, title_view}
use Rattle.elm_canon.proofs.Views as view
use Rattle.elm_canon.proofs.Views.{literal, name, accessor, lambda, apply, strict, access, conditional, chain, let_in}
use Rattle.elm_canon.proofs.Views.{case_of, located, together, constant, destructure, branch, function}
use Rattle.canon_env.proofs.Filtering.{map_next}
use Rattle.core_modules.specs.declared.port_faults_sign.Sign.{Sign}
use Rattle.core_modules.specs.Links.{before, before_all, after}
use Rattle.core_modules.proofs.Adding.{access_signs, exprs_next, branches_next, groups_next, functions_next}
use Rattle.core_modules.proofs.Linking.{linked_signs, drop_at}
use Rattle.core_modules.proofs.walk.+signs.Goals as goal

pub push_signs-returns-in-Literal : goal.push_signs-returns-in-Literal
push_signs-returns-in-Literal t c =
    simp (c.in-Literal.is, literal c.in-Literal.field-0) c.push_form.ensures

pub push_signs-returns-in-Accessor : goal.push_signs-returns-in-Accessor
push_signs-returns-in-Accessor t c =
    simp (c.in-Accessor.is, accessor c.in-Accessor.field-0) c.push_form-in-Accessor.ensures

pub push_signs-returns-in-Name : goal.push_signs-returns-in-Name
push_signs-returns-in-Name t c =
    simp (c.in-Name.is, name c.in-Name.name) c.push_name.ensures

pub push_signs-returns-in_ok-push_patterns-in-Lambda : goal.push_signs-returns-in_ok-push_patterns-in-Lambda
push_signs-returns-in_ok-push_patterns-in-Lambda t c =
    simp (c.in-Lambda.is, lambda c.in-Lambda.parameters c.in-Lambda.body)
    (simp (
      c.in_ok-push_patterns-in-Lambda.ensures,
      c.in_ok-push_lambda-in-Lambda.ensures,
      append_assoc,
    ) at c.push_boxed.ensures)

pub push_signs-returns-in_ok-push_all-in-Apply : goal.push_signs-returns-in_ok-push_all-in-Apply
push_signs-returns-in_ok-push_all-in-Apply t c =
    simp (c.in-Apply.is, apply c.in-Apply.function c.in-Apply.arguments, append_assoc)
    (simp (
      c.in_ok-push_all-in-Apply.ensures,
      c.in_ok-push_boxed-in-Apply.ensures,
      c.in_ok-push_form-in-Apply.ensures,
      append_assoc,
    ) at c.push_form-in-Apply-2.ensures)

pub push_signs-returns-in_ok-push_all-in-Strict : goal.push_signs-returns-in_ok-push_all-in-Strict
push_signs-returns-in_ok-push_all-in-Strict t c =
    simp (c.in-Strict.is, strict c.in-Strict.op c.in-Strict.parts)
    (simp (
      c.in_ok-push_all-in-Strict.ensures,
      c.in_ok-push_op-in-Strict.ensures,
      append_assoc,
    ) at c.push_op_ends.ensures)

pub push_signs-returns-in_ok-push_fields-in-Access : goal.push_signs-returns-in_ok-push_fields-in-Access
push_signs-returns-in_ok-push_fields-in-Access t c =
    simp (
      c.in-Access.is,
      access c.in-Access.inner c.in-Access.fields,
      sym (access_signs (expr_view c.in-Access.inner.value) c.in-Access.fields.items),
    )
    (simp (
      c.in_ok-push_fields-in-Access.ensures,
      c.deref.ensures.value,
      append_assoc,
    ) at c.push_boxed-in-Access.ensures)

pub push_signs-returns-in_ok-push_boxed-in-If-2 : goal.push_signs-returns-in_ok-push_boxed-in-If-2
push_signs-returns-in_ok-push_boxed-in-If-2 t c =
    simp (c.in-If.is, conditional c.in-If.condition c.in-If.yes c.in-If.no, append_assoc)
    (simp (
      c.in_ok-push_boxed-in-If-2.ensures,
      c.in_ok-push_boxed-in-If.ensures,
      c.in_ok-push_form-in-If.ensures,
      append_assoc,
    ) at c.push_boxed-in-If-3.ensures)

pub push_signs-returns-in_ok-push_boxed-in-Chain : goal.push_signs-returns-in_ok-push_boxed-in-Chain
push_signs-returns-in_ok-push_boxed-in-Chain t c =
    simp (
      c.in-Chain.is,
      chain c.in-Chain.first c.in-Chain.links,
      linked_signs (expr_view c.in-Chain.first.value) (map link_view c.in-Chain.links.items),
      append_assoc,
    )
    (simp (
      c.in_ok-push_boxed-in-Chain.ensures,
      c.in_ok-push_before-in-Chain.ensures,
      append_assoc,
    ) at c.push_after.ensures)

pub push_signs-returns-in_ok-push_groups-in-Let : goal.push_signs-returns-in_ok-push_groups-in-Let
push_signs-returns-in_ok-push_groups-in-Let t c =
    simp (c.in-Let.is, let_in c.in-Let.groups c.in-Let.body)
    (simp (
      c.in_ok-push_groups-in-Let.ensures,
      c.in_ok-push_form-in-Let.ensures,
      append_assoc,
    ) at c.push_boxed-in-Let.ensures)

pub push_signs-returns-in_ok-push_boxed-in-Case : goal.push_signs-returns-in_ok-push_boxed-in-Case
push_signs-returns-in_ok-push_boxed-in-Case t c =
    simp (c.in-Case.is, case_of c.in-Case.subject c.in-Case.branches)
    (simp (
      c.in_ok-push_boxed-in-Case.ensures,
      c.in_ok-push_case-in-Case.ensures,
      append_assoc,
    ) at c.push_branches.ensures)

pub push_signs-returns-in-Located : goal.push_signs-returns-in-Located
push_signs-returns-in-Located t c =
    simp (c.in-Located.is, located c.in-Located.field-0 c.in-Located.inner) c.push_boxed-in-Located.ensures

pub push_group-returns-in_ok-push_together-in-Together : goal.push_group-returns-in_ok-push_together-in-Together
push_group-returns-in_ok-push_together-in-Together t c =
    simp (c.in-Together.is, together c.in-Together.functions)
    (simp (
      c.in_ok-push_together-in-Together.ensures,
      append_assoc,
    ) at c.push_functions.ensures)

pub push_group-returns-in-Constant : goal.push_group-returns-in-Constant
push_group-returns-in-Constant t c =
    simp (c.in-Constant.is, constant c.in-Constant.field-0 c.in-Constant.body) c.push_boxed.ensures

pub push_group-returns-in_ok-push_pattern-in-Destructure : goal.push_group-returns-in_ok-push_pattern-in-Destructure
push_group-returns-in_ok-push_pattern-in-Destructure t c =
    simp (c.in-Destructure.is, destructure c.in-Destructure.pattern c.in-Destructure.body)
    (simp (c.in_ok-push_pattern-in-Destructure.ensures, append_assoc) at c.push_boxed-in-Destructure.ensures)

pub push_one_after-returns-in-Given : goal.push_one_after-returns-in-Given
push_one_after-returns-in-Given t c =
    simp (c.in-Given.is, view.given c.in-Given.field-0 c.in-Given.field-1) c.push_form.ensures

pub push_one_after-returns-in_ok-push_boxed-in-Composed : goal.push_one_after-returns-in_ok-push_boxed-in-Composed
push_one_after-returns-in_ok-push_boxed-in-Composed t c =
    simp (c.in-Composed.is, view.composed c.in-Composed.field-0 c.in-Composed.right)
    (simp (c.in_ok-push_boxed-in-Composed.ensures, append_assoc) at c.push_form-in-Composed.ensures)

pub push_one_after-returns-in-After : goal.push_one_after-returns-in-After
push_one_after-returns-in-After t c =
    simp (c.in-After.is, view.part_after c.in-After.op c.in-After.field-1) c.push_op_ends.ensures

pub push_one_after-returns-in_ok-push_boxed-in-Before : goal.push_one_after-returns-in_ok-push_boxed-in-Before
push_one_after-returns-in_ok-push_boxed-in-Before t c =
    simp (c.in-Before.is, view.part_before c.in-Before.op c.in-Before.right)
    (simp (c.in_ok-push_boxed-in-Before.ensures, append_assoc) at c.push_op_ends-in-Before.ensures)

pub push_one_after-returns-in-Decided : goal.push_one_after-returns-in-Decided
push_one_after-returns-in-Decided t c =
    simp (
      c.in-Decided.is,
      view.decided c.in-Decided.field-0 c.in-Decided.field-1 c.in-Decided.field-2,
      append-nil {A = Sign},
    )

pub push_boxed-returns : goal.push_boxed-returns
push_boxed-returns t c = simp c.deref.ensures at c.push_signs.ensures

pub push_formed-returns : goal.push_formed-returns
push_formed-returns t c = simp (c.in_ok-push_form.ensures, append_assoc) at c.push_boxed.ensures

pub push_one_before-returns-in_ok-push_formed-in-Given : goal.push_one_before-returns-in_ok-push_formed-in-Given
push_one_before-returns-in_ok-push_formed-in-Given t c =
    simp (c.in-Given.is, view.given c.in-Given.function c.in-Given.arguments)
    (simp (c.in_ok-push_formed-in-Given.ensures, append_assoc) at c.push_all.ensures)

pub push_one_before-returns-in-Composed : goal.push_one_before-returns-in-Composed
push_one_before-returns-in-Composed t c =
    simp (c.in-Composed.is, view.composed c.in-Composed.function c.in-Composed.field-1) c.push_formed-in-Composed.ensures

pub push_one_before-returns-in_ok-push_op-in-After : goal.push_one_before-returns-in_ok-push_op-in-After
push_one_before-returns-in_ok-push_op-in-After t c =
    simp (c.in-After.is, view.part_after c.in-After.op c.in-After.parts)
    (simp (c.in_ok-push_op-in-After.ensures, append_assoc) at c.push_all-in-After.ensures)

pub push_one_before-returns-in-Before : goal.push_one_before-returns-in-Before
push_one_before-returns-in-Before t c =
    simp (c.in-Before.is, view.part_before c.in-Before.op c.in-Before.field-1) c.push_op-in-Before.ensures

pub push_one_before-returns-in-Decided : goal.push_one_before-returns-in-Decided
push_one_before-returns-in-Decided t c =
    simp (c.in-Decided.is, view.decided c.in-Decided.field-0 c.in-Decided.field-1 c.in-Decided.left)
    c.push_formed-in-Decided.ensures

pub push_before-loop-left-preserved : goal.push_before-loop-left-preserved
push_before-loop-left-preserved t c =
    let links = c.args.links.now.items in
    let left = c.loop-left.left in
    let x = c.index.result.now in
    let one : left - 1 + 1 ≡ left = omega (arith, c.loop-left-test.true) in
    let next : map link_view (drop (left - 1) links) ≡ link_view x ∷ map link_view (drop left links) =
    ap (map link_view) (drop_at links (left - 1) x (omega (arith, c.loop-left-test.true, c.loop-left.invariant.0))
    c.index.ensures)
    ∙ ap (λ n. link_view x ∷ map link_view (drop n links)) one in (
      omega (arith, c.loop-left.invariant.0),
      c.in_ok-push_one_before.ensures
          ∙ ap (λ us. us ++ before (link_view x)) c.loop-left.invariant.1
          ∙ append_assoc c.args.signs.now.items (before_all (map link_view (drop left links))) (before (link_view x))
          ∙ ap (λ ls. c.args.signs.now.items ++ before_all ls) (sym next),
    )

pub push_after-loop-place-preserved : goal.push_after-loop-place-preserved
push_after-loop-place-preserved t c =
    let i = c.loop-place.place in
    let x = c.index.result.now in
    let before = map link_view (take i c.args.links.now.items) in
    let next = map_next link_view c.args.links.now.items i x (omega arith) c.index.ensures in
    simp (
      c.in_ok-push_one_after.ensures,
      c.loop-place.invariant,
      next,
      sym (flat_map_more after c.args.signs.now.items before (link_view x)),
      append_assoc,
    )

pub push_all-loop-place-preserved : goal.push_all-loop-place-preserved
push_all-loop-place-preserved t c =
    let i = c.loop-place.place in
    let x = c.index.result.now in
    let before = map expr_view (take i c.args.exprs.now.items) in
    let next = map_next expr_view c.args.exprs.now.items i x (omega arith) c.index.ensures in
    simp (
      c.in_ok-push_signs.ensures,
      c.loop-place.invariant,
      next,
      sym (exprs_next before (expr_view x)),
      append_assoc,
    )

pub push_groups-loop-place-preserved : goal.push_groups-loop-place-preserved
push_groups-loop-place-preserved t c =
    let i = c.loop-place.place in
    let x = c.index.result.now in
    let before = map group_view (take i c.args.groups.now.items) in
    let next = map_next group_view c.args.groups.now.items i x (omega arith) c.index.ensures in
    simp (
      c.in_ok-push_group.ensures,
      c.loop-place.invariant,
      next,
      sym (groups_next before (group_view x)),
      append_assoc,
    )

pub push_branches-loop-place-preserved : goal.push_branches-loop-place-preserved
push_branches-loop-place-preserved t c =
    let i = c.loop-place.place in
    let x = c.index-branch.result.now in
    let before = map branch_view (take i c.args.branches.now.items) in
    let next = map_next branch_view c.args.branches.now.items i x (omega arith) c.index-branch.ensures in
    simp (
      c.in_ok-push_boxed.ensures,
      c.in_ok-push_pattern.ensures,
      c.loop-place.invariant,
      next,
      branch x,
      sym (branches_next before (pattern_view x.pattern, expr_view x.body.value)),
      append_assoc,
    )

pub push_functions-loop-place-preserved : goal.push_functions-loop-place-preserved
push_functions-loop-place-preserved t c =
    let i = c.loop-place.place in
    let x = c.index-function.result.now in
    let before = map function_view (take i c.args.functions.now.items) in
    let next = map_next function_view c.args.functions.now.items i x (omega arith) c.index-function.ensures in
    simp (
      c.in_ok-push_boxed.ensures,
      c.in_ok-push_form.ensures,
      c.in_ok-push_patterns.ensures,
      c.loop-place.invariant,
      next,
      function x,
      sym (functions_next before (title_view x.title, patterns_view x.parameters.items, expr_view x.body.value)),
      append_assoc,
    )
