use Rattle.std.proofs.Common.{◌≡◌, ◌+◌, [], ◌∷◌, ◌++◌, nat_eq, map, ap, ◌∙◌, arith}
use Rattle.std.proofs.lemmas.List.{length-map}
use Rattle.elm_canon.specs.Tree.{exprs_of}
use Rattle.elm_canon.specs.View.{expr_view, done}
use Rattle.elm_canon.proofs.Views as view
use Rattle.elm_canon.specs.Proper.{count_exprs}
use Rattle.js_emit.specs.Loops.{is_name, has_turn}
use Rattle.emit_exprs.proofs.Forms.{link_seen}
use Rattle.emit_exprs.proofs.Steps.{count_with, both_then, both_else}
use Rattle.emit_exprs.proofs.turns.is_turn.Goals as goal

pub returns-then-is_name : goal.returns-then-is_name
returns-then-is_name c = λ e.
    let es = map expr_view c.in-Given.arguments.items in
    let n = c.args.count in
    let many : c.len.result + 1 ≡ count_exprs (exprs_of (es ++ e ∷ [])) =
    omega (arith, count_with es e, length-map c.in-Given.arguments.items expr_view, c.len.ensures) in
    ap (λ k. nat_eq k n) many
    ∙ both_then (nat_eq (count_exprs (exprs_of (es ++ e ∷ []))) n) (c.is_name.ensures ∙ ap
    (λ x. is_name c.args.function.now (expr_view x)) c.deref.ensures) c.if-is_name.true
    ∙ link_seen (λ l. has_turn c.args.function.now n (done l e)) c.in-Given.is (view.given c.in-Given.callee c.in-Given.arguments)

pub returns-else-is_name : goal.returns-else-is_name
returns-else-is_name c = λ e.
    let es = map expr_view c.in-Given.arguments.items in
    let n = c.args.count in
    both_else (nat_eq (count_exprs (exprs_of (es ++ e ∷ []))) n) (c.is_name.ensures ∙ ap
    (λ x. is_name c.args.function.now (expr_view x)) c.deref.ensures) c.if-is_name.false
    ∙ link_seen (λ l. has_turn c.args.function.now n (done l e)) c.in-Given.is (view.given c.in-Given.callee c.in-Given.arguments)

pub returns-then-is_name-2 : goal.returns-then-is_name-2
returns-then-is_name-2 c = λ e.
    let n = c.args.count in
    both_then (nat_eq 2 n) (c.is_name-in-Composed.ensures ∙ ap (λ x. is_name c.args.function.now (expr_view x))
    c.deref-in-Composed.ensures) c.if-is_name-2.true
    ∙ link_seen (λ l. has_turn c.args.function.now n (done l e)) c.in-Composed.is (view.composed c.in-Composed.callee c.in-Composed.field-1)

pub returns-else-is_name-2 : goal.returns-else-is_name-2
returns-else-is_name-2 c = λ e.
    let n = c.args.count in
    both_else (nat_eq 2 n) (c.is_name-in-Composed.ensures ∙ ap (λ x. is_name c.args.function.now (expr_view x))
    c.deref-in-Composed.ensures) c.if-is_name-2.false
    ∙ link_seen (λ l. has_turn c.args.function.now n (done l e)) c.in-Composed.is (view.composed c.in-Composed.callee c.in-Composed.field-1)

pub returns-in-After : goal.returns-in-After
returns-in-After c = λ e.
    link_seen (λ l. has_turn c.args.function.now c.args.count (done l e)) c.in-After.is (view.part_after c.in-After.field-0 c.in-After.field-1)

pub returns-in-Before : goal.returns-in-Before
returns-in-Before c = λ e.
    link_seen (λ l. has_turn c.args.function.now c.args.count (done l e)) c.in-Before.is (view.part_before c.in-Before.field-0 c.in-Before.field-1)

pub returns-in-Decided : goal.returns-in-Decided
returns-in-Decided c = λ e.
    link_seen (λ l. has_turn c.args.function.now c.args.count (done l e)) c.in-Decided.is (view.decided c.in-Decided.field-0 c.in-Decided.field-1 c.in-Decided.field-2)
