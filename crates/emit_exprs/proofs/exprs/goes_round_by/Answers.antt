use Rattle.std.proofs.Common.{◌≡◌, ◌+◌, [], ◌∷◌, ◌++◌, map, refl, ap, ◌∙◌, arith}
use Rattle.std.proofs.lemmas.List.{length-map}
use Rattle.elm_canon.specs.Tree.{exprs_of}
use Rattle.elm_canon.specs.View.{expr_view}
use Rattle.elm_canon.proofs.Views as view
use Rattle.elm_canon.specs.Proper.{count_exprs}
use Rattle.js_emit.specs.Loops.{goes_round}
use Rattle.emit_exprs.specs.Turns.{loop_view}
use Rattle.emit_exprs.proofs.Forms.{link_seen}
use Rattle.emit_exprs.proofs.Steps.{count_with}
use Rattle.emit_exprs.specs.Chains.{turns_by}
use Rattle.emit_exprs.proofs.exprs.goes_round_by.Goals as goal

pub returns-in-Given : goal.returns-in-Given
returns-in-Given c = λ e.
    let es = map expr_view c.in-Given.arguments.items in
    let many : count_exprs (exprs_of (es ++ e ∷ [])) ≡ c.len.result + 1 =
    omega (arith, count_with es e, length-map c.in-Given.arguments.items expr_view, c.len.ensures) in
    c.goes_round.ensures (exprs_of (es ++ e ∷ [])) many
    ∙ ap (λ x. goes_round (loop_view c.args.place.now) (expr_view x) (exprs_of (es ++ e ∷ []))) c.deref.ensures
    ∙ link_seen (λ l. turns_by (loop_view c.args.place.now) l e) c.in-Given.is (view.given c.in-Given.callee c.in-Given.arguments)

pub returns-in-Composed : goal.returns-in-Composed
returns-in-Composed c = λ e.
    let es = exprs_of (e ∷ expr_view c.in-Composed.field-1.value ∷ []) in
    c.goes_round-in-Composed.ensures es refl
    ∙ ap (λ x. goes_round (loop_view c.args.place.now) (expr_view x) es) c.deref-in-Composed.ensures
    ∙ link_seen (λ l. turns_by (loop_view c.args.place.now) l e) c.in-Composed.is (view.composed c.in-Composed.callee c.in-Composed.field-1)

pub returns-in-After : goal.returns-in-After
returns-in-After c = λ e.
    link_seen (λ l. turns_by (loop_view c.args.place.now) l e) c.in-After.is (view.part_after c.in-After.field-0 c.in-After.field-1)

pub returns-in-Before : goal.returns-in-Before
returns-in-Before c = λ e.
    link_seen (λ l. turns_by (loop_view c.args.place.now) l e) c.in-Before.is (view.part_before c.in-Before.field-0 c.in-Before.field-1)

pub returns-in-Decided : goal.returns-in-Decided
returns-in-Decided c = λ e.
    link_seen (λ l. turns_by (loop_view c.args.place.now) l e) c.in-Decided.is (view.decided c.in-Decided.field-0 c.in-Decided.field-1 c.in-Decided.field-2)
