-- The turns of a chain, by a stack of operators: `along_start`, `along_clash`, `along_next`, `along_end`.
use Rattle.std.proofs.Common.{rules, map, arith, ◌∙◌, ap, ◌+◌, [], ◌∷◌, ◌++◌}
use Rattle.std.proofs.lemmas.List.{map-append}
use Rattle.elm_tree.specs.declared.turns.Turn.TheVariants.{Operand}
use Rattle.elm_tree.specs.Regroup as turn
use Rattle.elm_tree.specs.Turns.{tokens_view, turn_view}
use Rattle.elm_tree.proofs.Turning.{along_start, along_clash, along_next, along_end}
use Rattle.elm_tree.proofs.turns.turns.Goals as goal

pub loop-before-init : goal.loop-before-init
loop-before-init c =
    along_start (tokens_view c.args.tokens.now) c.args.operators.now c.new-waiting.result.items
    (map (turn_view (tokens_view c.args.tokens.now)) c.push.new.self.items) (search rules) (search rules)

pub returns-then-clashes_with-clause-clash : goal.returns-then-clashes_with-clause-clash
returns-then-clashes_with-clause-clash c =
    along_clash (tokens_view c.args.tokens.now) c.args.operators.now c.loop-before.before c.loop-before.waiting.items
    (map (turn_view (tokens_view c.args.tokens.now)) c.loop-before.turns.items) _ c.loop-before.invariant
    c.loop-before-test.true (search rules)

pub loop-before-preserved : goal.loop-before-preserved
loop-before-preserved c =
    along_next (tokens_view c.args.tokens.now) c.args.operators.now c.loop-before.before c.loop-before.waiting.items
    c.join_before.new.waiting.items (map (turn_view (tokens_view c.args.tokens.now)) c.loop-before.turns.items)
    (record { index = 0 })
    c.push-in-loop-before.new.self.items
    (map (turn_view (tokens_view c.args.tokens.now)) c.push-in-loop-before-2.new.self.items) c.loop-before.invariant
    c.loop-before-test.true (search rules) (search rules) (search rules)
    (ap (map (turn_view (tokens_view c.args.tokens.now))) c.in_ok-push-3.ensures.items
    ∙ map-append (turn_view (tokens_view c.args.tokens.now)) c.join_before.new.turns.items
    (Operand (c.loop-before.before + 1) ∷ [])
    ∙ ap (λ z. z ++ turn.Operand (c.loop-before.before + 1) ∷ []) c.in_ok-join_before.ensures.turns)

pub returns-clause-turns : goal.returns-clause-turns
returns-clause-turns c =
    let h = along_end (tokens_view c.args.tokens.now) c.args.operators.now c.loop-before.before
    c.loop-before.waiting.items (map (turn_view (tokens_view c.args.tokens.now)) c.loop-before.turns.items)
    c.loop-before.invariant (omega arith) in
    c.in_ok-join_all.ensures ∙ h.1

pub returns-clause-grouped : goal.returns-clause-grouped
returns-clause-grouped c =
    let h = along_end (tokens_view c.args.tokens.now) c.args.operators.now c.loop-before.before
    c.loop-before.waiting.items (map (turn_view (tokens_view c.args.tokens.now)) c.loop-before.turns.items)
    c.loop-before.invariant (omega arith) in
    h.0
