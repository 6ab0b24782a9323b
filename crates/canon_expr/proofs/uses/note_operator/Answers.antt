-- An operator of the language has a level below 10: `level_tells`.
use Rattle.std.proofs.Common.{◌≡◌, ◌<◌, ◌≤◌, ℕ, true, false, nat_lt, sym, ap, ◌∙◌, arith}
use Rattle.std.proofs.lemmas.Bool.Decides.{nat_tests}
use Rattle.elm_tree.specs.View.{word_view}
use Rattle.elm_tree.specs.Turns.{tokens_view}
use Rattle.canon_env.proofs.Operators.{level_tells}
use Rattle.canon_env.specs.Exposing.{is_operator}
use Rattle.canon_expr.proofs.Marking.{on_ok_both}
use Rattle.canon_expr.proofs.Using.{operator_known, operator_unknown}
use Rattle.canon_expr.proofs.uses.note_operator.Goals as goal

below : (n m : ℕ) → n < m → nat_lt n m ≡ true
below n m l = grind (arith, nat_tests)

not_below : (n m : ℕ) → m ≤ n → nat_lt n m ≡ false
not_below n m l = grind (arith, nat_tests)

pub returns-then-strength_of-lt-NO_LEVEL : goal.returns-then-strength_of-lt-NO_LEVEL
returns-then-strength_of-lt-NO_LEVEL c = λ w.
    let op = word_view (tokens_view c.args.tokens.now) c.args.operator in
    operator_known w c.args.log.now op
    (ap is_operator (sym c.text_at.ensures) ∙ sym (level_tells c.text_at.result.now)
    ∙ ap (λ n. nat_lt n 10) (sym c.strength_of.ensures.level)
    ∙ below c.strength_of.result.level 10 (omega arith))

pub returns : goal.returns
returns c =
    let op = word_view (tokens_view c.args.tokens.now) c.args.operator in
    on_ok_both c.note_word.result
    (λ found used w. operator_unknown w c.args.log.now c.note_word.new.self op
    (ap is_operator (sym c.text_at.ensures) ∙ sym (level_tells c.text_at.result.now)
    ∙ ap (λ n. nat_lt n 10) (sym c.strength_of.ensures.level)
    ∙ not_below c.strength_of.result.level 10 (omega arith)) found used)
    c.note_word.ensures.findings c.note_word.ensures.uses
