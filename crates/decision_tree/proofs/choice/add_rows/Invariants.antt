use Rattle.std.proofs.Common.{◌≡◌, ◌++◌, drop, map}
use Rattle.elm_canon.specs.View.{pattern_view}
use Rattle.decision_tree.specs.Views.{rows_of, rows_view}
use Rattle.decision_tree.proofs.choice.add_rows.Given as goal

abbrev pub invariant-loop-number : goal.invariant-loop-number
invariant-loop-number l =
    rows_view l.out.items ++ rows_of l.number (drop l.number (map (λ p. pattern_view p.now) l.patterns.items))
    ≡ rows_view l.fn.out.items ++ rows_of 0 (map (λ p. pattern_view p.now) l.patterns.items)
