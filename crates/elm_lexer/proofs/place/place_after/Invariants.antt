use Rattle.std.proofs.Common.{◌≡◌, ◌+◌, ◌≤◌, length}
use Rattle.elm_lexer.specs.Tokens.{place_after}
use Rattle.elm_lexer.specs.View.{place_view}
use Rattle.elm_lexer.proofs.place.place_after.Given as goal

abbrev pub invariant-loop-rest : goal.invariant-loop-rest
invariant-loop-rest l = record {
  row : l.at.row + length l.rest ≤ l.fn.place.row + length l.text;
  column : l.at.column + length l.rest ≤ l.fn.place.column + length l.text;
  same : place_after (place_view l.at) l.rest ≡ place_after (place_view l.fn.place) l.text;
}

abbrev pub decreases-loop-rest : goal.decreases-loop-rest
decreases-loop-rest l = length l.rest
