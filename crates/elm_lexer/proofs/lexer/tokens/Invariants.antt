use Rattle.std.proofs.Common.{◌+◌, ◌≤◌, length, map}
use denote.Text.{Utf8}
use denote.Shadow.{shadow}
use Rattle.elm_lexer.proofs.Loop.{Cuts}
use Rattle.elm_lexer.specs.View.{token_view, place_view}
use Rattle.elm_lexer.proofs.lexer.tokens.Given as goal

abbrev pub invariant-loop-rest : goal.invariant-loop-rest
invariant-loop-rest l = record {
  utf8 : shadow (Utf8 l.rest);
  row : l.place.row + length l.rest ≤ 1 + length l.text;
  column : l.place.column + length l.rest ≤ 1 + length l.text;
  count : length l.found.items + length l.rest ≤ length l.text;
  cuts : Cuts l.text (map token_view l.found.items) (place_view l.place) l.touched l.rest;
}

abbrev pub decreases-loop-rest : goal.decreases-loop-rest
decreases-loop-rest l = length l.rest
