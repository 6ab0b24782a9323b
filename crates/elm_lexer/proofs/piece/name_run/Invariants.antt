use Rattle.std.proofs.Common.{◌≡◌, ◌+◌, length}
use Rattle.std.specs.Str.{IsUtf8, chars}
use Rattle.std.specs.Str.Iter.{chars_rest}
use Rattle.elm_lexer.specs.Kinds.{begins_upper}
use Rattle.elm_lexer.specs.Lengths.{name_run}
use Rattle.elm_lexer.proofs.piece.name_run.Given as goal

abbrev pub invariant-loop-c : goal.invariant-loop-c
invariant-loop-c l = record {
  text : IsUtf8 (chars_rest l.rest);
  within : l.count + length (chars_rest l.rest) ≡ length l.text;
  same : l.count + name_run l.upper (chars (chars_rest l.rest)) ≡ name_run (begins_upper (chars l.text)) (chars l.text);
}

abbrev pub decreases-loop-c : goal.decreases-loop-c
decreases-loop-c l = length (chars_rest l.rest)
