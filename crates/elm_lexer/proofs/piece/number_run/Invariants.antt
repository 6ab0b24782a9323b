use Rattle.std.proofs.Common.{◌≡◌, ◌+◌, length}
use Rattle.std.specs.Str.{IsUtf8, chars}
use Rattle.std.specs.Str.Iter.{chars_rest}
use Rattle.elm_lexer.specs.declared.part.Part.TheVariants.{Whole}
use Rattle.elm_lexer.specs.Lengths.{number_run}
use Rattle.elm_lexer.proofs.piece.number_run.Given as goal

abbrev pub invariant-loop-c : goal.invariant-loop-c
invariant-loop-c l = record {
  text : IsUtf8 (chars_rest l.rest);
  within : l.count + length (chars_rest l.rest) ≡ length l.text;
  same : l.count + number_run l.part (chars (chars_rest l.rest)) ≡ number_run Whole (chars l.text);
}

abbrev pub decreases-loop-c : goal.decreases-loop-c
decreases-loop-c l = length (chars_rest l.rest)
