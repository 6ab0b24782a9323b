use Rattle.std.proofs.Common.{◌≡◌, ◌+◌, length}
use Rattle.std.specs.Str.{IsUtf8, chars}
use Rattle.std.specs.Str.Iter.{chars_rest}
use Rattle.elm_base.specs.Path.{is_name_char}
use Rattle.elm_lexer.specs.Lengths.{run}
use Rattle.elm_lexer.proofs.piece.name_chars.Given as goal

abbrev pub invariant-loop-c : goal.invariant-loop-c
invariant-loop-c l = record {
  text : IsUtf8 (chars_rest l.rest);
  within : l.count + length (chars_rest l.rest) ≡ length l.text;
  same : l.count + run is_name_char (chars (chars_rest l.rest)) ≡ run is_name_char (chars l.text);
}

abbrev pub decreases-loop-c : goal.decreases-loop-c
decreases-loop-c l = length (chars_rest l.rest)
