use Rattle.std.proofs.Common.{◌≡◌, ◌+◌, length, false}
use Rattle.elm_lexer.specs.Literals.{line_length}
use Rattle.elm_lexer.proofs.literal.line_length.Given as goal

abbrev pub invariant-loop-rest : goal.invariant-loop-rest
invariant-loop-rest l = record {
  within : l.count + length l.rest ≡ 1 + length l.text;
  same : line_length l.quote l.escaped l.count l.rest ≡ line_length l.quote false 1 l.text;
}

abbrev pub decreases-loop-rest : goal.decreases-loop-rest
decreases-loop-rest l = length l.rest
