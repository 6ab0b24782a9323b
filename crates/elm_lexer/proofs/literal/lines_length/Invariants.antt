use Rattle.std.proofs.Common.{◌≡◌, ◌+◌, length, false}
use Rattle.elm_lexer.specs.Literals.{lines_length}
use Rattle.elm_lexer.proofs.literal.lines_length.Given as goal

abbrev pub invariant-loop-rest : goal.invariant-loop-rest
invariant-loop-rest l = record {
  within : l.count + length l.rest ≡ 3 + length l.text;
  same : lines_length l.escaped l.count l.rest ≡ lines_length false 3 l.text;
}

abbrev pub decreases-loop-rest : goal.decreases-loop-rest
decreases-loop-rest l = length l.rest
