use Rattle.std.proofs.Common.{◌≡◌, ◌+◌, length, false}
use Rattle.elm_lexer.specs.Literals.{bad_escape}
use Rattle.elm_lexer.proofs.literal.bad_escape.Given as goal

abbrev pub invariant-loop-rest : goal.invariant-loop-rest
invariant-loop-rest l = record {
  within : l.count + length l.rest ≡ length l.literal;
  same : bad_escape l.escaped l.count l.rest ≡ bad_escape false 0 l.literal;
}

abbrev pub decreases-loop-rest : goal.decreases-loop-rest
decreases-loop-rest l = length l.rest
