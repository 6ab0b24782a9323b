use Rattle.std.proofs.Common.{◌≡◌, ◌≤◌, length}
use Rattle.elm_lexer.specs.Literals.{ends_code}
use Rattle.elm_lexer.proofs.literal.ends_code.Given as goal

abbrev pub invariant-loop-rest : goal.invariant-loop-rest
invariant-loop-rest l = record {
  few : l.count ≤ 6;
  small : l.value ≤ 1114111;
  same : ends_code l.count l.value l.rest ≡ ends_code 0 0 l.text;
}

abbrev pub decreases-loop-rest : goal.decreases-loop-rest
decreases-loop-rest l = length l.rest
