use Rattle.std.proofs.Common.{◌≡◌, length}
use Rattle.elm_lexer.specs.Literals.{is_rest_and_quote}
use Rattle.elm_lexer.proofs.literal.is_rest_and_quote.Given as goal

abbrev pub invariant-loop-rest : goal.invariant-loop-rest
invariant-loop-rest l = is_rest_and_quote l.rest ≡ is_rest_and_quote l.text

abbrev pub decreases-loop-rest : goal.decreases-loop-rest
decreases-loop-rest l = length l.rest
