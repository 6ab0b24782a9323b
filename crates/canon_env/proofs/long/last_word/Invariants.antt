use Rattle.std.proofs.Common.{◌≡◌, length}
use Rattle.elm_lexer.specs.Kinds.{last_word}
use Rattle.canon_env.proofs.long.last_word.Given as goal

abbrev pub invariant-loop-rest : goal.invariant-loop-rest
invariant-loop-rest l = last_word l.word l.rest ≡ last_word l.name l.name

abbrev pub decreases-loop-rest : goal.decreases-loop-rest
decreases-loop-rest l = length l.rest
