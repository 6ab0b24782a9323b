-- The operators of the language are those whose level is below 10: `level_tells`.
use Rattle.std.proofs.Common.{nat_lt, ap, ◌∙◌}
use Rattle.canon_env.proofs.Operators.{level_tells}
use Rattle.canon_env.proofs.exposing.is_operator.Goals as goal

pub returns : goal.returns
returns c = ap (λ n. nat_lt n 10) c.strength_of.ensures.level ∙ level_tells c.args.operator.now
