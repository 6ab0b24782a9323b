use Rattle.type_safety.proofs.laws.expression_law.Goals as goal
use Rattle.type_safety.proofs.Progress.{expression_good}
use Rattle.type_safety.proofs.Sound.{steps_keep_types}

pub returns : goal.returns
returns c = λ w sound n e env hidden scope f here p t simple stands free fits sol.
    expression_good w (steps_keep_types w sound) n e env hidden scope f here p t simple stands free fits sol
