use Rattle.std.proofs.Common.{arith}
use Rattle.std.proofs.lemmas.Grind.{common_steps}
use Rattle.elm_canon.proofs.Views.{variable_type}
use Rattle.infer.proofs.makers.variables.Goals as goal

pub loop-name-preserved : goal.loop-name-preserved
loop-name-preserved c = let e = variable_type c.in_ok-clone.field-0 in grind (arith, common_steps)
