-- Units and their texts, one on: `units_text-append`.
use Rattle.std.proofs.Common.{arith}
use Rattle.std.proofs.lemmas.Grind.{common_steps}
use Rattle.elm_base.proofs.Texts.{units_text-append}
use Rattle.elm_base.proofs.quoted.write_text.Goals as goal

pub loop-unit-preserved : goal.loop-unit-preserved
loop-unit-preserved c = grind (arith, common_steps, units_text-append)
