use Rattle.std.proofs.Common.{arith}
use Rattle.std.proofs.lemmas.Grind.{common_steps}
use Rattle.elm_canon.proofs.Views.{field_type}
use Rattle.infer.proofs.makers.field_copies.Goals as goal

pub loop-field-preserved : goal.loop-field-preserved
loop-field-preserved c = let e = field_type c.field-item.result in grind (arith, common_steps)
