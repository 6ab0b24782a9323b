-- The name of a field: `one_name`.
use Rattle.std.proofs.Common.{arith}
use Rattle.std.proofs.lemmas.Grind.{common_steps}
use Rattle.type_schemes.proofs.Pairing.{one_name}
use Rattle.type_schemes.proofs.beside.push_each.Goals as goal

pub loop-field-preserved : goal.loop-field-preserved
loop-field-preserved c = let e = one_name c.field-item.result in grind (arith, common_steps)
