-- The texts of units and of ports, one on: `name_units-append`.
use Rattle.std.proofs.Common.{arith}
use Rattle.std.proofs.lemmas.Grind.{common_steps}
use Rattle.js_printer.proofs.Texts.{name_units-append}
use Rattle.js_printer.proofs.spelling.write_name_units.Goals as goal

-- src/spelling.rt:95:5
pub loop-unit-preserved : goal.loop-unit-preserved
loop-unit-preserved c = grind (arith, common_steps, name_units-append)
