-- The texts of units and of ports, one on: `next_port`.
use Rattle.std.proofs.Common.{arith}
use Rattle.std.proofs.lemmas.Bool.Decides.{nat_tests}
use Rattle.std.proofs.lemmas.Grind.{common_steps}
use Rattle.js_printer.proofs.Texts.{next_port}
use Rattle.js_printer.proofs.program.write_ports.Goals as goal

-- src/program.rt:51:5
pub loop-port-preserved : goal.loop-port-preserved
loop-port-preserved c = record {
  written =
      let next = next_port c.deref-port-items.result.now c.loop-port.port-index c.port-item.result (omega arith) c.port-item.is in
      rw next (grind (arith, common_steps));
  first = grind (arith, nat_tests);
}
