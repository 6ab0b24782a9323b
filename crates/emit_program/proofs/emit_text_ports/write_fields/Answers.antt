use Rattle.std.proofs.Common.{arith}
use Rattle.std.proofs.lemmas.Bool.Decides.{nat_tests}
use Rattle.std.proofs.lemmas.Grind.{common_steps}
use Rattle.emit_program.specs.Texts.{in_view}
use Rattle.emit_program.proofs.Ordered.{next_field}
use Rattle.emit_program.proofs.emit_text_ports.write_fields.Goals as goal

pub loop-port-preserved : goal.loop-port-preserved
loop-port-preserved c = record {
  written =
      let next = next_field in_view c.args.ports.now c.loop-port.port-index c.port-item.result (omega arith) c.port-item.is in
      rw next (grind (arith, common_steps));
  first = grind (arith, nat_tests);
}
