use Rattle.std.proofs.Common.{arith}
use Rattle.std.proofs.lemmas.Bool.Decides.{nat_tests}
use Rattle.std.proofs.lemmas.Grind.{common_steps}
use Rattle.js_printer.proofs.Texts.{next_port}
use Rattle.emit_program.proofs.emit_text_ports.write_zeros.Goals as goal

pub loop-name-preserved : goal.loop-name-preserved
loop-name-preserved c = record {
  written =
      let next = next_port c.args.names.now c.loop-name.name-index c.name-item.result (omega arith) c.name-item.is in
      rw next (grind (arith, common_steps));
  first = grind (arith, nat_tests);
}
