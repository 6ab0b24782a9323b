use Rattle.std.proofs.Common.{◌≡◌, ◌++◌, ◌==◌, map, take}
use Rattle.emit_program.specs.Texts.{in_view, listed}
use Rattle.emit_program.proofs.emit_text_ports.write_fields.Given as goal

abbrev pub invariant-loop-port : goal.invariant-loop-port
invariant-loop-port l = record {
  written : l.text.items ≡ l.initial.text.items ++ listed (map in_view (take l.port-index l.ports));
  first : l.is_first ≡ (l.port-index == 0);
}
