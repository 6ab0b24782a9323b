use Rattle.std.proofs.Common.{◌≡◌, ◌++◌, ◌==◌, take}
use Rattle.js_tree.specs.Text.{fields_text, outs_fields}
use Rattle.js_printer.proofs.program.write_ports.Given as goal

abbrev pub invariant-loop-port : goal.invariant-loop-port
invariant-loop-port l = record {
  written : l.text.items ≡ l.initial.text.items ++ fields_text (outs_fields (take l.port-index l.port-items));
  first : l.is_first ≡ (l.port-index == 0);
}
