use Rattle.std.proofs.Common.{◌≡◌, ◌++◌, ◌==◌, take}
use Rattle.js_tree.specs.Text.{fields_text, outs_fields}
use Rattle.emit_program.proofs.emit_text_ports.write_zeros.Given as goal

abbrev pub invariant-loop-name : goal.invariant-loop-name
invariant-loop-name l = record {
  written : l.text.items ≡ l.initial.text.items ++ fields_text (outs_fields (take l.name-index l.names));
  first : l.is_first ≡ (l.name-index == 0);
}
