use Rattle.std.proofs.Common.{◌≡◌, ◌++◌, take}
use Rattle.js_tree.specs.Text.{name_units}
use Rattle.js_printer.proofs.spelling.write_name_units.Given as goal

abbrev pub invariant-loop-unit : goal.invariant-loop-unit
invariant-loop-unit l = l.text.items ≡ l.initial.text.items ++ name_units (take l.unit-index l.units)
