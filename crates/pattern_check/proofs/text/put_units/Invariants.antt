use Rattle.std.proofs.Common.{◌≡◌, ◌++◌, drop}
use Rattle.pattern_check.specs.Text.{units_text}
use Rattle.pattern_check.proofs.text.put_units.Given as goal

abbrev pub invariant-loop-unit : goal.invariant-loop-unit
invariant-loop-unit l =
    l.text.items ++ units_text l.quote (drop l.unit-index l.units) ≡ l.fn.text.items ++ units_text l.quote l.units
