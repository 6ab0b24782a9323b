use Rattle.std.proofs.Common.{◌≡◌, ◌++◌, take}
use Rattle.elm_base.specs.Quoted.{units_text}
use Rattle.elm_base.proofs.quoted.write_text.Given as goal

abbrev pub invariant-loop-unit : goal.invariant-loop-unit
invariant-loop-unit l = l.text.items ≡ l.initial.text.items ++ units_text (take l.unit-index l.units)
