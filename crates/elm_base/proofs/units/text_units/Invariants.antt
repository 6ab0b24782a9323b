use Rattle.std.proofs.Common.{◌≡◌}
use Rattle.elm_base.specs.Units.{units_of_chars}
use Rattle.elm_base.proofs.units.text_units.Given as goal

abbrev pub invariant-loop-character : goal.invariant-loop-character
invariant-loop-character l = l.units.items ≡ units_of_chars l.yielded
