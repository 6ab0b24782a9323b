use Rattle.std.proofs.Common.{◌≡◌, drop}
use Rattle.std.specs.List.{list_all}
use Rattle.elm_canon.specs.Spelled.{is_name_unit}
use Rattle.port_payload.proofs.words.are_name_units.Given as goal

abbrev pub invariant-loop-unit : goal.invariant-loop-unit
invariant-loop-unit l = list_all is_name_unit (drop l.unit-index l.units) ≡ list_all is_name_unit l.units
