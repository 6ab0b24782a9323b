use Rattle.std.proofs.Common.{◌≡◌, take, map}
use Rattle.type_schemes.specs.Order.{number_in}
use Rattle.type_schemes.specs.Cells.{older_in, part_in}
use Rattle.type_schemes.specs.View.{part_view}
use Rattle.type_schemes.proofs.freezing.parts.Given as goal

abbrev pub invariant-loop-variable : goal.invariant-loop-variable
invariant-loop-variable l =
    map part_view l.parts.items ≡ map (part_in l.depth l.store (number_in (older_in l.order))) (take l.variable-index l.variables)
