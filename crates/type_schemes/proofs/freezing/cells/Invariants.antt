use Rattle.std.proofs.Common.{◌≡◌, take, map}
use Rattle.type_schemes.specs.Order.{number_in}
use Rattle.type_schemes.specs.Cells.{older_in, cell_in}
use Rattle.type_schemes.specs.View.{cell_view}
use Rattle.type_schemes.proofs.freezing.cells.Given as goal

abbrev pub invariant-loop-variable : goal.invariant-loop-variable
invariant-loop-variable l =
    map cell_view l.cells.items ≡ map (cell_in l.depth l.store (number_in (older_in l.order))) (take l.variable-index l.order.variables.items)
