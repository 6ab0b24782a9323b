use Rattle.std.proofs.Common.{◌≡◌, ◌++◌, map, take}
use Rattle.elm_canon.specs.View.{port_declaration_view}
use Rattle.module_offers.specs.Offers.{named_by, port_value}
use Rattle.module_offers.specs.View.{values_view}
use Rattle.module_offers.proofs.listing.push_ports.Given as goal

abbrev pub invariant-loop-port : goal.invariant-loop-port
invariant-loop-port g l =
    values_view l.values.items
    ≡ values_view l.initial.values.items
    ++ named_by (g.N.Naming.test l.naming) (map port_value (map port_declaration_view (take l.port-index l.ports)))
