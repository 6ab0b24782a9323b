use Rattle.std.proofs.Common.{arith}
use Rattle.elm_canon.specs.View.{port_declaration_view}
use Rattle.module_offers.specs.Offers.{port_value}
use Rattle.module_offers.specs.View.{values_view}
use Rattle.module_offers.proofs.Valuing.{values_next}
use Rattle.module_offers.proofs.listing.push_ports.Goals as goal

pub loop-port-preserved : goal.loop-port-preserved
loop-port-preserved g c =
    values_next port_declaration_view port_value (g.N.Naming.test c.args.naming.now)
    (values_view c.args.values.now.items) (values_view c.push_port.new.values.items)
    (values_view c.loop-port.values.items) c.args.ports.now c.loop-port.port-index c.port-item.result
    (omega arith) c.port-item.is c.loop-port.invariant c.in_ok-push_port.ensures
