use Rattle.std.proofs.Common.{arith}
use Rattle.module_offers.specs.View.{values_view}
use Rattle.module_offers.proofs.Valuing.{functions_next}
use Rattle.module_offers.proofs.listing.push_functions.Goals as goal

pub loop-function-preserved : goal.loop-function-preserved
loop-function-preserved g c =
    functions_next (g.T.Told.schemes c.args.told.now) (g.N.Naming.test c.args.naming.now)
    (values_view c.args.values.now.items) (values_view c.push_defined.new.values.items)
    (values_view c.loop-function.values.items) c.args.functions.now c.loop-function.function-index
    c.function-item.result c.len-parameters.result (omega arith) c.function-item.is
    (omega (arith, c.len-parameters.ensures))
    c.loop-function.invariant c.in_ok-push_defined.ensures
