use Rattle.std.proofs.Common.{arith}
use Rattle.elm_canon.specs.View.{declaration_view}
use Rattle.module_offers.specs.Offers.{declared_values}
use Rattle.module_offers.specs.View.{values_view}
use Rattle.module_offers.proofs.Valuing.{items_next}
use Rattle.module_offers.proofs.listing.push_all_declared.Goals as goal

pub loop-declaration-preserved : goal.loop-declaration-preserved
loop-declaration-preserved g c =
    items_next declaration_view (declared_values (g.T.Told.schemes c.args.told.now))
    (g.N.Naming.test c.args.naming.now) (values_view c.args.values.now.items)
    (values_view c.push_declared.new.values.items) (values_view c.loop-declaration.values.items)
    c.args.declarations.now c.loop-declaration.declaration-index c.declaration-item.result (omega arith)
    c.declaration-item.is c.loop-declaration.invariant c.in_ok-push_declared.ensures
