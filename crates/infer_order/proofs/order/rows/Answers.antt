use Rattle.std.proofs.Common.{map, arith}
use Rattle.elm_canon.specs.View.{group_view}
use Rattle.infer_order.specs.Owners.{all_numbers}
use Rattle.infer_order.proofs.Listing.{next_row}
use Rattle.infer_order.proofs.order.rows.Goals as goal

pub loop-definition-preserved : goal.loop-definition-preserved
loop-definition-preserved c =
    next_row (map (λ g. group_view g.now) c.args.groups.now) c.args.definitions.now c.loop-definition.definition-index
    c.definition-item.result
    (λ d. all_numbers c.args.owners.now d.uses) c.loop-definition.rows.items c.push.new.self.items c.in_ok-row.field-0
    (omega arith) c.definition-item.is
    c.in_ok-push.ensures.items c.loop-definition.invariant c.in_ok-row.ensures
