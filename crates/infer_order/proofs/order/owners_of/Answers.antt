use Rattle.std.proofs.Common.{map, ap, ◌∙◌, arith}
use Rattle.elm_canon.specs.View.{group_view}
use Rattle.infer_order.specs.Order.{IsDefinition}
use Rattle.infer_order.specs.Owners.{numbers_of, put_from, nothing}
use Rattle.infer_order.proofs.Placing.{take_whole}
use Rattle.infer_order.proofs.Listing.{next_owner}
use Rattle.infer_order.proofs.Zips.{zip_length}
use Rattle.infer_order.proofs.order.owners_of.Goals as goal

pub loop-number-preserved : goal.loop-number-preserved
loop-number-preserved c =
    next_owner (map (λ g. group_view g.now) c.args.groups.now) c.args.definitions.now c.loop-number.number
    c.index-definitions-number.result
    (numbers_of c.loop-number.owners) (numbers_of c.add_definition.new.owners) (omega arith)
    c.index-definitions-number.is c.loop-number.invariant
    c.in_ok-add_definition.ensures

pub returns : goal.returns
returns c ds h y =
    c.loop-number.invariant ds h y
    ∙ ap (λ l. put_from 0 l nothing y)
    (take_whole ds c.loop-number.number
    (omega (
      arith,
      c.loop-number-test.false,
      zip_length (IsDefinition (map (λ g. group_view g.now) c.args.groups.now))
          c.args.definitions.now ds h,
    )))
