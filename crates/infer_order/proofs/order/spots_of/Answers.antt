use Rattle.std.proofs.Common.{◌++◌, map, take, sym, ap, ◌∙◌, arith}
use Rattle.std.proofs.lemmas.List.{length-map}
use Rattle.elm_canon.specs.View.{group_view}
use Rattle.type_items.specs.Expressions.{group_definitions}
use Rattle.infer_order.specs.Order.{all_spots, spots_from}
use Rattle.infer_order.proofs.Owning.{map_next}
use Rattle.infer_order.proofs.Placing.{all_more, taken, take_whole, take_nothing}
use Rattle.infer_order.proofs.order.spots_of.Goals as goal

pub loop-number-init : goal.loop-number-init
loop-number-init c =
    c.new-spots.ensures.items ∙ ap (λ l. all_spots 0 (map (λ g. group_view g.now) l))
    (sym (take_nothing c.args.groups.now))

pub loop-number-preserved : goal.loop-number-preserved
loop-number-preserved c =
    let i = c.loop-number.number in
    let x = c.index-groups-number.result in
    let first = map (λ g. group_view g.now) (take i c.args.groups.now) in
    c.in_ok-push_spots.ensures
    ∙ ap (λ l. l ++ spots_from i 0 (group_definitions (group_view x.now))) c.loop-number.invariant
    ∙ sym (all_more 0 i first (group_view x.now)
    (omega (
      arith,
      length-map (take i c.args.groups.now) (λ g. group_view g.now),
      taken i c.args.groups.now
          (omega arith),
    )))
    ∙ ap (all_spots 0) (sym (map_next (λ g. group_view g.now) c.args.groups.now i x (omega arith)
    c.index-groups-number.is))

pub returns : goal.returns
returns c =
    c.loop-number.invariant
    ∙ ap (λ l. all_spots 0 (map (λ g. group_view g.now) l))
    (take_whole c.args.groups.now c.loop-number.number c.loop-number-test.false)
