-- Numbers are places: `all_within`. A ring ascends.
use Rattle.std.proofs.Common.{◌<◌, length, sym, subst}
use Rattle.std.specs.List.{All}
use Rattle.decl_groups.specs.Groups.{Ascends, plain}
use Rattle.import_graph.specs.Order.{IsRing}
use Rattle.import_graph.specs.View.{IfRing}
use Rattle.import_graph.specs.ModuleGraphView.{modules_of}
use Rattle.import_graph.proofs.Uses.{all_within}
use Rattle.import_graph.proofs.crawling.graph_of.Goals as goal

pub order-requires-clause-places : goal.order-requires-clause-places
order-requires-clause-places c =
    subst (λ rows. All (λ row. All (λ j. j < length rows) row.items) rows) (sym c.deref.ensures.value)
    (all_within c.in_ok-uses.uses.items (modules_of c.in_ok-modules.modules) c.in_ok-uses.ensures)

pub ring_fault-requires-clause-ascends : goal.ring_fault-requires-clause-ascends
ring_fault-requires-clause-ascends c =
    let h : IfRing c.in-Err-Ring.field-0 (IsRing (plain c.deref.result.now)) = c.in-Err-Ring.ensures.ring in
    let r : IsRing (plain c.deref.result.now) c.in-Err-Ring.ring.items = subst (λ e. IfRing e (IsRing (plain c.deref.result.now))) c.in-Err-Ring.field-0-is h in
    subst Ascends (sym c.deref-in-Err-Ring.ensures.value) r.is_group.ascends
