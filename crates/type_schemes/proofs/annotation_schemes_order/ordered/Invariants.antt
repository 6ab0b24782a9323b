use Rattle.std.proofs.Common.{◌≡◌, ◌++◌, [], drop, reverse}
use Rattle.type_items.specs.Annotations.{once}
use Rattle.type_schemes.specs.Names.{IsTable}
use Rattle.type_schemes.proofs.annotation_schemes_order.ordered.Given as goal

abbrev pub invariant-loop-name : goal.invariant-loop-name
invariant-loop-name l = record {
  table : IsTable l.order.numbers l.order.names.items;
  names : l.order.names.items ++ once (drop l.name-index l.names) (reverse l.order.names.items) ≡ once l.names [];
}
