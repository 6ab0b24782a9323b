use Rattle.std.proofs.Common.{◌≡◌, ◌++◌, [], drop, map, reverse}
use Rattle.type_items.specs.Annotations.{once}
use Rattle.type_schemes.specs.Kinds.{HasNames, fields_beside, pair_view}
use Rattle.type_schemes.proofs.classes.lacks.Given as goal

abbrev pub invariant-loop-pair : goal.invariant-loop-pair
invariant-loop-pair l = record {
  seen : HasNames l.seen l.lacks.items;
  lacks : l.lacks.items ++ once (fields_beside l.variable (map pair_view (drop l.pair-index l.pairs)))
      (reverse l.lacks.items)
      ≡ once (fields_beside l.variable (map pair_view l.pairs)) [];
}
