use Rattle.std.proofs.Common.{◌≡◌, ◌<◌, List, length, map, take}
use Rattle.std.specs.List.{All}
use Rattle.decl_groups.specs.Groups.{plain}
use Rattle.elm_canon.specs.Names.{Name}
use Rattle.canon_module.specs.TopUsesKept.{Numbered}
use Rattle.canon_module.specs.Items.{used_among}
use Rattle.canon_module.specs.CanonValuesKept.{item_view}
use Rattle.canon_module.proofs.uses.used_among.Given as goal

abbrev pub invariant-loop-item : goal.invariant-loop-item
invariant-loop-item l = record {
  count : length l.rows.items ≡ l.item-index;
  used : (each : List (List Name)) → Numbered l.numbers each →
      plain l.rows.items ≡ used_among l.home each (map item_view (take l.item-index l.items));
  within : (each : List (List Name)) → Numbered l.numbers each →
      All (λ row. All (λ j. j < length each) row.items) l.rows.items;
}
