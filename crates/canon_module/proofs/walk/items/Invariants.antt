use Rattle.std.proofs.Common.{◌≡◌, ◌++◌, None, length, map, take, drop}
use Rattle.std.specs.Prelude.{option_map}
use Rattle.std.specs.List.{flat_map}
use Rattle.elm_tree.specs.View.{declaration_view}
use Rattle.elm_tree.specs.Turns.{tokens_view}
use Rattle.elm_canon.specs.View.{annotation_view}
use Rattle.canon_env.specs.Naming.{World, IsWorld}
use Rattle.canon_module.specs.Items.{items_of}
use Rattle.canon_module.specs.CanonValuesFaults.{declaration_faults}
use Rattle.canon_module.specs.CanonValuesKept.{item_view}
use Rattle.canon_module.proofs.walk.items.Given as goal

-- what the declarations so far mean, and the rest after the annotation that stands before them
abbrev pub invariant-loop-number : goal.invariant-loop-number
invariant-loop-number l = record {
  count : length l.items.items ≡ l.number;
  meaning : (w : World) → IsWorld l.world w → w.name ≡ l.home →
      map item_view l.items.items ++ items_of w (option_map annotation_view l.before)
      (map (declaration_view (tokens_view l.tokens)) (drop l.number l.declarations))
      ≡ items_of w None (map (declaration_view (tokens_view l.tokens)) l.declarations);
  faults : (w : World) → IsWorld l.world w → l.log.findings.items ≡ l.initial.log.findings.items
      ++ flat_map (declaration_faults w)
      (map (declaration_view (tokens_view l.tokens)) (take l.number l.declarations));
}
