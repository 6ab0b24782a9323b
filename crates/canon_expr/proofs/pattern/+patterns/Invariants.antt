use Rattle.std.proofs.Common.{◌≡◌, length, map, take}
use Rattle.std.specs.List.{flat_map}
use Rattle.elm_tree.specs.View as tree_view
use Rattle.elm_tree.specs.Turns.{tokens_view}
use Rattle.elm_canon.specs.View.{pattern_view}
use Rattle.canon_env.specs.Naming.{World, IsWorld}
use Rattle.canon_env.specs.Patterns.{match_sites, pattern_of}
use Rattle.canon_expr.specs.Logs.{Grows}
use Rattle.canon_expr.proofs.pattern.+patterns.Given as goal

abbrev pub invariant-patterns-loop-one : goal.invariant-patterns-loop-one
invariant-patterns-loop-one l = record {
  count : length l.meant.items ≡ l.one-index;
  meaning : (w : World) → IsWorld l.world w → map pattern_view l.meant.items
      ≡ map (pattern_of w) (map (tree_view.pattern_view (tokens_view l.tokens)) (take l.one-index l.written));
  log : (w : World) → IsWorld l.world w → Grows w l.initial.log l.log
      (flat_map match_sites (map (tree_view.pattern_view (tokens_view l.tokens)) (take l.one-index l.written)));
}
