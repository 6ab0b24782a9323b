use Rattle.std.proofs.Common.{◌≡◌, ◌<◌, ℕ, false, length, take}
use Rattle.std.specs.Prelude.{slice_index_or}
use Rattle.decl_groups.specs.View.{is_marked}
use Rattle.canon_expr.proofs.reaching.marks_in.Given as goal

abbrev pub invariant-loop-group : goal.invariant-loop-group
invariant-loop-group l = record {
  count : length l.marks.items ≡ l.count;
  marks : (i : ℕ) → i < l.count →
      slice_index_or l.marks.items i false ≡ is_marked (take l.group-index l.order.groups.items) i;
}
