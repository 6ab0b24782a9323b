use Rattle.std.proofs.Common.{◌≡◌, ◌<◌, ℕ, ◌||◌, false, length, take}
use Rattle.std.specs.Prelude.{slice_index_or}
use Rattle.decl_groups.specs.InOrder.{is_in}
use Rattle.canon_expr.proofs.reaching.mark_each.Given as goal

abbrev pub invariant-loop-member : goal.invariant-loop-member
invariant-loop-member l = record {
  count : length l.marks.items ≡ length l.initial.marks.items;
  marks : (i : ℕ) → i < length l.initial.marks.items → slice_index_or l.marks.items i false
      ≡ (slice_index_or l.initial.marks.items i false || is_in i (take l.member-index l.members));
}
