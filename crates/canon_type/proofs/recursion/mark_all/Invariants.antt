use Rattle.std.proofs.Common.{◌≡◌, ◌<◌, ℕ, ◌||◌, false, length, take}
use Rattle.std.specs.List.{slice_index_or}
use Rattle.decl_groups.specs.InOrder.{is_in}
use Rattle.canon_type.proofs.recursion.mark_all.Given as goal

abbrev pub invariant-loop-place : goal.invariant-loop-place
invariant-loop-place l = record {
  count : length l.marks.items ≡ length l.initial.marks.items;
  marks : (i : ℕ) → i < length l.initial.marks.items → slice_index_or l.marks.items i false
      ≡ (slice_index_or l.initial.marks.items i false || is_in i (take l.place-index l.places));
}
