use Rattle.std.proofs.Common.{◌≡◌, ℕ, ◌++◌, List, Bool, length, map, take, drop}
use Rattle.std.specs.List.{range_with_len}
use Rattle.link.specs.Reached.{kept}
use Rattle.link.specs.View.{placed_view}
use Rattle.link.proofs.reaching.marked.Given as goal

abbrev pub invariant-loop-place : goal.invariant-loop-place
invariant-loop-place l =
    (test : ℕ → Bool) → l.marks ≡ map test (range_with_len 0 (length l.pieces))
    → map placed_view l.found.items ++ kept test l.place (map placed_view (drop l.place l.pieces)) ≡ kept test 0 (map
    placed_view l.pieces)
