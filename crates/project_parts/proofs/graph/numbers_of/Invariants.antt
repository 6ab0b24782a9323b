use Rattle.std.specs.Prelude.{◌≡◌, ℕ, List, map, drop}
use Rattle.std.specs.List.{position_from}
use Rattle.std.specs.Str.{bytes_eq}
use Rattle.project_parts.specs.Modules.{name_of}
use Rattle.project_parts.specs.View.{part_view, number_at}
use Rattle.project_parts.proofs.graph.numbers_of.Given as goal

-- the numbers of the parts from a place on
abbrev pub invariant-loop-place : goal.invariant-loop-place
invariant-loop-place l =
    (x : List ℕ) → number_at l.numbers x
    ≡ position_from (bytes_eq x) l.place (map name_of (map part_view (drop l.place l.parts)))
