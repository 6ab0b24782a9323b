use Rattle.std.proofs.Common.{◌≡◌, map, take}
use Rattle.elm_tree.specs.View.{constructor_view}
use Rattle.elm_tree.specs.Turns.{tokens_view}
use Rattle.canon_type.specs.Unions.{alternatives_of}
use Rattle.canon_type.proofs.constructors.alternatives_of.Given as goal

abbrev pub invariant-loop-place : goal.invariant-loop-place
invariant-loop-place l =
    l.alternatives.items
    ≡ alternatives_of l.home l.union (map (constructor_view (tokens_view l.tokens)) (take l.place l.constructors))
