use Rattle.std.proofs.Common.{◌≡◌, map, take}
use Rattle.std.specs.Prelude.{flat_map}
use Rattle.elm_tree.specs.View as tree_view
use Rattle.elm_tree.specs.Turns.{tokens_view}
use Rattle.elm_canon.specs.View.{declaration_view}
use Rattle.canon_module.specs.Resolve.{makers_in}
use Rattle.canon_module.proofs.makers.makers.Given as goal

abbrev pub invariant-loop-number : goal.invariant-loop-number
invariant-loop-number l =
    map declaration_view l.makers.items
    ≡ flat_map (makers_in l.home)
    (map (tree_view.declaration_view (tokens_view l.tokens)) (take l.number l.declarations))
