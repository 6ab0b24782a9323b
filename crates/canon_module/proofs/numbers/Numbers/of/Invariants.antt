use Rattle.std.proofs.Common.{map, take}
use Rattle.elm_tree.specs.View.{declaration_view}
use Rattle.elm_tree.specs.Turns.{tokens_view}
use Rattle.canon_module.specs.TopUses.{value_names_each}
use Rattle.canon_module.specs.TopUsesKept.{Numbered}
use Rattle.canon_module.proofs.numbers.Numbers.of.Given as goal

abbrev pub invariant-loop-number : goal.invariant-loop-number
invariant-loop-number l =
    Numbered l.numbers (value_names_each (map (declaration_view (tokens_view l.tokens)) (take l.number l.declarations)))
