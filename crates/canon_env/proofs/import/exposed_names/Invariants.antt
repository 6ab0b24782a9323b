use Rattle.std.proofs.Common.{◌≡◌, map, take}
use Rattle.elm_tree.specs.View.{exposed_view}
use Rattle.elm_tree.specs.Turns.{tokens_view}
use Rattle.canon_env.specs.Imports.{exposed_of}
use Rattle.canon_env.proofs.import.exposed_names.Given as goal

abbrev pub invariant-loop-entry : goal.invariant-loop-entry
invariant-loop-entry l =
    l.names.items ≡ map exposed_of (map (exposed_view (tokens_view l.tokens)) (take l.entry-index l.entries))
