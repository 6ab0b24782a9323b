use Rattle.std.proofs.Common.{◌≡◌, map, take}
use Rattle.elm_tree.specs.Turns.{tokens_view}
use Rattle.elm_tree.specs.View as tree_view
use Rattle.module_compile.specs.Parts.{interfaces_view}
use Rattle.module_compile.specs.Settings.{AreSeen}
use Rattle.module_compile.proofs.imports.Imports.seen.Given as goal

abbrev pub invariant-loop-written : goal.invariant-loop-written
invariant-loop-written l =
    AreSeen (interfaces_view l.self.interfaces) (tokens_view l.tokens)
    (map (tree_view.import_view (tokens_view l.tokens)) (take l.written-index l.imports)) l.seen.items
