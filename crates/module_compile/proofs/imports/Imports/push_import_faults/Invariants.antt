use Rattle.std.proofs.Common.{◌≡◌, ◌++◌, map, take}
use Rattle.std.specs.Prelude.{flat_map}
use Rattle.elm_tree.specs.Turns.{tokens_view}
use Rattle.elm_tree.specs.View as tree_view
use Rattle.module_made.specs.Around.{import_faults}
use Rattle.module_compile.specs.Parts.{found_view}
use Rattle.module_compile.proofs.imports.Imports.push_import_faults.Given as goal

abbrev pub invariant-loop-import : goal.invariant-loop-import
invariant-loop-import l =
    l.findings.items
    ≡ l.initial.findings.items
    ++ flat_map (import_faults (found_view l.self.found))
    (map (tree_view.import_view (tokens_view l.tokens)) (take l.import-index l.imports))
