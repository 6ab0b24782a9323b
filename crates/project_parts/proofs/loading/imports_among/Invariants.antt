use Rattle.std.specs.Prelude.{◌≡◌, map, take}
use Rattle.import_graph.specs.ModuleWalkView.{import_view}
use Rattle.import_graph.specs.Words.{word_view}
use Rattle.project_parts.specs.Library.{import_among}
use Rattle.project_parts.proofs.loading.imports_among.Given as goal

-- the imports so far
abbrev pub invariant-loop-import : goal.invariant-loop-import
invariant-loop-import l =
    map import_view l.found.items ≡ map (import_among l.names.keys) (map word_view (take l.import-index l.import-items))
