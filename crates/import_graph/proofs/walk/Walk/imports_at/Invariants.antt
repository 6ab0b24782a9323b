use Rattle.std.specs.Prelude.{◌≡◌, ◌≤◌, ◌++◌, map, IfSome}
use Rattle.std.specs.List.{All}
use Rattle.std.specs.Vec.{vec_len}
use Rattle.import_graph.specs.Modules.{Source, imports_found}
use Rattle.import_graph.specs.ModuleWalkView.{setting, import_view}
use Rattle.import_graph.specs.Plain.{IsPlainImport}
use Rattle.import_graph.specs.Walk.{IsWalk, IsPlainWalk, Grows, AreImported, AreMet}
use Rattle.import_graph.proofs.Meeting.{words_done, words_left}
use Rattle.import_graph.proofs.walk.Walk.imports_at.Given as goal

-- the imports so far are those of the words so far, whose names were met
abbrev pub invariant-loop-import : goal.invariant-loop-import
invariant-loop-import g l = record {
  words : words_done l.imports.items ++ words_left l.import-iterator.rest.items ≡ words_left l.initial.import-iterator.rest.items;
  met : AreMet l.self (words_done l.imports.items);
  walk : IfSome (g.F.Files.tree l.fn.files) (λ tree. (m : Source) → IsWalk g.R.Reader.has_imports (setting tree l.fn.project l.fn.core.keys) m l.fn.self
      → AreImported g.R.Reader.has_imports (setting tree l.fn.project l.fn.core.keys) m (words_left l.initial.import-iterator.rest.items)
      → IsWalk g.R.Reader.has_imports (setting tree l.fn.project l.fn.core.keys) m l.self
      × (map import_view l.imports.items ≡ imports_found (setting tree l.fn.project l.fn.core.keys) (words_done l.imports.items)));
  plain : IsPlainWalk l.fn.core.keys l.fn.self
      → IsPlainWalk l.fn.core.keys l.self × All (IsPlainImport l.fn.core.keys) (map import_view l.imports.items);
  grows : Grows l.fn.self l.self;
  few : vec_len l.self.modules ≤ 4096;
  tree : g.F.Files.tree l.files ≡ g.F.Files.tree l.fn.files;
  faults : g.F.Files.faults l.files ≡ g.F.Files.faults l.fn.files;
}
