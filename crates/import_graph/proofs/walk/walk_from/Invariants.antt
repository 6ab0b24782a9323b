use Rattle.std.specs.Prelude.{◌≡◌, ◌≤◌, IfSome}
use Rattle.std.specs.List.{Contains}
use Rattle.std.specs.Vec.{vec_len}
use Rattle.import_graph.specs.ModuleWalkView.{setting, source_view}
use Rattle.import_graph.specs.Walk.{walk_sources, IsWalked, IsPlainWalk}
use Rattle.import_graph.proofs.walk.walk_from.Given as goal

-- the walk after its first modules
abbrev pub invariant-loop-index : goal.invariant-loop-index
invariant-loop-index g l = record {
  walked : IfSome (g.F.Files.tree l.fn.files) (λ tree. IsWalked g.R.Reader.has_imports (setting tree l.fn.project l.fn.core.keys) (source_view l.fn.first) l.walk l.index);
  plain : IsPlainWalk l.fn.core.keys l.walk;
  first : Contains (walk_sources l.walk) (source_view l.fn.first);
  few : vec_len l.walk.modules ≤ 4096;
  tree : g.F.Files.tree l.files ≡ g.F.Files.tree l.fn.files;
  faults : g.F.Files.faults l.files ≡ g.F.Files.faults l.fn.files;
}
