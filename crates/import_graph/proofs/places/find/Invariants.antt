use Rattle.std.proofs.Common.{◌≡◌}
use Rattle.std.specs.Prelude.{IfSome}
use Rattle.import_graph.specs.Places.{Fits, text_view}
use Rattle.import_graph.proofs.Finding.{IsSoFar}
use Rattle.import_graph.proofs.places.find.Given as goal

-- the files are as at the beginning, and what was found is what the directories so far have
abbrev pub invariant-loop-directory : goal.invariant-loop-directory
invariant-loop-directory g l = record {
  so_far : IfSome (g.F.Files.tree l.fn.files) (λ tree. IsSoFar tree l.directories l.name l.directory-index l.found);
  fits : IfSome l.found (λ s. Fits (text_view s));
  tree : g.F.Files.tree l.files ≡ g.F.Files.tree l.fn.files;
  faults : g.F.Files.faults l.files ≡ g.F.Files.faults l.fn.files;
}
