use Rattle.std.proofs.Common.{ℕ, [], take}
use Rattle.import_graph.specs.Fold.{values_at}
use Rattle.import_graph.proofs.folding.lay.Given as goal

abbrev pub invariant-loop-import : goal.invariant-loop-import
invariant-loop-import g l =
    (i : ℕ) → g.W.Work.holds l.work l.initial.desk i []
    → g.W.Work.holds l.work l.desk i (values_at l.values (take l.import-index l.imports))
