use Rattle.std.proofs.Common.{◌≡◌, length}
use Rattle.decl_groups.specs.Groups.{plain}
use Rattle.import_graph.specs.Fold.{AreMade}
use Rattle.import_graph.proofs.folding.fold.Given as goal

abbrev pub invariant-loop-number : goal.invariant-loop-number
invariant-loop-number g l = record {
  each : length l.values.items ≡ l.number;
  made : AreMade (g.W.Work.makes l.work) (plain l.graph) l.values.items;
}
