use Rattle.std.proofs.Common.{◌≡◌, ℕ, List, map, drop}
use Rattle.import_graph.specs.ModuleWalkView.{import_view}
use Rattle.module_made.specs.Around.{found_in}
use Rattle.module_compile.specs.Parts.{found_view}
use Rattle.module_compile.proofs.pushing.found_by.Given as goal

abbrev pub invariant-loop-k : goal.invariant-loop-k
invariant-loop-k l = (x : List ℕ) → found_view l.found x ≡ found_in (map import_view (drop l.k l.imports)) x
