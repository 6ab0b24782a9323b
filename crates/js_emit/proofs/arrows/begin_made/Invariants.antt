use Rattle.std.proofs.Common.{◌≡◌}
use Rattle.js_tree.specs.Postorder.{trees_of}
use Rattle.js_emit.specs.Open.{opens}
use Rattle.js_emit.proofs.arrows.begin_made.Given as goal

abbrev pub invariant-loop : goal.invariant-loop
invariant-loop l = trees_of l.trees ≡ opens l.counter (trees_of l.fn.trees)
