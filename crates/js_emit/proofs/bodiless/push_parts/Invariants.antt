use Rattle.std.proofs.Common.{◌≡◌}
use Rattle.js_tree.specs.Postorder.{trees_of}
use Rattle.js_emit.specs.Parts.{waiting}
use Rattle.js_emit.specs.Open.{made_items}
use Rattle.js_emit.proofs.bodiless.push_parts.Given as goal

abbrev pub invariant-loop-i : goal.invariant-loop-i
invariant-loop-i l = trees_of l.trees ≡ waiting l.shape l.names (made_items l.i) (trees_of l.fn.trees)
