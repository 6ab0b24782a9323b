-- A text with its names: `bound_text`, `unbound_text`.
use Rattle.std.proofs.Common.{ap, sym, ◌∙◌}
use Rattle.js_tree.specs.Postorder.{trees_of, top}
use Rattle.js_scope.proofs.Whole.{bound_text, unbound_text}
use Rattle.js_scope.proofs.read.Goals as goal

pub returns-then-branch-clause-read : goal.returns-then-branch-clause-read
returns-then-branch-clause-read c =
    bound_text (top (trees_of c.in_ok-trees.trees)) c.args.bytes.now c.in_ok-trees.ensures.read (sym c.in_ok-is_bound.ensures ∙ c.if-branch.true)

pub returns-clause-refused : goal.returns-clause-refused
returns-clause-refused c =
    unbound_text (top (trees_of c.in_ok-trees.trees)) c.args.bytes.now c.place_after.result c.in_ok-trees.ensures.read (sym c.in_ok-is_bound.ensures ∙ c.if-branch.false) c.place_after.ensures
