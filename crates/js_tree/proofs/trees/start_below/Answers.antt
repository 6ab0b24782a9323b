-- The start that was kept for the node before is the start of its tree.
use Rattle.std.proofs.Common.{◌≡◌, ◌<◌, ◌-◌, suc, length, ap, ◌∙◌, arith}
use Rattle.js_tree.specs.Postorder.{below, trees_at}
use Rattle.js_tree.proofs.trees.start_below.Goals as goal

pub returns-then-place-nodes-clause-trees : goal.returns-then-place-nodes-clause-trees
returns-then-place-nodes-clause-trees c =
    let inside : c.args.place - 1 < length c.args.nodes.now = omega arith in
    let next : suc (c.args.place - 1) ≡ c.args.place = omega arith in
    (c.requires.each (c.args.place - 1) inside).trees ∙ ap (λ k. below (trees_at c.args.nodes.now k)) next

pub returns-then-place-nodes-clause-before : goal.returns-then-place-nodes-clause-before
returns-then-place-nodes-clause-before c =
    let inside : c.args.place - 1 < length c.args.nodes.now = omega arith in
    (c.requires.each (c.args.place - 1) inside).before
