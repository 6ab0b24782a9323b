-- One tree after the other is left below, and each start is the one that was kept for its node.
use Rattle.std.proofs.Common.{◌≡◌, ◌+◌, ◌-◌, suc, ap, ◌∙◌, sym, arith}
use Rattle.js_tree.specs.Postorder.{below_times, trees_at}
use Rattle.js_tree.proofs.trees.start_of.Goals as goal

pub loop-preserved : goal.loop-preserved
loop-preserved c =
    let rest = c.args.trees - (c.loop.counter + 1) in
    let more : c.args.trees - c.loop.counter ≡ suc rest = omega arith in
    let inside = c.loop.invariant.1 in
    let shorter = c.start_below-start.ensures.before in (
      ap (λ ts. below_times rest ts) c.start_below-start.ensures.trees ∙ (sym (ap (λ k. below_times k (trees_at c.args.nodes.now c.loop.start)) more) ∙ c.loop.invariant.0),
      omega arith,
    )
