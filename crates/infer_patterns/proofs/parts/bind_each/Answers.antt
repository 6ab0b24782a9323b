-- One more of them: `bound_next`.
use Rattle.std.proofs.Common.{sym, ◌∙◌, arith, drop}
use Rattle.infer_patterns.specs.View.{in_scope}
use Rattle.infer_patterns.proofs.Leaves.{bound_next, bound_end}
use Rattle.infer_patterns.proofs.parts.bind_each.Goals as goal

pub loop-i-preserved : goal.loop-i-preserved
loop-i-preserved c =
    bound_next c.args.names.now c.args.variables.now c.loop-i.i c.index-names-i.result (in_scope c.loop-i.bound.items)
    (in_scope c.bind.new.bound.items) c.loop-i-test.true (omega (arith, c.loop-i-test.true, c.requires))
    c.index-names-i.is
    c.in_ok-bind.ensures
    ∙ c.loop-i.invariant

pub returns : goal.returns
returns c =
    sym (bound_end c.args.names.now (drop c.loop-i.i c.args.variables.now) c.loop-i.i (in_scope c.loop-i.bound.items)
    (omega (arith, c.loop-i-test.false)))
    ∙ c.loop-i.invariant
