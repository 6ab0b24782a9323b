use Rattle.std.proofs.Common.{◌∙◌}
use Rattle.type_schemes.specs.Bases.{older_of, type_in}
use Rattle.type_schemes.proofs.Sums.{part_more}
use Rattle.type_schemes.proofs.sizes.parts_size.Goals as goal

pub loop-variable-preserved : goal.loop-variable-preserved
loop-variable-preserved c =
    c.saturating_add-sum.ensures
    ∙ part_more (type_in c.args.store.now (older_of c.args.known.now)) c.args.variables.now c.loop-variable.variable-index 0 c.loop-variable.sum c.part_size.result c.loop-variable-test.true c.loop-variable.invariant
    c.part_size.ensures
