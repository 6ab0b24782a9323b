use Rattle.infer_exprs.proofs.Around.{value_law}
use Rattle.infer_exprs.proofs.infer_lets_laws.value_law.Goals as goal

pub returns : goal.returns
returns c code inner p e i v names old now new bad begun stuck =
    value_law code inner p e i v names old now new bad begun stuck
