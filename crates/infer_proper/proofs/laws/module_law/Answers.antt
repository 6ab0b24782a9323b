use Rattle.infer_proper.proofs.Modules.{module_formed}
use Rattle.infer_proper.proofs.laws.module_law.Goals as goal

pub returns : goal.returns
returns c = λ s t m scope is around read imports none. module_formed s t m scope is around read imports none
