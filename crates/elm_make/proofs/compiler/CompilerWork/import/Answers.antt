-- One value more.
use Rattle.std.proofs.Common.{◌∙◌}
use Rattle.elm_make.proofs.compiler.CompilerWork.import.Goals as goal

pub returns : goal.returns
returns c = λ i vs h. record {
  number = c.in_ok-lay.ensures.number ∙ h.number;
  within = h.within;
  laid = λ p e. c.in_ok-lay.ensures.laid p vs (h.laid p e);
}
