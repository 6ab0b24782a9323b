-- The filter lets through what is exposed.
use Rattle.std.proofs.lemmas.Result.{IfOk-weaker}
use Rattle.canon_module.proofs.shown.shown_by.Goals as goal

pub returns : goal.returns
returns c = IfOk-weaker c.passed.result _ _ (λ s told. told _ c.in_ok-passing.ensures) c.passed.ensures
