use Rattle.infer_steps.specs.View.{code_of}
use Rattle.infer_steps.proofs.Scoping.{one_left}
use Rattle.infer_steps.proofs.scope.Scope.restore.Goals as goal

pub returns : goal.returns
returns c = one_left c.args.entered (code_of c.args.self.now) (code_of c.set.new.self) c.in_ok-set.ensures.scope
