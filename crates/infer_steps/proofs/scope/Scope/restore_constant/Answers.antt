use Rattle.infer_steps.specs.View.{code_of}
use Rattle.infer_steps.proofs.Scoping.{constant_left}
use Rattle.infer_steps.proofs.scope.Scope.restore_constant.Goals as goal

pub returns : goal.returns
returns c = constant_left c.args.entered (code_of c.args.self.now) (code_of c.set_constant.new.self) c.in_ok-set_constant.ensures.scope
