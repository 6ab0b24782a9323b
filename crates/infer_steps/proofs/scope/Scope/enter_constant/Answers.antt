-- What the variable stood for before it can stand for again: `constant_entered`.
use Rattle.infer_steps.specs.View.{code_of}
use Rattle.infer_steps.proofs.Scoping.{constant_entered}
use Rattle.infer_steps.proofs.scope.Scope.enter_constant.Goals as goal

pub returns-clause-entered : goal.returns-clause-entered
returns-clause-entered c =
    constant_entered (code_of c.args.self.now) (code_of c.set_constant.new.self) (record { name = c.in_ok-copy.copy; outer = c.in_ok-outer.outer })
    c.args.name.now c.args.variable c.in_ok-copy.ensures.cases c.in_ok-outer.ensures.outer c.in_ok-outer.ensures.scope
