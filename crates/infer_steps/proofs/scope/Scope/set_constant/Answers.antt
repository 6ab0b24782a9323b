-- One variable is set: `constant_set`.
use Rattle.std.proofs.Common.{refl}
use Rattle.std.proofs.lemmas.Result.{on_ok_weaker}
use Rattle.infer_steps.specs.View.{constants_of}
use Rattle.infer_steps.proofs.Scoping.{constant_set}
use Rattle.infer_steps.proofs.scope.Scope.set_constant.Goals as goal

pub returns-clause-scope : goal.returns-clause-scope
returns-clause-scope c =
    let old = c.args.self.now in
    on_ok_weaker c.exchange.result
    (λ h. constant_set old (record old { constants = c.exchange.new.names }) c.args.name.now c.args.name.now
    c.args.variable refl h refl refl refl) c.exchange.ensures.put

pub returns-clause-outer : goal.returns-clause-outer
unfolding constants_of
returns-clause-outer c = c.exchange.ensures.outer
