use Rattle.std.proofs.lemmas.Result.{err_from_is_err_and}
use Rattle.infer_steps.specs.View.{here, bad_view}
use Rattle.infer_steps.proofs.ask.lacks_each.Goals as goal
use Rattle.infer_steps.proofs.Lacking.{lacks_none, lacks_next, lacks_refused_at}

pub loop-name-init : goal.loop-name-init
loop-name-init c = lacks_none (here c.args.state.now) c.args.position c.args.variable c.requires.whole

pub loop-name-preserved : goal.loop-name-preserved
loop-name-preserved c =
    lacks_next (here c.args.state.now) (here c.loop-name.state) (here c.lacks.new.state) c.args.position c.args.variable c.args.names.now c.loop-name.name-index
    _ c.loop-name-test.true c.name-item.is c.loop-name.invariant c.in_ok-lacks.ensures.asks

pub returns-in_err-lacks-clause-refuses : goal.returns-in_err-lacks-clause-refuses
returns-in_err-lacks-clause-refuses c = λ b e. (
    let p = err_from_is_err_and c.from_residual.result c.from_residual.ensures.1 in
    lacks_refused_at (here c.args.state.now) (here c.loop-name.state) (here c.lacks.new.state) c.args.position c.args.variable c.args.names.now c.loop-name.name-index
    _ (bad_view b) c.loop-name-test.true c.name-item.is c.loop-name.invariant (c.in_err-lacks.ensures.refuses b (rw (p.1, p.2) at e)))
