use Rattle.infer_steps.specs.View.{here}
use Rattle.infer_steps.proofs.make.functions.Goals as goal
use Rattle.infer_steps.proofs.Stepping.{functions_begin, functions_next}

pub loop-i-init : goal.loop-i-init
loop-i-init c = functions_begin (here c.args.state.now) c.args.parameters.now c.args.value c.requires.whole c.requires.value

pub loop-i-preserved : goal.loop-i-preserved
loop-i-preserved c =
    functions_next _ _ _ c.args.parameters.now c.loop-i.i c.loop-i.made c.in_ok-made.made c.args.value c.loop-i-test.true c.loop-i.invariant
    c.in_ok-made.ensures
