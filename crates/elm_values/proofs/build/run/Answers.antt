-- At first no step is done (`run_end`), one more is done each time (`run_back`), and at last all are (`run_start`).
use Rattle.std.proofs.Common.{◌-◌, length, get_or, refl, sym, ap, ◌∙◌, arith}
use Rattle.parse_machine.specs.declared.table.Step.TheVariants.{Take}
use Rattle.elm_values.specs.Stack.{after_step}
use Rattle.elm_values.proofs.Looping.{run_end, run_back, run_start}
use Rattle.elm_values.proofs.build.run.Goals as goal

pub loop-left-init : goal.loop-left-init
loop-left-init c = (
  omega arith,
  λ tokens. c.no_values-stacks.ensures tokens ∙ sym (run_end tokens c.args.steps.now (length c.args.steps.now) refl),
)

pub loop-left-preserved : goal.loop-left-preserved
loop-left-preserved c = (
  omega arith,
  λ tokens.
      c.in_ok-advance.ensures tokens ∙
      (ap (after_step tokens (get_or c.args.steps.now (c.loop-left.left - 1) (Take 0))) (c.loop-left.invariant.1 tokens) ∙
      sym (run_back tokens c.args.steps.now c.loop-left.left (Take 0) c.loop-left-test.true c.loop-left.invariant.0)),
)

pub returns : goal.returns
returns c = λ tokens.
    c.loop-left.invariant.1 tokens ∙ run_start tokens c.args.steps.now c.loop-left.left c.loop-left-test.false
