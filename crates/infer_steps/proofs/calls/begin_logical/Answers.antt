use Rattle.infer_steps.specs.declared.bad.InferError.TheVariants as error
use Rattle.infer_steps.specs.View.{bad_view}
use Rattle.infer_steps.proofs.Calling.{logical_begun, logical_stops}
use Rattle.infer_steps.proofs.Plans.{err_is}
use Rattle.infer_steps.proofs.calls.begin_logical.Goals as goal

pub returns-in-Ok-clause-begins : goal.returns-in-Ok-clause-begins
returns-in-Ok-clause-begins c code =
    logical_begun code _ _ _ _ _ _ _ c.args.position c.args.wanted c.in_ok-left.left c.in_ok-right.right
    c.in_ok-choice.choice c.in_ok-operator.operator
    c.in_ok-asked.asked
    (record {
      left_opened = c.in_ok-left.ensures;
      right_opened = c.in_ok-right.ensures;
      choice_made = c.in_ok-choice.ensures;
      is_made = c.in_ok-operator.ensures;
      asked_made = c.in_ok-asked.ensures;
    })
    c.in-Ok.ensures.asks

pub returns-in-Err-clause-stops : goal.returns-in-Err-clause-stops
returns-in-Err-clause-stops c b e code =
    logical_stops code _ _ _ _ _ _ _ c.args.position c.args.wanted c.in_ok-left.left c.in_ok-right.right
    c.in_ok-choice.choice c.in_ok-operator.operator
    c.in_ok-asked.asked (bad_view b)
    (record {
      left_opened = c.in_ok-left.ensures;
      right_opened = c.in_ok-right.ensures;
      choice_made = c.in_ok-choice.ensures;
      is_made = c.in_ok-operator.ensures;
      asked_made = c.in_ok-asked.ensures;
    })
    (c.same.ensures.refuses b (err_is c.same.result c.in-Err.error (error.Bad b) c.in-Err.is e))
