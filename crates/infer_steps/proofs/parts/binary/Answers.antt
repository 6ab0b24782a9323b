use Rattle.elm_canon.specs.Tree.{Binary}
use Rattle.infer_steps.specs.declared.bad.InferError.TheVariants as error
use Rattle.infer_steps.specs.View.{bad_view}
use Rattle.infer_steps.proofs.Stepping.{follows_on, all_still_live}
use Rattle.infer_steps.proofs.Beginning.{binary_begun, binary_stops, class_stops}
use Rattle.infer_steps.proofs.Plans.{err_is, any_count}
use Rattle.infer_steps.proofs.parts.binary.Goals as goal

pub returns-in-Ok-same-clause-begins : goal.returns-in-Ok-same-clause-begins
returns-in-Ok-same-clause-begins c code position =
    binary_begun code _ _ _ _ _ _ _ position c.args.place c.args.operator c.args.count c.args.wanted
    c.in_ok-parts.parts.items c.if_any.result.items
    c.in_ok-operand.operand c.in_ok-made.made c.in_ok-asked.asked c.if_any.ensures
    (record {
      opened = c.in_ok-parts.ensures.made;
      count = c.in_ok-parts.ensures.number;
      operand = c.in_ok-operand.ensures;
      class = c.in-Ok.ensures.asks;
      made = c.in_ok-made.ensures;
      wants = rw c.deref.ensures.value at c.in_ok-asked.ensures;
    })
    c.in-Ok-same.ensures.asks

pub returns-in-Err-same-clause-stops : goal.returns-in-Err-same-clause-stops
returns-in-Err-same-clause-stops c b e code position =
    binary_stops code _ _ _ _ _ _ _ position c.args.place c.args.operator c.args.count c.args.wanted
    c.in_ok-parts.parts.items c.in_ok-operand.operand
    c.in_ok-made.made c.in_ok-asked.asked (bad_view b)
    (record {
      opened = c.in_ok-parts.ensures.made;
      count = c.in_ok-parts.ensures.number;
      operand = c.in_ok-operand.ensures;
      class = c.in-Ok.ensures.asks;
      made = c.in_ok-made.ensures;
      wants = rw c.deref.ensures.value at c.in_ok-asked.ensures;
    })
    (c.same.ensures.refuses b (err_is c.same.result c.in-Err-same.error (error.Bad b) c.in-Err-same.is e))

pub returns-in-Err-clause-stops : goal.returns-in-Err-clause-stops
returns-in-Err-clause-stops c b e code position =
    class_stops code _ _ _ _ position c.args.place c.args.operator c.args.count c.args.wanted c.in_ok-parts.parts.items
    c.in_ok-operand.operand (bad_view b)
    c.in_ok-parts.ensures.made c.in_ok-parts.ensures.number c.in_ok-operand.ensures
    (c.in_operator_class.ensures.refuses b (err_is c.in_operator_class.result c.in-Err.error (error.Bad b) c.in-Err.is
    e))

pub returns-in-Ok-same-clause-number : goal.returns-in-Ok-same-clause-number
returns-in-Ok-same-clause-number c =
    any_count (Binary c.args.place c.args.operator) c.args.count c.in_ok-parts.parts.items c.if_any.result.items
    c.if_any.ensures
    (λ m. c.in_ok-parts.ensures.number)

pub functions-requires-clause-parameters : goal.functions-requires-clause-parameters
functions-requires-clause-parameters c =
    rw c.deref.ensures.value
    (all_still_live _ _ c.in_ok-parts.parts.items
    (follows_on _ _ _ c.in_ok-operand.ensures.follows (follows_on _ _ _ c.in-Ok.ensures.asks.follows
    c.in_ok-made.ensures.follows))
    c.in_ok-parts.ensures.made.live)
