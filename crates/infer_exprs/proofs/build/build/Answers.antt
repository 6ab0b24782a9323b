use Rattle.infer_steps.specs.View.{bad_view, known_view}
use Rattle.infer_steps.specs.declared.bad.InferError.TheVariants as error
use Rattle.infer_steps.proofs.Stepping.{follows_on, all_still_live}
use Rattle.infer_steps.proofs.Plans.{err_is}
use Rattle.infer_exprs.proofs.Building.{build_begun, build_stops, shape_stops}
use Rattle.infer_exprs.proofs.build.build.Goals as goal

pub returns-in-Ok-same-clause-begins : goal.returns-in-Ok-same-clause-begins
returns-in-Ok-same-clause-begins c code position known =
    build_begun (known_view c.args.known.now) code _ _ _ _ _ _ position c.args.place c.args.union.now
    c.args.alternative.now c.args.count c.args.wanted c.in_ok-parts.parts.items c.in-Ok.made.parts.items
    c.in-Ok.made.result c.in_ok-made_function.made_function c.in_ok-asked.asked known
    (record {
      opened = c.in_ok-parts.ensures.made;
      count = c.in_ok-parts.ensures.number;
      shaped = c.in-Ok.ensures.shaped;
      made = rw c.deref.ensures.value at c.in_ok-made_function.ensures;
      wants = rw c.deref-2.ensures.value at c.in_ok-asked.ensures;
    })
    c.in-Ok-same.ensures.asks

pub returns-in-Err-same-clause-stops : goal.returns-in-Err-same-clause-stops
returns-in-Err-same-clause-stops c b e code position known =
    build_stops (known_view c.args.known.now) code _ _ _ _ _ _ position c.args.place c.args.union.now
    c.args.alternative.now c.args.count c.args.wanted c.in_ok-parts.parts.items c.in-Ok.made.parts.items
    c.in-Ok.made.result c.in_ok-made_function.made_function c.in_ok-asked.asked (bad_view b) known
    (record {
      opened = c.in_ok-parts.ensures.made;
      count = c.in_ok-parts.ensures.number;
      shaped = c.in-Ok.ensures.shaped;
      made = rw c.deref.ensures.value at c.in_ok-made_function.ensures;
      wants = rw c.deref-2.ensures.value at c.in_ok-asked.ensures;
    })
    (c.same.ensures.refuses b (err_is c.same.result c.in-Err-same.error (error.Bad b) c.in-Err-same.is e))

pub returns-in-Err-clause-stops : goal.returns-in-Err-clause-stops
returns-in-Err-clause-stops c b e code position known =
    shape_stops (known_view c.args.known.now) code _ _ _ position c.args.place c.args.union.now
    c.args.alternative.now c.args.count c.args.wanted c.in_ok-parts.parts.items (bad_view b) known
    c.in_ok-parts.ensures.made c.in_ok-parts.ensures.number
    (c.infer_shape.ensures.refused b (err_is c.infer_shape.result c.in-Err.error (error.Bad b) c.in-Err.is e))

pub functions-requires-2-clause-parameters : goal.functions-requires-2-clause-parameters
functions-requires-2-clause-parameters c =
    rw c.deref-2.ensures.value
    (all_still_live _ _ c.in_ok-parts.parts.items
    (follows_on _ _ _ c.in-Ok.ensures.shaped.follows c.in_ok-made_function.ensures.follows)
    c.in_ok-parts.ensures.made.live)
