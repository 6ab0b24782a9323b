use Rattle.infer_steps.specs.declared.bad.InferError.TheVariants as error
use Rattle.infer_steps.specs.View.{bad_view}
use Rattle.infer_steps.proofs.InferOpsReading.{update_begun, update_stops, lacks_stops}
use Rattle.infer_steps.proofs.Plans.{err_is}
use Rattle.infer_steps.proofs.fields.go_on_update.Goals as goal

pub returns-in-Ok-same-clause-begins : goal.returns-in-Ok-same-clause-begins
returns-in-Ok-same-clause-begins c code n =
    update_begun code _ _ _ _ _ _ c.args.position c.args.names.now n c.in_ok-rest.rest c.in_ok-made.made c.args.wanted
    c.in_ok-parts.parts.items
    c.in_ok-rest.ensures c.in-Ok.ensures.asks c.in_ok-parts.ensures.made c.in_ok-parts.ensures.number
    (rw c.deref.ensures.value at c.in_ok-made.ensures) c.in-Ok-same.ensures.asks

pub returns-in-Err-same-clause-stops : goal.returns-in-Err-same-clause-stops
returns-in-Err-same-clause-stops c b e code n =
    update_stops code _ _ _ _ _ _ c.args.position c.args.names.now n c.in_ok-rest.rest c.in_ok-made.made c.args.wanted
    c.in_ok-parts.parts.items (bad_view b)
    c.in_ok-rest.ensures c.in-Ok.ensures.asks c.in_ok-parts.ensures.made c.in_ok-parts.ensures.number
    (rw c.deref.ensures.value at c.in_ok-made.ensures)
    (c.same.ensures.refuses b (err_is c.same.result c.in-Err-same.error (error.Bad b) c.in-Err-same.is e))

pub returns-in-Err-clause-stops : goal.returns-in-Err-clause-stops
returns-in-Err-clause-stops c b e code n =
    lacks_stops code _ _ _ c.args.position c.args.names.now n c.in_ok-rest.rest c.args.wanted (bad_view b)
    c.in_ok-rest.ensures
    (c.lacks_each.ensures.refuses b (err_is c.lacks_each.result c.in-Err.error (error.Bad b) c.in-Err.is e))
