use Rattle.infer_steps.specs.declared.bad.InferError.TheVariants as error
use Rattle.infer_steps.specs.View.{bad_view}
use Rattle.infer_steps.proofs.InferOpsReading.{access_begun, access_stops}
use Rattle.infer_steps.proofs.Plans.{err_is}
use Rattle.infer_steps.proofs.fields.begin_access.Goals as goal

pub returns-clause-begins : goal.returns-clause-begins
returns-clause-begins c code v =
    access_begun code _ _ _ _ _ c.args.position c.args.name.now c.in_ok-rest.rest c.in_ok-field.field
    c.in_ok-owner.owner v c.in_ok-rest.ensures c.in-Ok.ensures.asks
    c.in_ok-field.ensures (rw (c.deref.ensures.value, c.in_ok-names.ensures) at c.in_ok-owner.ensures)

pub returns-in-Err-clause-stops : goal.returns-in-Err-clause-stops
returns-in-Err-clause-stops c b e code v =
    access_stops code _ _ _ c.args.position c.args.name.now c.in_ok-rest.rest v (bad_view b) c.in_ok-rest.ensures
    (c.lacks.ensures.refuses b (err_is c.lacks.result c.in-Err.error (error.Bad b) c.in-Err.is e))
