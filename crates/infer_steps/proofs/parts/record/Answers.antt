use Rattle.std.proofs.Common.{ap, ◌∙◌}
use Rattle.elm_canon.specs.Tree.{RecordOf}
use Rattle.infer_steps.specs.declared.bad.InferError.TheVariants as error
use Rattle.infer_steps.specs.View.{bad_view}
use Rattle.infer_steps.specs.Operations.{some_count}
use Rattle.infer_steps.proofs.Beginning.{record_begun, record_stops}
use Rattle.infer_steps.proofs.Plans.{err_is, any_count, lacks_closed}
use Rattle.infer_steps.proofs.parts.record.Goals as goal

pub returns-clause-begins : goal.returns-clause-begins
returns-clause-begins c code =
    record_begun code _ _ _ _ _ c.args.position c.args.names.now c.args.count c.args.wanted c.in_ok-parts.parts.items
    c.in_ok-all.all.items c.if_any.result.items
    c.in_ok-made.made c.if_any.ensures c.in_ok-parts.ensures.made c.in_ok-parts.ensures.number
    (rw c.deref.ensures.value at c.in_ok-made.ensures) c.in-Ok.ensures.asks c.in_ok-all.ensures.fills

pub returns-in-Err-clause-stops : goal.returns-in-Err-clause-stops
returns-in-Err-clause-stops c b e code =
    record_stops code _ _ _ _ c.args.position c.args.names.now c.args.count c.args.wanted c.in_ok-parts.parts.items
    c.in_ok-made.made (bad_view b)
    c.in_ok-parts.ensures.made c.in_ok-parts.ensures.number (rw c.deref.ensures.value at c.in_ok-made.ensures)
    (c.same.ensures.refuses b (err_is c.same.result c.in-Err.error (error.Bad b) c.in-Err.is e))

pub returns-clause-number : goal.returns-clause-number
returns-clause-number c =
    any_count (RecordOf c.args.names.now) c.args.count c.in_ok-all.all.items c.if_any.result.items c.if_any.ensures
    (λ m. c.in_ok-all.ensures.number ∙ ap some_count c.in_ok-parts.ensures.number)

pub record-requires-clause-lacking : goal.record-requires-clause-lacking
record-requires-clause-lacking c = lacks_closed _ c.args.names.now
