use Rattle.std.specs.List.{each_same}
use Rattle.infer_steps.specs.declared.bad.InferError.TheVariants as error
use Rattle.infer_steps.specs.View.{bad_view}
use Rattle.infer_steps.proofs.Beginning.{tuple_begun, tuple_stops}
use Rattle.infer_steps.proofs.Plans.{err_is, tuple_count}
use Rattle.infer_steps.proofs.parts.tuple.Goals as goal

pub returns-in-Ok-clause-begins : goal.returns-in-Ok-clause-begins
returns-in-Ok-clause-begins c code =
    tuple_begun code _ _ _ _ c.args.position c.args.count c.args.wanted c.in_ok-parts.parts.items c.in_ok-made.made
    c.in_ok-parts.ensures.made
    c.in_ok-parts.ensures.number (rw (each_same c.in_ok-parts.parts.items c.in_ok-copy.copy.items
    c.in_ok-copy.ensures.cases.0) at c.in_ok-made.ensures) c.in-Ok.ensures.asks

pub returns-in-Err-clause-stops : goal.returns-in-Err-clause-stops
returns-in-Err-clause-stops c b e code =
    tuple_stops code _ _ _ _ c.args.position c.args.count c.args.wanted c.in_ok-parts.parts.items c.in_ok-made.made
    (bad_view b) c.in_ok-parts.ensures.made
    c.in_ok-parts.ensures.number (rw (each_same c.in_ok-parts.parts.items c.in_ok-copy.copy.items
    c.in_ok-copy.ensures.cases.0) at c.in_ok-made.ensures) (c.same.ensures.refuses b
    (err_is c.same.result c.in-Err.error (error.Bad b) c.in-Err.is e))

pub returns-in-Ok-clause-number : goal.returns-in-Ok-clause-number
returns-in-Ok-clause-number c = tuple_count c.args.count _ c.in_ok-parts.ensures.number
