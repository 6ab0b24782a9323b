use Rattle.std.proofs.Common.{length, ap}
use Rattle.elm_canon.specs.Tree.{Negate}
use Rattle.infer_steps.specs.declared.bad.InferError.TheVariants as error
use Rattle.infer_steps.specs.View.{here, bad_view}
use Rattle.infer_steps.proofs.Beginning.{negation_begun, negation_stops}
use Rattle.infer_steps.proofs.Plans.{err_is, any_count}
use Rattle.infer_steps.proofs.parts.negation.Goals as goal

pub returns-in-Ok-clause-begins : goal.returns-in-Ok-clause-begins
returns-in-Ok-clause-begins c code =
    negation_begun code (here c.args.state.now) _ c.args.position c.args.count c.args.wanted c.in_ok-part.part.items
    c.if_any.result.items c.if_any.ensures
    c.in_ok-part.ensures c.requires.wanted c.in-Ok.ensures.asks

pub returns-in-Err-clause-stops : goal.returns-in-Err-clause-stops
returns-in-Err-clause-stops c b e code =
    negation_stops code (here c.args.state.now) _ c.args.position c.args.count c.args.wanted (bad_view b)
    (c.in_class.ensures.refuses b (err_is c.in_class.result c.in-Err.error (error.Bad b) c.in-Err.is e))

pub returns-in-Ok-clause-number : goal.returns-in-Ok-clause-number
returns-in-Ok-clause-number c =
    any_count Negate c.args.count c.in_ok-part.part.items c.if_any.result.items c.if_any.ensures
    (λ m. ap length c.in_ok-part.ensures)
