use Rattle.std.proofs.Common.{◌∙◌}
use Rattle.infer_steps.specs.View.{bad_view}
use Rattle.infer_steps.proofs.Leaves.{ok_on, number_walked, number_no_class, number_no_same}
use Rattle.infer_steps.proofs.literal.infer_number.Goals as goal

pub returns-in-Ok-clause-walked : goal.returns-in-Ok-clause-walked
returns-in-Ok-clause-walked c =
    ok_on c.same.result c.same.ensures.asks
    (number_walked _ _ c.args.position c.in_ok-variable.variable c.args.wanted c.in_ok-variable.ensures _ _ c.in-Ok.ensures.asks)

pub returns-in-Ok-clause-stopped : goal.returns-in-Ok-clause-stopped
returns-in-Ok-clause-stopped c b e =
    number_no_same _ _ c.args.position c.in_ok-variable.variable c.args.wanted c.in_ok-variable.ensures _ _ (bad_view b) c.in-Ok.ensures.asks
    (c.same.ensures.refuses b e)

pub returns-in-Err-clause-stopped : goal.returns-in-Err-clause-stopped
returns-in-Err-clause-stopped c b e =
    number_no_class _ _ c.args.position c.in_ok-variable.variable c.args.wanted c.in_ok-variable.ensures _ (bad_view b)
    (c.in_class.ensures.refuses b (c.in-Err.is ∙ e))
