-- A name of one type: `one_used`, `one_not_used`.
use Rattle.infer_steps.specs.View.{bad_view}
use Rattle.infer_types.proofs.Using.{ok_on, one_used, one_not_used}
use Rattle.infer_types.proofs.names.use_one.Goals as goal

pub returns-clause-walked : goal.returns-clause-walked
returns-clause-walked c =
    ok_on c.same.result c.same.ensures.asks (one_used _ _ c.args.position c.args.variable c.args.wanted)

pub returns-clause-stopped : goal.returns-clause-stopped
returns-clause-stopped c b e =
    one_not_used _ _ c.args.position c.args.variable c.args.wanted (bad_view b) (c.same.ensures.refuses b e)
