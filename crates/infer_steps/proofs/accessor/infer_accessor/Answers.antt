use Rattle.std.proofs.Common.{◌∙◌}
use Rattle.infer_steps.specs.View.{bad_view}
use Rattle.infer_steps.proofs.Leaves.{ok_on}
use Rattle.infer_steps.proofs.Reading.{no_lack, reader_walked, reader_no_same}
use Rattle.infer_steps.proofs.accessor.infer_accessor.Goals as goal

pub returns-clause-walked : goal.returns-clause-walked
returns-clause-walked c =
    ok_on c.same.result c.same.ensures.asks
    (reader_walked _ _ c.args.position c.args.name.now c.in_ok-rest.rest c.args.wanted c.in_ok-rest.ensures _ _ _ c.in_ok-field.field c.in_ok-variable.variable
    c.in-Ok.ensures.asks c.in_ok-field.ensures c.in_ok-variable.ensures _)

pub returns-clause-stopped : goal.returns-clause-stopped
returns-clause-stopped c b e =
    reader_no_same _ _ c.args.position c.args.name.now c.in_ok-rest.rest c.args.wanted c.in_ok-rest.ensures _ _ _ c.in_ok-field.field c.in_ok-variable.variable
    c.in-Ok.ensures.asks c.in_ok-field.ensures c.in_ok-variable.ensures _ (bad_view b) (c.same.ensures.refuses b e)

pub returns-in-Err-clause-stopped : goal.returns-in-Err-clause-stopped
returns-in-Err-clause-stopped c b e =
    no_lack _ _ c.args.position c.args.name.now c.in_ok-rest.rest c.args.wanted c.in_ok-rest.ensures _ (bad_view b)
    (c.lacks.ensures.refuses b (c.in-Err.is ∙ e))
