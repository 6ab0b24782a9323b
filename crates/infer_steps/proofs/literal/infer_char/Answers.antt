use Rattle.elm_type.specs.Types.{char_type}
use Rattle.infer_steps.specs.View.{bad_view}
use Rattle.infer_steps.proofs.Leaves.{ok_on, type_walked, type_stopped}
use Rattle.infer_steps.proofs.literal.infer_char.Goals as goal

pub returns-clause-walked : goal.returns-clause-walked
returns-clause-walked c =
    ok_on c.same.result c.same.ensures.asks (type_walked _ _ _ c.args.position char_type c.in_ok-variable.variable c.args.wanted c.in_ok-variable.ensures)

pub returns-clause-stopped : goal.returns-clause-stopped
returns-clause-stopped c b e =
    type_stopped _ _ _ c.args.position char_type c.in_ok-variable.variable c.args.wanted c.in_ok-variable.ensures (bad_view b) (c.same.ensures.refuses b e)
