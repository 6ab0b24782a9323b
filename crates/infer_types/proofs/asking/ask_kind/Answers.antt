-- The class, and then the fields: `kind_asked`, `kind_refused`.
use Rattle.elm_type.specs.View.{kind_view}
use Rattle.infer_steps.specs.View.{here, bad_view}
use Rattle.infer_types.proofs.Using.{ok_on}
use Rattle.infer_types.proofs.Kinding.{kind_asked, kind_refused}
use Rattle.infer_types.proofs.asking.ask_kind.Goals as goal

pub returns-in-Ok-clause-asks : goal.returns-in-Ok-clause-asks
returns-in-Ok-clause-asks c =
    ok_on c.lacks_each.result c.lacks_each.ensures.asks
    (λ asks. kind_asked (here c.args.state.now) (here c.in_some_class.new.state) (here c.lacks_each.new.state)
    c.args.position c.args.variable (kind_view c.args.kind.now)
    c.in-Ok.ensures.asks (rw c.deref.ensures.value at asks))

pub returns-in-Ok-clause-refuses : goal.returns-in-Ok-clause-refuses
returns-in-Ok-clause-refuses c b e =
    kind_refused (here c.args.state.now) (here c.in_some_class.new.state) (here c.lacks_each.new.state) c.args.position
    c.args.variable (kind_view c.args.kind.now)
    c.in-Ok.ensures.asks (bad_view b) (rw c.deref.ensures.value at (c.lacks_each.ensures.refuses b e))
