-- An instance, and then its type: `each_used`, `each_not_used`, `each_refused`.
use Rattle.std.proofs.Common.{◌∙◌, Err, ap}
use Rattle.infer_steps.specs.View.{here, bad_view, declared_view}
use Rattle.infer_steps.specs.declared.bad.InferError.TheVariants as error
use Rattle.infer_types.proofs.Using.{ok_on, err_same, each_used, each_not_used, each_refused}
use Rattle.infer_types.proofs.names.use_each.Goals as goal

pub returns-in-Ok-clause-walked : goal.returns-in-Ok-clause-walked
returns-in-Ok-clause-walked c =
    ok_on c.same.result c.same.ensures.asks
    (each_used (here c.args.state.now) (here c.declared.new.state) (here c.same.new.state) c.args.position
    (declared_view c.args.declared.now) c.in-Ok.variable c.args.wanted
    c.in-Ok.ensures.made)

pub returns-in-Ok-clause-stopped : goal.returns-in-Ok-clause-stopped
returns-in-Ok-clause-stopped c b e =
    each_not_used (here c.args.state.now) (here c.declared.new.state) (here c.same.new.state) c.args.position
    (declared_view c.args.declared.now) c.in-Ok.variable c.args.wanted
    c.in-Ok.ensures.made (bad_view b) (c.same.ensures.refuses b e)

pub returns-in-Err-clause-stopped : goal.returns-in-Err-clause-stopped
returns-in-Err-clause-stopped c b e =
    each_refused (here c.args.state.now) (here c.declared.new.state) c.args.position (declared_view c.args.declared.now)
    c.args.wanted (bad_view b)
    (c.declared.ensures.refused b (c.in-Err.is ∙ ap (λ x. Err x) (err_same c.in-Err.error (error.Bad b) e)))
