-- A variable is made, and then its kind is asked: `made_of_kind`, `no_class`, `no_lacks`.
use Rattle.std.proofs.Common.{◌∙◌, Err, ap}
use Rattle.elm_type.specs.View.{kind_view}
use Rattle.infer_steps.specs.View.{here, bad_view}
use Rattle.infer_steps.specs.declared.bad.InferError.TheVariants as error
use Rattle.infer_types.proofs.Using.{err_same}
use Rattle.infer_types.proofs.Choosing.{made_of_kind, no_class, no_lacks}
use Rattle.infer_types.proofs.instances.of_kind.Goals as goal

pub returns-in-Err-clause-refused : goal.returns-in-Err-clause-refused
returns-in-Err-clause-refused c b e =
    no_class (here c.args.state.now) (here c.open.new.state) c.args.position (kind_view c.args.kind.now)
    c.in_ok-variable.variable c.in_ok-variable.ensures
    (here c.in_some_class.new.state) (bad_view b)
    (c.in_some_class.ensures.refuses b (c.in-Err.is ∙ ap (λ x. Err x) (err_same c.in-Err.error (error.Bad b) e)))

pub returns-in-Ok-lacks_each-clause-made : goal.returns-in-Ok-lacks_each-clause-made
returns-in-Ok-lacks_each-clause-made c =
    made_of_kind (here c.args.state.now) (here c.open.new.state) c.args.position (kind_view c.args.kind.now)
    c.in_ok-variable.variable c.in_ok-variable.ensures
    (here c.in_some_class.new.state) (here c.lacks_each.new.state) c.in-Ok.ensures.asks
    (rw c.deref.ensures.value at c.in-Ok-lacks_each.ensures.asks)

pub returns-in-Err-lacks_each-clause-refused : goal.returns-in-Err-lacks_each-clause-refused
returns-in-Err-lacks_each-clause-refused c b e =
    no_lacks (here c.args.state.now) (here c.open.new.state) c.args.position (kind_view c.args.kind.now)
    c.in_ok-variable.variable c.in_ok-variable.ensures
    (here c.in_some_class.new.state) (here c.lacks_each.new.state) (bad_view b) c.in-Ok.ensures.asks
    (rw c.deref.ensures.value at (c.lacks_each.ensures.refuses b
    (c.in-Err-lacks_each.is ∙ ap (λ x. Err x) (err_same c.in-Err-lacks_each.error (error.Bad b) e))))
