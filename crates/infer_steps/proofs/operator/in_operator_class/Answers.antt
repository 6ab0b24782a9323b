use Rattle.std.proofs.Common.{OnOk, subst}
use Rattle.elm_type.specs.declared.class.Class.{Class}
use Rattle.infer_steps.specs.View.{here, bad_view}
use Rattle.infer_steps.specs.Operators.{AsksClassItems, RefusesClassItems}
use Rattle.infer_steps.proofs.operator.in_operator_class.Goals as goal

pub returns-clause-asks : goal.returns-clause-asks
returns-clause-asks c =
    subst (λ (k : Class). OnOk c.in_some_class.result (AsksClassItems (here c.args.state.now) (here c.in_some_class.new.state) c.args.position c.args.variable k))
    c.class_of.ensures c.in_some_class.ensures.asks

pub returns-clause-refuses : goal.returns-clause-refuses
returns-clause-refuses c b e =
    subst (λ (k : Class). RefusesClassItems (here c.args.state.now) (here c.in_some_class.new.state) c.args.position c.args.variable k (bad_view b))
    c.class_of.ensures (c.in_some_class.ensures.refuses b e)
