use Rattle.elm_type.specs.Classes.{is_any}
use Rattle.infer_steps.specs.View.{bad_view}
use Rattle.std.proofs.Common.{ap, sym, subst}
use Rattle.infer_steps.specs.View.{here}
use Rattle.infer_steps.specs.Operators.{AsksClassItems}
use Rattle.infer_steps.proofs.Making.{asked_nothing, asked_items, refused_items, ok_on}
use Rattle.infer_steps.proofs.operator.in_some_class.Goals as goal

pub returns-in-Any-clause-asks : goal.returns-in-Any-clause-asks
returns-in-Any-clause-asks c =
    subst (AsksClassItems (here c.args.state.now) (here c.args.state.now) c.args.position c.args.variable) (sym c.in-Any.is)
    (asked_nothing (here c.args.state.now) c.args.position c.args.variable c.requires.whole)

pub returns-in-Number-clause-asks : goal.returns-in-Number-clause-asks
returns-in-Number-clause-asks c =
    ok_on c.in_class.result c.in_class.ensures.asks (asked_items _ _ c.args.position c.args.variable c.args.class (ap is_any c.in-Number.is))

pub returns-in-Number-clause-refuses : goal.returns-in-Number-clause-refuses
returns-in-Number-clause-refuses c b e =
    refused_items _ _ c.args.position c.args.variable c.args.class (bad_view b) (ap is_any c.in-Number.is) (c.in_class.ensures.refuses b e)

pub returns-in-Comparable-clause-asks : goal.returns-in-Comparable-clause-asks
returns-in-Comparable-clause-asks c =
    ok_on c.in_class-in-Comparable.result c.in_class-in-Comparable.ensures.asks (asked_items _ _ c.args.position c.args.variable c.args.class (ap is_any c.in-Comparable.is))

pub returns-in-Comparable-clause-refuses : goal.returns-in-Comparable-clause-refuses
returns-in-Comparable-clause-refuses c b e =
    refused_items _ _ c.args.position c.args.variable c.args.class (bad_view b) (ap is_any c.in-Comparable.is) (c.in_class-in-Comparable.ensures.refuses b e)

pub returns-in-Appendable-clause-asks : goal.returns-in-Appendable-clause-asks
returns-in-Appendable-clause-asks c =
    ok_on c.in_class-in-Appendable.result c.in_class-in-Appendable.ensures.asks (asked_items _ _ c.args.position c.args.variable c.args.class (ap is_any c.in-Appendable.is))

pub returns-in-Appendable-clause-refuses : goal.returns-in-Appendable-clause-refuses
returns-in-Appendable-clause-refuses c b e =
    refused_items _ _ c.args.position c.args.variable c.args.class (bad_view b) (ap is_any c.in-Appendable.is) (c.in_class-in-Appendable.ensures.refuses b e)

pub returns-in-CompAppend-clause-asks : goal.returns-in-CompAppend-clause-asks
returns-in-CompAppend-clause-asks c =
    ok_on c.in_class-in-CompAppend.result c.in_class-in-CompAppend.ensures.asks (asked_items _ _ c.args.position c.args.variable c.args.class (ap is_any c.in-CompAppend.is))

pub returns-in-CompAppend-clause-refuses : goal.returns-in-CompAppend-clause-refuses
returns-in-CompAppend-clause-refuses c b e =
    refused_items _ _ c.args.position c.args.variable c.args.class (bad_view b) (ap is_any c.in-CompAppend.is) (c.in_class-in-CompAppend.ensures.refuses b e)
