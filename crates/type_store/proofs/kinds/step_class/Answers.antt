use Rattle.std.proofs.Common.{◌∙◌, sym}
use Rattle.type_store.specs.View.{store_view, work_view}
use Rattle.type_store.proofs.AtSlots.{at_class_there, at_no_class, at_class_clash, at_class_step}
use Rattle.type_store.proofs.kinds.step_class.Goals as goal

pub returns-then-is_below-clause-yes : goal.returns-then-is_below-clause-yes
returns-then-is_below-clause-yes c done =
    at_class_there c.args.slots.now c.args.variable c.index-slots-variable.result c.requires.inside c.requires.graph c.args.class (work_view c.args.work.now.items) (sym c.is_below.ensures ∙ c.if-is_below.true)

pub returns-in-None-clause-no : goal.returns-in-None-clause-no
returns-in-None-clause-no c done =
    at_no_class c.args.slots.now c.args.variable c.index-slots-variable.result c.requires.inside c.requires.graph c.args.class (sym c.meet.ensures ∙ c.in-None.is)

pub returns-then-not-branch-clause-no : goal.returns-then-not-branch-clause-no
returns-then-not-branch-clause-no c done =
    at_class_clash c.args.slots.now c.args.variable c.index-slots-variable.result c.requires.inside c.requires.graph c.args.class c.in_ok-ask_class.field-0 (work_view c.args.work.now.items) (work_view c.ask_class.new.work.items)
    c.in_ok-ask_class.ensures c.if-not-branch.true

pub returns-clause-yes : goal.returns-clause-yes
returns-clause-yes c done =
    at_class_step c.args.slots.now c.args.variable c.index-slots-variable.result c.requires.inside c.requires.graph c.args.class c.in-Some.both c.in_ok-ask_class.field-0 (work_view c.args.work.now.items) (work_view c.ask_class.new.work.items)
    (store_view c.write_class.new.slots) (sym c.meet.ensures ∙ c.in-Some.is) c.in_ok-ask_class.ensures c.if-not-branch.false c.in_ok-write_class.ensures.written
