use Rattle.std.proofs.Common.{◌∙◌, sym, ap}
use Rattle.elm_type.specs.Ground.{contains}
use Rattle.type_store.specs.View.{store_view, work_view}
use Rattle.type_store.proofs.AtSlots.{at_lack_there, at_lack_clash, at_lack_step}
use Rattle.type_store.proofs.kinds.step_lacks.Goals as goal

pub returns-in-There-clause-yes : goal.returns-in-There-clause-yes
returns-in-There-clause-yes c done =
    at_lack_there c.args.slots.now c.args.variable c.index-slots-variable.result c.requires.inside c.requires.graph c.args.name (work_view c.args.work.now.items)
    (ap (contains c.args.name) (sym c.deref.ensures.value) ∙ c.in_ok-found.ensures c.in-There.is)

pub returns-then-not-branch-clause-no : goal.returns-then-not-branch-clause-no
returns-then-not-branch-clause-no c done =
    at_lack_clash c.args.slots.now c.args.variable c.index-slots-variable.result c.requires.inside c.requires.graph c.args.name c.in_ok-ask_lack.field-0 (work_view c.args.work.now.items) (work_view c.ask_lack.new.work.items)
    c.in_ok-ask_lack.ensures c.if-not-branch.true

pub returns-clause-yes : goal.returns-clause-yes
returns-clause-yes c done =
    at_lack_step c.args.slots.now c.args.variable c.index-slots-variable.result c.requires.inside c.requires.graph c.args.name c.in_ok-ask_lack.field-0 (work_view c.args.work.now.items) (work_view c.ask_lack.new.work.items)
    (store_view c.write_lack.new.slots) c.in_ok-ask_lack.ensures c.if-not-branch.false c.in_ok-write_lack.ensures.written
