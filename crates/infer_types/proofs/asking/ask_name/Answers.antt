-- A variable of an annotation around, or none: `name_asked`, `name_refused`, `no_name`.
use Rattle.std.proofs.Common.{sym, ◌∙◌}
use Rattle.elm_type.specs.View.{kind_view}
use Rattle.infer_steps.specs.View.{here, bad_view, code_of}
use Rattle.infer_types.proofs.Using.{ok_on}
use Rattle.infer_types.proofs.Kinding.{no_name, name_asked, name_refused}
use Rattle.infer_types.proofs.asking.ask_name.Goals as goal

pub returns-in-None-clause-asks : goal.returns-in-None-clause-asks
returns-in-None-clause-asks c =
    no_name (code_of c.args.scope.now) c.args.position c.args.name.now (kind_view c.args.kind.now)
    (here c.args.state.now) c.requires.whole (sym c.constant.ensures ∙ c.in-None.is)

pub ask_kind-requires-clause-inside : goal.ask_kind-requires-clause-inside
ask_kind-requires-clause-inside c = (c.requires.live c.in-Some.variable (sym c.constant.ensures ∙ c.in-Some.is)).inside

pub returns-in-Some-clause-asks : goal.returns-in-Some-clause-asks
returns-in-Some-clause-asks c =
    ok_on c.ask_kind.result c.ask_kind.ensures.asks
    (name_asked (code_of c.args.scope.now) c.args.position c.args.name.now (kind_view c.args.kind.now)
    (here c.args.state.now) (here c.ask_kind.new.state) c.in-Some.variable
    (sym c.constant.ensures ∙ c.in-Some.is))

pub returns-in-Some-clause-refuses : goal.returns-in-Some-clause-refuses
returns-in-Some-clause-refuses c b e =
    name_refused (code_of c.args.scope.now) c.args.position c.args.name.now (kind_view c.args.kind.now)
    (here c.args.state.now) (here c.ask_kind.new.state) c.in-Some.variable
    (sym c.constant.ensures ∙ c.in-Some.is) (bad_view b) (c.ask_kind.ensures.refuses b e)
