-- A name in scope, or one that is declared elsewhere: `name_walked`, `name_stopped`, `elsewhere_walked`,
-- `elsewhere_stopped`.
use Rattle.std.proofs.Common.{sym, subst}
use Rattle.infer_steps.specs.Ready.{AreWritten}
use Rattle.infer_steps.specs.View.{here, bad_view, meaning_view, code_of}
use Rattle.infer_types.proofs.Using.{ok_on, found_meaning, found_none, name_walked, name_stopped, elsewhere_walked}
use Rattle.infer_types.proofs.Using.{elsewhere_stopped}
use Rattle.infer_types.proofs.names.infer_name.Goals as goal

pub use_meaning-requires-clause-ready : goal.use_meaning-requires-clause-ready
use_meaning-requires-clause-ready c =
    c.requires.ready.names c.args.name.now (meaning_view c.in-Some.meaning.now)
    (found_meaning c.in_ok-found.found c.in-Some.meaning ((code_of c.args.scope.now).names c.args.name.now) c.in-Some.is
    c.in_ok-found.ensures)

pub use_elsewhere-requires-clause-known : goal.use_elsewhere-requires-clause-known
use_elsewhere-requires-clause-known c = subst AreWritten (sym c.known.ensures) c.requires.ready.known

pub returns-in-Some-clause-follows : goal.returns-in-Some-clause-follows
returns-in-Some-clause-follows c = ok_on c.use_meaning.result c.use_meaning.ensures.walked (λ u. u.follows)

pub returns-in-Some-clause-walked : goal.returns-in-Some-clause-walked
returns-in-Some-clause-walked c =
    ok_on c.use_meaning.result c.use_meaning.ensures.walked
    (name_walked (code_of c.args.scope.now) c.args.name.now c.args.position c.args.wanted (here c.args.state.now)
    (here c.use_meaning.new.state) (meaning_view c.in-Some.meaning.now)
    (found_meaning c.in_ok-found.found c.in-Some.meaning ((code_of c.args.scope.now).names c.args.name.now) c.in-Some.is
    c.in_ok-found.ensures))

pub returns-in-Some-clause-stopped : goal.returns-in-Some-clause-stopped
returns-in-Some-clause-stopped c b e =
    name_stopped (code_of c.args.scope.now) c.args.name.now c.args.position c.args.wanted (here c.args.state.now)
    (here c.use_meaning.new.state) (meaning_view c.in-Some.meaning.now)
    (found_meaning c.in_ok-found.found c.in-Some.meaning ((code_of c.args.scope.now).names c.args.name.now) c.in-Some.is
    c.in_ok-found.ensures) (bad_view b)
    (c.use_meaning.ensures.stopped b e)

pub returns-in-None-clause-follows : goal.returns-in-None-clause-follows
returns-in-None-clause-follows c = ok_on c.use_elsewhere.result c.use_elsewhere.ensures.walked (λ u. u.follows)

pub returns-in-None-clause-walked : goal.returns-in-None-clause-walked
returns-in-None-clause-walked c =
    ok_on c.use_elsewhere.result c.use_elsewhere.ensures.walked
    (elsewhere_walked (code_of c.args.scope.now) c.args.name.now c.args.position c.args.wanted (here c.args.state.now)
    (here c.use_elsewhere.new.state) _ c.known.ensures
    (found_none c.in_ok-found.found ((code_of c.args.scope.now).names c.args.name.now) c.in-None.is
    c.in_ok-found.ensures))

pub returns-in-None-clause-stopped : goal.returns-in-None-clause-stopped
returns-in-None-clause-stopped c b e =
    elsewhere_stopped (code_of c.args.scope.now) c.args.name.now c.args.position c.args.wanted (here c.args.state.now)
    (here c.use_elsewhere.new.state) _ c.known.ensures
    (found_none c.in_ok-found.found ((code_of c.args.scope.now).names c.args.name.now) c.in-None.is
    c.in_ok-found.ensures) (bad_view b) (c.use_elsewhere.ensures.stopped b e)
