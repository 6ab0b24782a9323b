-- A copy, and then its type: `many_used`, `many_not_used`.
use Rattle.std.proofs.Common.{refl}
use Rattle.infer_steps.specs.Codes.{State}
use Rattle.infer_steps.specs.View.{here, bad_view}
use Rattle.type_schemes.specs.View.{frozen_view}
use Rattle.infer_types.proofs.Using.{ok_on, copied_follows, many_used, many_not_used}
use Rattle.infer_types.proofs.names.use_many.Goals as goal

pub returns-clause-walked : goal.returns-clause-walked
returns-clause-walked c =
    (let old = here c.args.state.now in
    let u : State = record { store = c.instantiate.new.store; depth = old.depth; place = old.place } in
    let frozen = frozen_view c.args.frozen.now in
    let follows = copied_follows old u frozen c.in_ok-variable.variable refl refl c.in_ok-variable.ensures.whole
    c.in_ok-variable.ensures.made in
    ok_on c.same.result c.same.ensures.asks
    (many_used old u (here c.same.new.state) c.args.position frozen c.in_ok-variable.variable c.args.wanted follows
    c.in_ok-variable.ensures.made))

pub returns-clause-stopped : goal.returns-clause-stopped
returns-clause-stopped c b e =
    (let old = here c.args.state.now in
    let u : State = record { store = c.instantiate.new.store; depth = old.depth; place = old.place } in
    let frozen = frozen_view c.args.frozen.now in
    let follows = copied_follows old u frozen c.in_ok-variable.variable refl refl c.in_ok-variable.ensures.whole
    c.in_ok-variable.ensures.made in
    many_not_used old u (here c.same.new.state) c.args.position frozen c.in_ok-variable.variable c.args.wanted follows
    c.in_ok-variable.ensures.made (bad_view b)
    (c.same.ensures.refuses b e))
