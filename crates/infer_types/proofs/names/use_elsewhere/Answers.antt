-- A scheme that is declared elsewhere: `known_used`, `known_not_used`, `known_refused`.
use Rattle.std.proofs.Common.{◌∙◌, Err, OnOk, sym, ap, subst}
use Rattle.elm_canon.specs.declared.reference.Ref.{Ref}
use Rattle.elm_type.specs.View.{scheme_view}
use Rattle.infer_steps.specs.View.{here, bad_view, known_view}
use Rattle.infer_steps.specs.declared.bad.InferError.TheVariants as error
use Rattle.infer_types.specs.Uses.{Elsewhere, Uses, NoUse}
use Rattle.infer_types.proofs.Using.{ok_on, err_same, found_scheme, known_used, known_not_used, known_refused}
use Rattle.infer_types.proofs.names.use_elsewhere.Goals as goal

pub known-requires-clause-written : goal.known-requires-clause-written
known-requires-clause-written c =
    c.requires.known c.in-Top.home c.in-Top.top (scheme_view c.in-Some.scheme.now)
    (found_scheme c.get.result c.in-Some.scheme (known_view c.args.known.now c.in-Top.home c.in-Top.top) c.in-Some.is
    c.get.ensures)

pub returns-in-Ok-clause-walked : goal.returns-in-Ok-clause-walked
returns-in-Ok-clause-walked c =
    (let known = known_view c.args.known.now in
    let found = found_scheme c.get.result c.in-Some.scheme (known c.in-Top.home c.in-Top.top) c.in-Some.is c.get.ensures
    in
    subst (λ (x : Ref). OnOk c.same.result
    (Uses (Elsewhere known x) c.args.position c.args.wanted (here c.args.state.now) (here c.same.new.state)))
    (sym c.in-Top.is)
    (ok_on c.same.result c.same.ensures.asks
    (known_used (here c.args.state.now) (here c.known.new.state) (here c.same.new.state) c.args.position known
    c.in-Top.home c.in-Top.top (scheme_view c.in-Some.scheme.now)
    c.in-Ok.variable c.args.wanted found c.in-Ok.ensures.made)))

pub returns-in-Ok-clause-stopped : goal.returns-in-Ok-clause-stopped
returns-in-Ok-clause-stopped c b e =
    (let known = known_view c.args.known.now in
    let found = found_scheme c.get.result c.in-Some.scheme (known c.in-Top.home c.in-Top.top) c.in-Some.is c.get.ensures
    in
    subst (λ (x : Ref). NoUse (Elsewhere known x) c.args.position c.args.wanted (here c.args.state.now)
    (here c.same.new.state) (bad_view b)) (sym c.in-Top.is)
    (known_not_used (here c.args.state.now) (here c.known.new.state) (here c.same.new.state) c.args.position known
    c.in-Top.home c.in-Top.top (scheme_view c.in-Some.scheme.now)
    c.in-Ok.variable c.args.wanted found (bad_view b) c.in-Ok.ensures.made (c.same.ensures.refuses b e)))

pub returns-in-Err-clause-stopped : goal.returns-in-Err-clause-stopped
returns-in-Err-clause-stopped c b e =
    (let known = known_view c.args.known.now in
    let found = found_scheme c.get.result c.in-Some.scheme (known c.in-Top.home c.in-Top.top) c.in-Some.is c.get.ensures
    in
    subst (λ (x : Ref). NoUse (Elsewhere known x) c.args.position c.args.wanted (here c.args.state.now)
    (here c.known.new.state) (bad_view b)) (sym c.in-Top.is)
    (known_refused (here c.args.state.now) (here c.args.state.now) (here c.known.new.state) c.args.position known
    c.in-Top.home c.in-Top.top (scheme_view c.in-Some.scheme.now)
    0 c.args.wanted found (bad_view b) (c.known.ensures.refused b
    (c.in-Err.is ∙ ap (λ x. Err x) (err_same c.in-Err.error (error.Bad b) e)))))
