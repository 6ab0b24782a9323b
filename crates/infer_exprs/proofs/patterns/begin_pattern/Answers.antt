use Rattle.std.proofs.Common.{map, subst, sym, ap, ◌∙◌}
use Rattle.std.proofs.lemmas.Result.{err_from_is_err_and}
use Rattle.elm_base.specs.declared.position.Pos.{Pos}
use Rattle.elm_canon.specs.View.{pattern_view}
use Rattle.type_items.specs.Scopes.{Known}
use Rattle.infer_steps.specs.Ready.{AreWritten}
use Rattle.infer_steps.specs.View.{here, code_of, bad_view}
use Rattle.infer_patterns.specs.Matches.{MatchesPattern, RefusesPattern}
use Rattle.infer_patterns.specs.View.{bound_view}
use Rattle.infer_groups.specs.Laws.{bound_named}
use Rattle.infer_groups.specs.Names.{named_views}
use Rattle.infer_parts.proofs.Coding.{other_error}
use Rattle.infer_exprs.proofs.Stopping.{pattern_refused}
use Rattle.infer_exprs.proofs.Around.{begins}
use Rattle.infer_exprs.proofs.patterns.begin_pattern.Goals as goal

pub infer_pattern-requires-clause-known : goal.infer_pattern-requires-clause-known
infer_pattern-requires-clause-known c = subst AreWritten (sym c.known.ensures) c.requires.can.ready.known

pub returns-in_err-bound-clause-stops : goal.returns-in_err-bound-clause-stops
returns-in_err-bound-clause-stops c b x e =
    let p = err_from_is_err_and c.from_residual-in_err-bound.result c.from_residual-in_err-bound.ensures.1 in
    let q = pattern_view c.args.pattern.now in
    let v = c.in_ok-variable.variable in
    let mid = here c.open_deeper.new.state in
    let new = here c.infer_pattern.new.state in
    let r = c.in_err-bound.ensures.refuses b (other_error _ _ (rw (p.1, p.2) at x)) in
    pattern_refused (code_of c.args.scope.now) q e c.args.number v (here c.args.state.now) mid c.requires.can.ready
    c.in_ok-variable.ensures.opened new (bad_view b)
    (subst (λ (h : Pos). RefusesPattern (code_of c.args.scope.now).known h v q (bad_view b) mid new) c.requires.start
    (subst (λ (k : Known). RefusesPattern k c.args.position v q (bad_view b) mid new) c.known.ensures r))

pub returns-clause-begun : goal.returns-clause-begun
returns-clause-begun c =
    let q = pattern_view c.args.pattern.now in
    let v = c.in_ok-variable.variable in
    let mid = here c.open_deeper.new.state in
    let new = here c.infer_pattern.new.state in
    begins (code_of c.args.scope.now) q c.args.number v (here c.args.state.now) mid c.requires.can
    c.in_ok-variable.ensures.place c.in_ok-variable.ensures.opened c.args.position
    (map bound_view c.in_ok-bound.bound.items) (named_views c.in_ok-names.names.items) (code_of c.enter.new.scope) new
    c.requires.start
    (subst (λ (k : Known). MatchesPattern k c.args.position v q (map bound_view c.in_ok-bound.bound.items) mid new)
    c.known.ensures c.in_ok-bound.ensures.matches)
    (c.in_ok-names.ensures ∙ ap (λ l. bound_named (map bound_view l)) c.deref.ensures.value)
    c.in_ok-entered.ensures.scope
