-- The last name goes first: `without-append`.
use Rattle.std.proofs.Common.{◌∷◌, [], sym, ap, ◌∙◌, arith}
use Rattle.canon_expr.specs.Scope.{locals_of, without}
use Rattle.canon_expr.proofs.Scoping.{without-append, without-nothing, none_left}
use Rattle.canon_expr.proofs.scope.Scope.leave.Goals as goal

pub loop-last-preserved : goal.loop-last-preserved
loop-last-preserved c =
    let before = locals_of c.loop-last.self in
    ap (without c.pop.new.self.items) c.in_ok-restore.ensures
    ∙ sym (without-append c.pop.new.self.items (c.in-Some.last ∷ []) before)
    ∙ ap (λ es. without es before) (sym c.in-Some.ensures.items)
    ∙ c.loop-last.invariant

pub returns : goal.returns
returns c =
    sym (without-nothing (locals_of c.loop-last.self))
    ∙ ap (λ es. without es (locals_of c.loop-last.self))
    (sym (none_left c.loop-last.rest.items (omega (arith, c.loop-last.rest.ok.0, c.in_default.ensures.cases.0))))
    ∙ c.loop-last.invariant
