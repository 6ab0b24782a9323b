-- The last name goes first: `without_more`.
use Rattle.std.proofs.Common.{◌∷◌, [], sym, ap, ◌∙◌, arith}
use Rattle.infer_steps.specs.View.{code_of}
use Rattle.infer_steps.specs.Leaving.{without}
use Rattle.infer_steps.proofs.Scoping.{without_more, without_none, none_left}
use Rattle.infer_steps.proofs.scope.Scope.leave.Goals as goal

pub loop-last-preserved : goal.loop-last-preserved
loop-last-preserved c =
    let before = code_of c.loop-last.self in
    ap (without c.pop.new.self.items) c.in_ok-restore.ensures
    ∙ sym (without_more c.pop.new.self.items (c.in-Some.last ∷ []) before)
    ∙ ap (λ es. without es before) (sym c.in-Some.ensures.items)
    ∙ c.loop-last.invariant

pub returns : goal.returns
returns c =
    sym (without_none (code_of c.loop-last.self))
    ∙ ap (λ es. without es (code_of c.loop-last.self))
    (sym (none_left c.loop-last.rest.items (omega (arith, c.loop-last.rest.ok.0, c.in_default.ensures.cases.0))))
    ∙ c.loop-last.invariant
