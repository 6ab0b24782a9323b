-- The last name goes first: `constants_more`.
use Rattle.std.proofs.Common.{◌∷◌, [], sym, ap, ◌∙◌, arith}
use Rattle.infer_steps.specs.View.{code_of}
use Rattle.infer_steps.specs.Leaving.{without_constant}
use Rattle.infer_steps.proofs.Scoping.{constants_more, constants_none, none_left}
use Rattle.infer_steps.proofs.scope.Scope.leave_constants.Goals as goal

pub loop-last-preserved : goal.loop-last-preserved
loop-last-preserved c =
    let before = code_of c.loop-last.self in
    ap (without_constant c.pop.new.self.items) c.in_ok-restore_constant.ensures
    ∙ sym (constants_more c.pop.new.self.items (c.in-Some.last ∷ []) before)
    ∙ ap (λ es. without_constant es before) (sym c.in-Some.ensures.items)
    ∙ c.loop-last.invariant

pub returns : goal.returns
returns c =
    sym (constants_none (code_of c.loop-last.self))
    ∙ ap (λ es. without_constant es (code_of c.loop-last.self))
    (sym (none_left c.loop-last.rest.items (omega (arith, c.loop-last.rest.ok.0, c.in_default.ensures.cases.0))))
    ∙ c.loop-last.invariant
