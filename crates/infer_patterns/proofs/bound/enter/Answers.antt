-- The last of those that wait is entered: `entered_scope`, `entered_back`.
use Rattle.std.proofs.Common.{sym, ap, ◌∙◌, map, arith}
use Rattle.infer_steps.specs.Codes.{with_bound}
use Rattle.infer_steps.specs.Leaving.{without}
use Rattle.infer_steps.specs.View.{code_of}
use Rattle.infer_steps.proofs.Scoping.{without_none, none_left}
use Rattle.infer_patterns.specs.View.{bound_view}
use Rattle.infer_patterns.proofs.Binding.{entered_scope, entered_back}
use Rattle.infer_patterns.proofs.bound.enter.Goals as goal

pub loop-last-init : goal.loop-last-init
loop-last-init c = record {
  scope = λ i. with_bound (map bound_view c.args.bound.items) (code_of c.args.scope.now);
  entered =
      ap (λ es. without es (code_of c.args.scope.now)) c.in_ok-entered.ensures.items ∙ without_none
      (code_of c.args.scope.now);
}

pub loop-last-preserved-in_ok-push : goal.loop-last-preserved-in_ok-push
loop-last-preserved-in_ok-push c = record {
  scope =
      entered_scope c.loop-last.rest.items c.pop.new.self.items c.in-Some.last (code_of c.loop-last.scope)
      (code_of c.enter.new.self)
      c.in-Some.ensures.items c.in_ok-one.ensures.scope
      ∙ c.loop-last.invariant.scope;
  entered =
      ap (λ es. without es (code_of c.enter.new.self)) c.in_ok-push.ensures.items
      ∙ entered_back c.loop-last.entered.items c.in_ok-one.one (code_of c.loop-last.scope) (code_of c.enter.new.self)
      (code_of c.args.scope.now)
      c.in_ok-one.ensures.entered c.loop-last.invariant.entered;
}

pub returns-clause-scope : goal.returns-clause-scope
returns-clause-scope c =
    ap (λ bs. with_bound (map bound_view bs) (code_of c.loop-last.scope))
    (sym (none_left c.loop-last.rest.items (omega (arith, c.loop-last.rest.ok.0, c.in_default.ensures.cases.0))))
    ∙ c.loop-last.invariant.scope
