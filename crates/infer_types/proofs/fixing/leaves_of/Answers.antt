-- Names in turn: `one_more_leaf`.
use Rattle.std.proofs.Common.{◌≡◌, ◌+◌, Some, take, sym, subst, ◌∙◌}
use Rattle.std.specs.List.{AllZip}
use Rattle.infer_steps.specs.View.{code_of}
use Rattle.infer_types.proofs.Constants.{one_more_leaf, has_at, not_none}
use Rattle.infer_types.proofs.fixing.leaves_of.Goals as goal

pub loop-name-preserved : goal.loop-name-preserved
loop-name-preserved c =
    subst (λ vs. AllZip (λ x v. (code_of c.args.scope.now).constants x ≡ Some v)
    (take (c.loop-name.name-index + 1) c.args.names.now) vs) (sym c.in_ok-push-in-Some.ensures.items)
    (one_more_leaf (code_of c.args.scope.now) c.args.names.now c.loop-name.name-index c.name-item.result
    c.loop-name.variables.items c.in-Some.variable c.loop-name-test.true
    c.name-item.is c.loop-name.invariant (sym c.constant.ensures ∙ c.in-Some.is))

pub unreachable-requires : goal.unreachable-requires
unreachable-requires c =
    not_none (code_of c.args.scope.now) c.name-item.result
    (has_at (code_of c.args.scope.now) c.args.names.now c.loop-name.name-index c.name-item.result c.loop-name-test.true
    c.name-item.is c.requires)
    (sym c.constant.ensures ∙ c.in-None.is)
