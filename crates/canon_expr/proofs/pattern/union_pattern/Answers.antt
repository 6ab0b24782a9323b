-- The copies are what was copied.
use Rattle.std.proofs.Common.{◌≡◌, ap, ◌∙◌}
use Rattle.elm_canon.specs.Tree as canon
use Rattle.elm_canon.specs.View.{patterns_view}
use Rattle.elm_canon.proofs.Views.{construct_pattern}
use Rattle.canon_expr.proofs.pattern.union_pattern.Goals as goal

pub returns : goal.returns
returns c =
    let qs = patterns_view c.args.parts.items in
    let u = c.in_ok-union.union in
    let a = c.in_ok-alternative.alternative in
    let copy = c.in_ok-alternative.ensures.cases in
    let same : a ≡ c.args.alternative.now = λ i. record { name = copy.0 i; tag = copy.1.0 i; arity = copy.1.1 i } in
    construct_pattern u a c.args.parts
    ∙ ap (λ v. canon.Construct v a qs) c.in_ok-union.ensures.cases
    ∙ ap (λ b. canon.Construct c.args.union.now b qs) same
