-- With parameters it is one: `has_parameters`.
use Rattle.std.proofs.Common.{sym, ◌∙◌, eq-eqb}
use Rattle.std.proofs.lemmas.Bool.{eqb-true, false≢true}
use Rattle.elm_tree.specs.View.{expr_view}
use Rattle.canon_expr.proofs.CanonBlocksForms.{has_parameters, no_parameters}
use Rattle.canon_expr.proofs.bound_words.is_function.Goals as goal

pub returns-else-is_empty : goal.returns-else-is_empty
returns-else-is_empty c = λ tokens.
    sym (has_parameters tokens c.args.parameters.now (expr_view tokens c.args.body.now)
    (λ e. false≢true (sym c.if-is_empty.false ∙ c.is_empty.ensures ∙ eq-eqb _ 0 e)))

pub returns-then-is_empty : goal.returns-then-is_empty
returns-then-is_empty c = λ tokens.
    c.is_lambda.ensures tokens
    ∙ no_parameters tokens c.args.parameters.now (expr_view tokens c.args.body.now)
    (eqb-true _ 0 (sym c.is_empty.ensures ∙ c.if-is_empty.true))
