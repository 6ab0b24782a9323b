-- One level of the view of its pattern, and the view of its expression.
use Rattle.std.proofs.Common.{ap, ◌∙◌}
use Rattle.elm_tree.specs.Tree as plain
use Rattle.elm_tree.specs.Words.{pattern_of}
use Rattle.elm_tree.specs.View.{token_view, expr_view}
use Rattle.elm_tree.proofs.Views.{word_pattern}
use Rattle.elm_values.proofs.Making.{branch_made}
use Rattle.elm_values.proofs.nothing.no_branch.Goals as goal

pub returns : goal.returns
returns c = λ tokens.
    branch_made tokens _ ∙
    (ap (λ (p : plain.Pattern). (p, expr_view tokens c.no_expr.result)) (word_pattern tokens (record { index = 0 })) ∙
    ap (λ (e : plain.Expr). (pattern_of (token_view tokens (record { index = 0 })), e)) (c.no_expr.ensures tokens))
