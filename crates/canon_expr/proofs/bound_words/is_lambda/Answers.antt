-- By the form of the body, as the views of the tree tell it.
use Rattle.std.proofs.Common.{sym, ap, ◌∙◌}
use Rattle.elm_tree.specs.View.{expr_view, token_view}
use Rattle.elm_tree.proofs.Views as views
use Rattle.canon_expr.specs.Binding.{is_lambda}
use Rattle.canon_expr.proofs.CanonBlocksForms.{word_no_lambda, record_no_lambda}
use Rattle.canon_expr.proofs.bound_words.is_lambda.Goals as goal

pub returns-in-OneWord : goal.returns-in-OneWord
returns-in-OneWord c = λ tokens.
    let token = token_view tokens c.in-OneWord.field-0 in
    sym (ap is_lambda (ap (expr_view tokens) c.in-OneWord.is ∙ views.word_expr tokens c.in-OneWord.field-0)
    ∙ word_no_lambda token.kind token)

pub returns-in-Record : goal.returns-in-Record
returns-in-Record c = λ tokens.
    sym (ap is_lambda (ap (expr_view tokens) c.in-Record.is ∙ views.record_of_expr tokens _ _ _)
    ∙ record_no_lambda tokens c.in-Record.field-0 c.in-Record.field-1 _)

pub returns-in-Lambda : goal.returns-in-Lambda
returns-in-Lambda c = λ tokens.
    sym (ap is_lambda (ap (expr_view tokens) c.in-Lambda.is ∙ views.lambda_expr tokens _ _ _))

pub returns-in-Negative : goal.returns-in-Negative
returns-in-Negative c = λ tokens.
    sym (ap is_lambda (ap (expr_view tokens) c.in-Negative.is ∙ views.negative_expr tokens _ _))

pub returns-in-Apply : goal.returns-in-Apply
returns-in-Apply c = λ tokens.
    sym (ap is_lambda (ap (expr_view tokens) c.in-Apply.is ∙ views.apply_expr tokens _ _))

pub returns-in-Chain : goal.returns-in-Chain
returns-in-Chain c = λ tokens.
    sym (ap is_lambda (ap (expr_view tokens) c.in-Chain.is ∙ views.chain_expr tokens _ _))

pub returns-in-List : goal.returns-in-List
returns-in-List c = λ tokens.
    sym (ap is_lambda (ap (expr_view tokens) c.in-List.is ∙ views.list_expr tokens _ _))

pub returns-in-Tuple : goal.returns-in-Tuple
returns-in-Tuple c = λ tokens.
    sym (ap is_lambda (ap (expr_view tokens) c.in-Tuple.is ∙ views.tuple_expr tokens _ _))

pub returns-in-Access : goal.returns-in-Access
returns-in-Access c = λ tokens.
    sym (ap is_lambda (ap (expr_view tokens) c.in-Access.is ∙ views.access_expr tokens _ _ _))

pub returns-in-If : goal.returns-in-If
returns-in-If c = λ tokens.
    sym (ap is_lambda (ap (expr_view tokens) c.in-If.is ∙ views.if_expr tokens _ _ _))

pub returns-in-Case : goal.returns-in-Case
returns-in-Case c = λ tokens.
    sym (ap is_lambda (ap (expr_view tokens) c.in-Case.is ∙ views.case_expr tokens _ _ _))

pub returns-in-Let : goal.returns-in-Let
returns-in-Let c = λ tokens.
    sym (ap is_lambda (ap (expr_view tokens) c.in-Let.is ∙ views.let_expr tokens _ _))
