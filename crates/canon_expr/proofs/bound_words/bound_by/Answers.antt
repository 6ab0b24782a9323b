-- By the form of the definition, as the views of the tree tell it.
use Rattle.std.proofs.Common.{[], ◌∷◌, ◌++◌, sym, ap, ◌∙◌}
use Rattle.std.proofs.lemmas.Result.{IfOk-weaker}
use Rattle.elm_tree.specs.View.{definition_view, words_view}
use Rattle.elm_tree.specs.Turns.{tokens_view}
use Rattle.elm_tree.proofs.Views as views
use Rattle.canon_expr.specs.Binding.{bound_by}
use Rattle.canon_expr.proofs.bound_words.bound_by.Goals as goal

pub returns-in-Annotate : goal.returns-in-Annotate
returns-in-Annotate c =
    let tokens = tokens_view c.args.tokens.now in
    ap (words_view tokens) c.new.ensures.items
    ∙ sym (ap bound_by (ap (definition_view tokens) c.in-Annotate.is ∙ views.annotate_definition tokens _ _))

pub returns-in-Define : goal.returns-in-Define
returns-in-Define c =
    let tokens = tokens_view c.args.tokens.now in
    IfOk-weaker c.one_item.result _ _
    (λ v e. ap (words_view tokens) e
    ∙ sym (ap bound_by (ap (definition_view tokens) c.in-Define.is ∙ views.define_definition tokens _ _ _)))
    c.one_item.ensures

pub returns-in-Destructure : goal.returns-in-Destructure
returns-in-Destructure c =
    let tokens = tokens_view c.args.tokens.now in
    IfOk-weaker c.words_of.result _ _
    (λ v e. e ∙ sym (ap bound_by (ap (definition_view tokens) c.in-Destructure.is ∙ views.destructure_definition tokens _ _)))
    c.words_of.ensures
