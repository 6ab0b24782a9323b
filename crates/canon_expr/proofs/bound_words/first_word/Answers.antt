-- By the form of the pattern, as the views of the tree tell it.
use Rattle.std.proofs.Common.{sym, ap, ◌∙◌}
use Rattle.elm_tree.specs.View.{pattern_view, token_view}
use Rattle.elm_tree.proofs.Views as views
use Rattle.canon_expr.specs.Binding.{pattern_place}
use Rattle.canon_expr.proofs.CanonBlocksForms.{word_place}
use Rattle.canon_expr.proofs.bound_words.first_word.Goals as goal

pub returns-in-OneWord : goal.returns-in-OneWord
returns-in-OneWord c = λ tokens.
    let token = token_view tokens c.in-OneWord.word in
    sym (ap pattern_place (ap (pattern_view tokens) c.in-OneWord.is ∙ views.word_pattern tokens c.in-OneWord.word)
    ∙ word_place token.kind token)

pub returns-in-Construct : goal.returns-in-Construct
returns-in-Construct c = λ tokens.
    sym (ap pattern_place (ap (pattern_view tokens) c.in-Construct.is ∙ views.construct_pattern tokens _ _))

pub returns-in-Cons : goal.returns-in-Cons
returns-in-Cons c = λ tokens.
    sym (ap pattern_place (ap (pattern_view tokens) c.in-Cons.is ∙ views.cons_pattern tokens _ _))

pub returns-in-List : goal.returns-in-List
returns-in-List c = λ tokens.
    sym (ap pattern_place (ap (pattern_view tokens) c.in-List.is ∙ views.list_pattern tokens _ _))

pub returns-in-Tuple : goal.returns-in-Tuple
returns-in-Tuple c = λ tokens.
    sym (ap pattern_place (ap (pattern_view tokens) c.in-Tuple.is ∙ views.tuple_pattern tokens _ _))

pub returns-in-Fields : goal.returns-in-Fields
returns-in-Fields c = λ tokens.
    sym (ap pattern_place (ap (pattern_view tokens) c.in-Fields.is ∙ views.fields_pattern tokens _ _))

pub returns-in-As : goal.returns-in-As
returns-in-As c = λ tokens.
    sym (ap pattern_place (ap (pattern_view tokens) c.in-As.is ∙ views.as_pattern tokens _ _ _))

pub returns-in-Negative : goal.returns-in-Negative
returns-in-Negative c = λ tokens.
    sym (ap pattern_place (ap (pattern_view tokens) c.in-Negative.is ∙ views.negative_pattern tokens _ _))
