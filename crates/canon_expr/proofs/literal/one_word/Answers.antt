-- By the kind of the token: `word_means`, `named`.
use Rattle.std.proofs.Common.{sym, ap, ◌∙◌}
use Rattle.std.proofs.lemmas.Result.{IfOk-weaker}
use Rattle.elm_lexer.specs.declared.token.Kind.TheVariants as kind
use Rattle.elm_tree.specs.View.{token_view, place_view}
use Rattle.elm_tree.specs.Turns.{tokens_view}
use Rattle.elm_canon.specs.Tree as canon
use Rattle.elm_canon.specs.Tree.{LocatedPattern}
use Rattle.elm_canon.proofs.Views.{anything_pattern, exact_pattern, named_pattern}
use Rattle.canon_env.specs.Patterns.{pattern_of}
use Rattle.canon_expr.proofs.NamedTokens.{named}
use Rattle.canon_expr.proofs.Meaning.{word_means}
use Rattle.canon_expr.proofs.literal.one_word.Goals as goal

pub returns-in-Underscore : goal.returns-in-Underscore
returns-in-Underscore c =
    let t = token_view (tokens_view c.args.tokens.now) c.args.word in
    let place = place_view (tokens_view c.args.tokens.now) c.args.word in
    IfOk-weaker c.located.result _ _
    (λ p e w. word_means w t kind.Underscore _ (sym c.kind_at.ensures ∙ c.in-Underscore.is)
    (e ∙ ap (LocatedPattern place) anything_pattern))
    c.located.ensures

pub returns-in-Int : goal.returns-in-Int
returns-in-Int c =
    let t = token_view (tokens_view c.args.tokens.now) c.args.word in
    let place = place_view (tokens_view c.args.tokens.now) c.args.word in
    IfOk-weaker c.located-in-Int.result _ _
    (λ p e w. word_means w t (kind.Int c.in-Int.value) _ (sym c.kind_at.ensures ∙ c.in-Int.is)
    (e ∙ ap (LocatedPattern place)
    (exact_pattern c.int_literal.result ∙ ap canon.Exactly c.int_literal.ensures)))
    c.located-in-Int.ensures

pub returns-in_ok-value-in-Char : goal.returns-in_ok-value-in-Char
returns-in_ok-value-in-Char c =
    let t = token_view (tokens_view c.args.tokens.now) c.args.word in
    let place = place_view (tokens_view c.args.tokens.now) c.args.word in
    IfOk-weaker c.located-in-Char.result _ _
    (λ p e w. word_means w t kind.Char _ (sym c.kind_at.ensures ∙ c.in-Char.is)
    (e ∙ ap (LocatedPattern place)
    (exact_pattern c.in_ok-value-in-Char.value ∙ ap canon.Exactly c.in_ok-value-in-Char.ensures)))
    c.located-in-Char.ensures

pub returns-in_ok-value-in-Text : goal.returns-in_ok-value-in-Text
returns-in_ok-value-in-Text c =
    let t = token_view (tokens_view c.args.tokens.now) c.args.word in
    let place = place_view (tokens_view c.args.tokens.now) c.args.word in
    IfOk-weaker c.located-in-Text.result _ _
    (λ p e w. word_means w t kind.Text _ (sym c.kind_at.ensures ∙ c.in-Text.is)
    (e ∙ ap (LocatedPattern place)
    (exact_pattern c.in_ok-value-in-Text.value ∙ ap canon.Exactly c.in_ok-value-in-Text.ensures)))
    c.located-in-Text.ensures

pub returns-in_ok-name-in_default : goal.returns-in_ok-name-in_default
returns-in_ok-name-in_default c =
    let t = token_view (tokens_view c.args.tokens.now) c.args.word in
    let place = place_view (tokens_view c.args.tokens.now) c.args.word in
    let k = c.in_default in
    IfOk-weaker c.located-in_default.result _ _
    (λ p e w. word_means w t c.kind_at.result _ (sym c.kind_at.ensures)
    (e ∙ ap (LocatedPattern place)
    (named_pattern c.in_ok-name-in_default.name ∙ ap canon.Named c.in_ok-name-in_default.ensures)
    ∙ ap (pattern_of w) (sym (named c.kind_at.result t k.not-Underscore k.not-Int k.not-Char k.not-Text))))
    c.located-in_default.ensures
