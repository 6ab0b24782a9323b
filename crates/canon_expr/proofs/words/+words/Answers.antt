-- The names of a pattern are those of its parts: `words_all`, `flat_next`.
use Rattle.std.proofs.Common.{[], ◌∷◌, ◌++◌, map, take, ap, sym, ◌∙◌, arith, append-nil, append_assoc}
use Rattle.std.proofs.lemmas.Result.{on_ok_weaker}
use Rattle.std.proofs.lemmas.List.{map-append}
use Rattle.std.specs.List.{flat_map}
use Rattle.elm_tree.specs.View.{word_view, words_view, pattern_view, patterns_view}
use Rattle.elm_tree.specs.Turns.{tokens_view}
use Rattle.elm_tree.proofs.Views.{word_pattern, negative_pattern, construct_pattern, cons_pattern, list_pattern}
use Rattle.elm_tree.proofs.Views.{tuple_pattern, fields_pattern, as_pattern}
use Rattle.canon_env.specs.Patterns.{words_of, words_of_all}
use Rattle.canon_expr.proofs.CanonPatternForms.{words_all}
use Rattle.canon_expr.proofs.Steps.{flat_next, after_both, take_all}
use Rattle.canon_expr.proofs.words.+words.Goals as goal

pub push_words-returns-in-OneWord : goal.push_words-returns-in-OneWord
push_words-returns-in-OneWord t c =
    let tokens = tokens_view c.args.tokens.now in
    on_ok_weaker c.push_word.result
    (λ e. e ∙ ap (λ ws. words_view tokens c.args.words.now.items ++ ws)
    (ap words_of (sym (ap (pattern_view tokens) c.in-OneWord.is ∙ word_pattern tokens c.in-OneWord.word))))
    c.push_word.ensures

pub push_words-returns-in-Negative : goal.push_words-returns-in-Negative
push_words-returns-in-Negative t c =
    let tokens = tokens_view c.args.tokens.now in
    sym (append-nil (words_view tokens c.args.words.now.items))
    ∙ ap (λ ws. words_view tokens c.args.words.now.items ++ ws)
    (ap words_of (sym (ap (pattern_view tokens) c.in-Negative.is ∙ negative_pattern tokens _ _)))

pub push_words-returns-in-Construct : goal.push_words-returns-in-Construct
push_words-returns-in-Construct t c =
    let tokens = tokens_view c.args.tokens.now in
    on_ok_weaker c.push_all.result
    (λ e. e ∙ ap (λ ws. words_view tokens c.args.words.now.items ++ ws)
    (ap (λ ps. words_of_all (patterns_view tokens ps)) c.deref.ensures.value
    ∙ ap words_of (sym (ap (pattern_view tokens) c.in-Construct.is ∙ construct_pattern tokens _ c.in-Construct.parts))))
    c.push_all.ensures

pub push_words-returns-in-Cons : goal.push_words-returns-in-Cons
push_words-returns-in-Cons t c =
    let tokens = tokens_view c.args.tokens.now in
    on_ok_weaker c.push_all-in-Cons.result
    (λ e. e ∙ ap (λ ws. words_view tokens c.args.words.now.items ++ ws)
    (ap (λ ps. words_of_all (patterns_view tokens ps)) c.deref-in-Cons.ensures.value
    ∙ ap words_of (sym (ap (pattern_view tokens) c.in-Cons.is ∙ cons_pattern tokens _ c.in-Cons.parts))))
    c.push_all-in-Cons.ensures

pub push_words-returns-in-List : goal.push_words-returns-in-List
push_words-returns-in-List t c =
    let tokens = tokens_view c.args.tokens.now in
    on_ok_weaker c.push_all-in-List.result
    (λ e. e ∙ ap (λ ws. words_view tokens c.args.words.now.items ++ ws)
    (ap (λ ps. words_of_all (patterns_view tokens ps)) c.deref-in-List.ensures.value
    ∙ ap words_of (sym (ap (pattern_view tokens) c.in-List.is ∙ list_pattern tokens _ c.in-List.parts))))
    c.push_all-in-List.ensures

pub push_words-returns-in-Tuple : goal.push_words-returns-in-Tuple
push_words-returns-in-Tuple t c =
    let tokens = tokens_view c.args.tokens.now in
    on_ok_weaker c.push_all-in-Tuple.result
    (λ e. e ∙ ap (λ ws. words_view tokens c.args.words.now.items ++ ws)
    (ap (λ ps. words_of_all (patterns_view tokens ps)) c.deref-in-Tuple.ensures.value
    ∙ ap words_of (sym (ap (pattern_view tokens) c.in-Tuple.is ∙ tuple_pattern tokens _ c.in-Tuple.parts))))
    c.push_all-in-Tuple.ensures

pub push_words-returns-in-Fields : goal.push_words-returns-in-Fields
push_words-returns-in-Fields t c =
    let tokens = tokens_view c.args.tokens.now in
    on_ok_weaker c.push_each.result
    (λ e. ap (words_view tokens) e ∙ map-append (word_view tokens) c.args.words.now.items _
    ∙ ap (λ ws. words_view tokens c.args.words.now.items ++ ws)
    (ap (words_view tokens) c.deref-in-Fields.ensures.value
    ∙ ap words_of (sym (ap (pattern_view tokens) c.in-Fields.is ∙ fields_pattern tokens _ c.in-Fields.names))))
    c.push_each.ensures

pub push_words-returns-in_ok-put-in-As : goal.push_words-returns-in_ok-put-in-As
push_words-returns-in_ok-put-in-As t c =
    let tokens = tokens_view c.args.tokens.now in
    let old = words_view tokens c.args.words.now.items in
    let x = word_view tokens c.in-As.name in
    ap (words_view tokens) c.in_ok-put-in-As.ensures
    ∙ map-append (word_view tokens) c.push_words.new.words.items (c.in-As.name ∷ [])
    ∙ ap (λ ws. ws ++ x ∷ []) c.in_ok-push_words-in-As.ensures
    ∙ append_assoc old (words_of (pattern_view tokens c.deref-in-As.result.now)) (x ∷ [])
    ∙ ap (λ ws. old ++ ws)
    (ap (λ q. words_of (pattern_view tokens q) ++ x ∷ []) c.deref-in-As.ensures
    ∙ ap words_of (sym (ap (pattern_view tokens) c.in-As.is ∙ as_pattern tokens _ c.in-As.inner c.in-As.name)))

pub push_all-loop-pattern-preserved : goal.push_all-loop-pattern-preserved
push_all-loop-pattern-preserved t c =
    let tokens = tokens_view c.args.tokens.now in
    after_both (words_view tokens c.loop-pattern.words.items) (words_view tokens c.push_words.new.words.items)
    (words_view tokens c.args.words.now.items)
    (flat_map words_of (map (pattern_view tokens) (take c.loop-pattern.pattern-index c.args.patterns.now)))
    (words_of (pattern_view tokens c.pattern-item.result)) _ c.loop-pattern.invariant c.in_ok-push_words.ensures
    (flat_next words_of (pattern_view tokens) c.args.patterns.now c.loop-pattern.pattern-index c.pattern-item.result
    (omega arith) c.pattern-item.is)

pub push_all-returns : goal.push_all-returns
push_all-returns t c =
    let view = pattern_view (tokens_view c.args.tokens.now) in
    let patterns = c.args.patterns.now in
    let old = words_view (tokens_view c.args.tokens.now) c.args.words.now.items in
    c.loop-pattern.invariant
    ∙ ap (λ ps. old ++ flat_map words_of (map view ps)) (take_all c.loop-pattern.pattern-index patterns (omega arith))
    ∙ ap (λ ws. old ++ ws) (sym (words_all (map view patterns)))
