-- What a pattern means, by what its parts mean: `construct_means` and the like.
use Rattle.std.proofs.Common.{◌≡◌, length, map, take, ap, sym, ◌∙◌, arith, length-append}
use Rattle.std.proofs.lemmas.Result.{IfOk-weaker}
use Rattle.elm_tree.specs.Tree as tree
use Rattle.elm_tree.specs.View as tree_view
use Rattle.elm_tree.specs.View.{token_view, word_view, words_view, long_view, place_view}
use Rattle.elm_tree.specs.Turns.{tokens_view}
use Rattle.elm_tree.proofs.Views as views
use Rattle.elm_canon.specs.View.{pattern_view, patterns_view}
use Rattle.elm_canon.proofs.Views.{list_pattern, pattern_of_tuple, as_pattern}
use Rattle.std.proofs.lemmas.List.{length-map}
use Rattle.canon_env.specs.Imports.{name_of}
use Rattle.canon_env.proofs.Filtering.{pushed, map_map_next}
use Rattle.canon_env.specs.Patterns.{match_sites, match_sites_all, pattern_of, patterns_of}
use Rattle.canon_expr.proofs.Growing.{grows_more}
use Rattle.canon_expr.proofs.CanonPatternForms.{sites_all, means_all}
use Rattle.canon_expr.proofs.Meaning.{on_ok, word_sites, grows_at, quiet, construct_grows, construct_means, cons_means}
use Rattle.canon_expr.proofs.Meaning.{list_means, tuple_means, fields_means, as_means}
use Rattle.canon_expr.proofs.Steps.{flat_next, take_all}
use Rattle.std.specs.List.{flat_map}
use Rattle.elm_canon.specs.Tree as canon
use Rattle.canon_expr.proofs.pattern.+patterns.Goals as goal

pub pattern-returns-in-OneWord-clause-meaning : goal.pattern-returns-in-OneWord-clause-meaning
pattern-returns-in-OneWord-clause-meaning t c =
    let tokens = tokens_view c.args.tokens.now in
    IfOk-weaker c.one_word.result _ _
    (λ p e w h. e w ∙ ap (pattern_of w) (sym (ap (tree_view.pattern_view tokens) c.in-OneWord.is ∙ views.word_pattern tokens c.in-OneWord.word)))
    c.one_word.ensures

pub pattern-returns-in-OneWord-clause-log : goal.pattern-returns-in-OneWord-clause-log
pattern-returns-in-OneWord-clause-log t c =
    let tokens = tokens_view c.args.tokens.now in
    let token = token_view tokens c.in-OneWord.word in
    on_ok c.one_word.result
    (λ w h. quiet c.args.log.now _
    (ap match_sites (ap (tree_view.pattern_view tokens) c.in-OneWord.is ∙ views.word_pattern tokens c.in-OneWord.word)
    ∙ word_sites token.kind token))

pub pattern-returns-in-Negative-clause-meaning : goal.pattern-returns-in-Negative-clause-meaning
pattern-returns-in-Negative-clause-meaning t c =
    let tokens = tokens_view c.args.tokens.now in
    IfOk-weaker c.negative.result _ _
    (λ p e w h. e w ∙ ap (pattern_of w) (sym (ap (tree_view.pattern_view tokens) c.in-Negative.is
    ∙ views.negative_pattern tokens c.in-Negative.sign c.in-Negative.number)))
    c.negative.ensures

pub pattern-returns-in-Negative-clause-log : goal.pattern-returns-in-Negative-clause-log
pattern-returns-in-Negative-clause-log t c =
    let tokens = tokens_view c.args.tokens.now in
    on_ok c.negative.result
    (λ w h. quiet c.args.log.now _
    (ap match_sites (ap (tree_view.pattern_view tokens) c.in-Negative.is
    ∙ views.negative_pattern tokens c.in-Negative.sign c.in-Negative.number)))

pub pattern-returns-in_ok-meant-in-Construct-clause-meaning : goal.pattern-returns-in_ok-meant-in-Construct-clause-meaning
pattern-returns-in_ok-meant-in-Construct-clause-meaning t c =
    let tokens = tokens_view c.args.tokens.now in
    let x = long_view tokens c.in-Construct.name in
    let ps = map (tree_view.pattern_view tokens) c.in-Construct.parts.items in
    let written = tree_view.pattern_view tokens c.args.written.now in
    let whole : written ≡ tree.Construct x (tree.patterns_of ps) =
    ap (tree_view.pattern_view tokens) c.in-Construct.is
    ∙ views.construct_pattern tokens c.in-Construct.name c.in-Construct.parts in
    IfOk-weaker c.located.result _ _
    (λ p e w h. construct_means w x written ps (pattern_view p) (pattern_view c.in_ok-meant-in-Construct.meant)
    (patterns_view c.in_ok-parts-in-Construct.parts.items) whole e (c.in_ok-meant-in-Construct.ensures.meaning w h)
    (c.in_ok-parts-in-Construct.ensures.meaning w h
    ∙ ap (λ qs. patterns_of w (tree_view.patterns_view tokens qs)) c.deref.ensures.value))
    c.located.ensures

pub pattern-returns-in_ok-meant-in-Construct-clause-log : goal.pattern-returns-in_ok-meant-in-Construct-clause-log
pattern-returns-in_ok-meant-in-Construct-clause-log t c =
    let tokens = tokens_view c.args.tokens.now in
    let x = long_view tokens c.in-Construct.name in
    let parts = c.in-Construct.parts.items in
    let ps = map (tree_view.pattern_view tokens) parts in
    let written = tree_view.pattern_view tokens c.args.written.now in
    let whole : written ≡ tree.Construct x (tree.patterns_of ps) =
    ap (tree_view.pattern_view tokens) c.in-Construct.is
    ∙ views.construct_pattern tokens c.in-Construct.name c.in-Construct.parts in
    let many : length c.in_ok-parts-in-Construct.parts.items ≡ length ps =
    c.in_ok-parts-in-Construct.ensures.count ∙ ap length c.deref.ensures.value
    ∙ sym (length-map parts (tree_view.pattern_view tokens)) in
    on_ok c.located.result
    (λ w h. construct_grows x written ps (length c.in_ok-parts-in-Construct.parts.items) whole many
    (grows_at _ _ (ap (λ qs. match_sites_all (tree_view.patterns_view tokens qs)) (sym c.deref.ensures.value))
    (c.in_ok-parts-in-Construct.ensures.log w h))
    (c.in_ok-meant-in-Construct.ensures.findings w h) c.in_ok-meant-in-Construct.ensures.uses)

pub pattern-returns-in_ok-meant-in-Cons-clause-meaning : goal.pattern-returns-in_ok-meant-in-Cons-clause-meaning
pattern-returns-in_ok-meant-in-Cons-clause-meaning t c =
    let tokens = tokens_view c.args.tokens.now in
    let place = place_view tokens c.in-Cons.first in
    let parts = c.in-Cons.parts.items in
    let ps = map (tree_view.pattern_view tokens) parts in
    let written = tree_view.pattern_view tokens c.args.written.now in
    let whole : written ≡ tree.ConsPattern place (tree.patterns_of ps) =
    ap (tree_view.pattern_view tokens) c.in-Cons.is ∙ views.cons_pattern tokens c.in-Cons.first c.in-Cons.parts in
    IfOk-weaker c.located-in-Cons.result _ _
    (λ p e w h. cons_means w place written ps (pattern_view p) (pattern_view c.in_ok-meant-in-Cons.meant) (patterns_view c.in_ok-parts-in-Cons.parts.items) whole e
    c.in_ok-meant-in-Cons.ensures
    (c.in_ok-parts-in-Cons.ensures.meaning w h
    ∙ ap (λ qs. patterns_of w (tree_view.patterns_view tokens qs)) c.deref-in-Cons.ensures.value))
    c.located-in-Cons.ensures

pub pattern-returns-in_ok-meant-in-Cons-clause-log : goal.pattern-returns-in_ok-meant-in-Cons-clause-log
pattern-returns-in_ok-meant-in-Cons-clause-log t c =
    let tokens = tokens_view c.args.tokens.now in
    let place = place_view tokens c.in-Cons.first in
    let parts = c.in-Cons.parts.items in
    let ps = map (tree_view.pattern_view tokens) parts in
    let written = tree_view.pattern_view tokens c.args.written.now in
    let whole : written ≡ tree.ConsPattern place (tree.patterns_of ps) =
    ap (tree_view.pattern_view tokens) c.in-Cons.is ∙ views.cons_pattern tokens c.in-Cons.first c.in-Cons.parts in
    on_ok c.located-in-Cons.result
    (λ w h. grows_at _ _
    (ap match_sites whole ∙ ap (λ qs. match_sites_all (tree_view.patterns_view tokens qs)) (sym c.deref-in-Cons.ensures.value))
    (c.in_ok-parts-in-Cons.ensures.log w h))

pub pattern-returns-in_ok-parts-in-List-clause-meaning : goal.pattern-returns-in_ok-parts-in-List-clause-meaning
pattern-returns-in_ok-parts-in-List-clause-meaning t c =
    let tokens = tokens_view c.args.tokens.now in
    let place = place_view tokens c.in-List.first in
    let parts = c.in-List.parts.items in
    let ps = map (tree_view.pattern_view tokens) parts in
    let written = tree_view.pattern_view tokens c.args.written.now in
    let whole : written ≡ tree.ListPattern place (tree.patterns_of ps) =
    ap (tree_view.pattern_view tokens) c.in-List.is ∙ views.list_pattern tokens c.in-List.first c.in-List.parts in
    IfOk-weaker c.located-in-List.result _ _
    (λ p e w h. list_means w place written ps (pattern_view p) _ (map pattern_view c.in_ok-parts-in-List.parts.items) whole e (list_pattern c.in_ok-parts-in-List.parts)
    (c.in_ok-parts-in-List.ensures.meaning w h
    ∙ ap (λ qs. patterns_of w (tree_view.patterns_view tokens qs)) c.deref-in-List.ensures.value))
    c.located-in-List.ensures

pub pattern-returns-in_ok-parts-in-List-clause-log : goal.pattern-returns-in_ok-parts-in-List-clause-log
pattern-returns-in_ok-parts-in-List-clause-log t c =
    let tokens = tokens_view c.args.tokens.now in
    let place = place_view tokens c.in-List.first in
    let parts = c.in-List.parts.items in
    let ps = map (tree_view.pattern_view tokens) parts in
    let written = tree_view.pattern_view tokens c.args.written.now in
    let whole : written ≡ tree.ListPattern place (tree.patterns_of ps) =
    ap (tree_view.pattern_view tokens) c.in-List.is ∙ views.list_pattern tokens c.in-List.first c.in-List.parts in
    on_ok c.located-in-List.result
    (λ w h. grows_at _ _
    (ap match_sites whole ∙ ap (λ qs. match_sites_all (tree_view.patterns_view tokens qs)) (sym c.deref-in-List.ensures.value))
    (c.in_ok-parts-in-List.ensures.log w h))

pub pattern-returns-in_ok-parts-in-Tuple-clause-meaning : goal.pattern-returns-in_ok-parts-in-Tuple-clause-meaning
pattern-returns-in_ok-parts-in-Tuple-clause-meaning t c =
    let tokens = tokens_view c.args.tokens.now in
    let place = place_view tokens c.in-Tuple.first in
    let parts = c.in-Tuple.parts.items in
    let ps = map (tree_view.pattern_view tokens) parts in
    let written = tree_view.pattern_view tokens c.args.written.now in
    let whole : written ≡ tree.TuplePattern place (tree.patterns_of ps) =
    ap (tree_view.pattern_view tokens) c.in-Tuple.is ∙ views.tuple_pattern tokens c.in-Tuple.first c.in-Tuple.parts in
    IfOk-weaker c.located-in-Tuple.result _ _
    (λ p e w h. tuple_means w place written ps (pattern_view p) _ (map pattern_view c.in_ok-parts-in-Tuple.parts.items) whole e (pattern_of_tuple c.in_ok-parts-in-Tuple.parts)
    (length-map c.in_ok-parts-in-Tuple.parts.items pattern_view ∙ c.in_ok-parts-in-Tuple.ensures.count
    ∙ ap length c.deref-in-Tuple.ensures.value ∙ sym (length-map parts (tree_view.pattern_view tokens)))
    (c.in_ok-parts-in-Tuple.ensures.meaning w h
    ∙ ap (λ qs. patterns_of w (tree_view.patterns_view tokens qs)) c.deref-in-Tuple.ensures.value))
    c.located-in-Tuple.ensures

pub pattern-returns-in_ok-parts-in-Tuple-clause-log : goal.pattern-returns-in_ok-parts-in-Tuple-clause-log
pattern-returns-in_ok-parts-in-Tuple-clause-log t c =
    let tokens = tokens_view c.args.tokens.now in
    let place = place_view tokens c.in-Tuple.first in
    let parts = c.in-Tuple.parts.items in
    let ps = map (tree_view.pattern_view tokens) parts in
    let written = tree_view.pattern_view tokens c.args.written.now in
    let whole : written ≡ tree.TuplePattern place (tree.patterns_of ps) =
    ap (tree_view.pattern_view tokens) c.in-Tuple.is ∙ views.tuple_pattern tokens c.in-Tuple.first c.in-Tuple.parts in
    on_ok c.located-in-Tuple.result
    (λ w h. grows_at _ _
    (ap match_sites whole ∙ ap (λ qs. match_sites_all (tree_view.patterns_view tokens qs)) (sym c.deref-in-Tuple.ensures.value))
    (c.in_ok-parts-in-Tuple.ensures.log w h))

pub pattern-returns-in_ok-names-in-Fields-clause-meaning : goal.pattern-returns-in_ok-names-in-Fields-clause-meaning
pattern-returns-in_ok-names-in-Fields-clause-meaning t c =
    let tokens = tokens_view c.args.tokens.now in
    let place = place_view tokens c.in-Fields.first in
    let xs = words_view tokens c.in-Fields.names.items in
    let written = tree_view.pattern_view tokens c.args.written.now in
    let whole : written ≡ tree.FieldsPattern place xs =
    ap (tree_view.pattern_view tokens) c.in-Fields.is ∙ views.fields_pattern tokens c.in-Fields.first c.in-Fields.names in
    IfOk-weaker c.located-in-Fields.result _ _
    (λ p e w h. fields_means w place written xs (pattern_view p) _ c.in_ok-names-in-Fields.names.items whole e
    c.fields.ensures
    (c.in_ok-names-in-Fields.ensures ∙ ap (λ ws. map name_of (words_view tokens ws)) c.deref-in-Fields.ensures.value))
    c.located-in-Fields.ensures

pub pattern-returns-in_ok-names-in-Fields-clause-log : goal.pattern-returns-in_ok-names-in-Fields-clause-log
pattern-returns-in_ok-names-in-Fields-clause-log t c =
    let tokens = tokens_view c.args.tokens.now in
    on_ok c.located-in-Fields.result
    (λ w h. quiet c.args.log.now _
    (ap match_sites (ap (tree_view.pattern_view tokens) c.in-Fields.is
    ∙ views.fields_pattern tokens c.in-Fields.first c.in-Fields.names)))

pub pattern-returns-in_ok-name-in-As-clause-meaning : goal.pattern-returns-in_ok-name-in-As-clause-meaning
pattern-returns-in_ok-name-in-As-clause-meaning t c =
    let tokens = tokens_view c.args.tokens.now in
    let place = place_view tokens c.in-As.first in
    let inner = tree_view.pattern_view tokens c.in-As.inner.value in
    let x = word_view tokens c.in-As.name in
    let written = tree_view.pattern_view tokens c.args.written.now in
    let whole : written ≡ tree.As place inner x =
    ap (tree_view.pattern_view tokens) c.in-As.is
    ∙ views.as_pattern tokens c.in-As.first c.in-As.inner c.in-As.name in
    IfOk-weaker c.located-in-As.result _ _
    (λ p e w h. as_means w place written inner x (pattern_view p) _ (pattern_view c.in_ok-inner-in-As-2.inner.value)
    c.in_ok-name-in-As.name whole e (as_pattern c.in_ok-inner-in-As-2.inner c.in_ok-name-in-As.name)
    (ap pattern_view c.in_ok-inner-in-As-2.ensures ∙ c.in_ok-inner-in-As.ensures.meaning w h
    ∙ ap (λ q. pattern_of w (tree_view.pattern_view tokens q)) c.deref-in-As.ensures)
    c.in_ok-name-in-As.ensures)
    c.located-in-As.ensures

pub pattern-returns-in_ok-name-in-As-clause-log : goal.pattern-returns-in_ok-name-in-As-clause-log
pattern-returns-in_ok-name-in-As-clause-log t c =
    let tokens = tokens_view c.args.tokens.now in
    on_ok c.located-in-As.result
    (λ w h. grows_at _ _
    (ap match_sites (ap (tree_view.pattern_view tokens) c.in-As.is
    ∙ views.as_pattern tokens c.in-As.first c.in-As.inner c.in-As.name)
    ∙ ap (λ q. match_sites (tree_view.pattern_view tokens q)) (sym c.deref-in-As.ensures))
    (c.in_ok-inner-in-As.ensures.log w h))

pub patterns-loop-one-preserved : goal.patterns-loop-one-preserved
patterns-loop-one-preserved t c =
    let view = tree_view.pattern_view (tokens_view c.args.tokens.now) in
    let written = c.args.written.now in
    let i = c.loop-one.one-index in
    let one = c.one-item.result in
    record {
      count = omega (arith, simp length-append at (ap length c.in_ok-put.ensures), c.loop-one.invariant.count);
      meaning = λ w h.
          pushed pattern_view c.loop-one.meant.items c.put.new.items.items c.in_ok-pattern.field-0
          (map (pattern_of w) (map view (take i written))) (pattern_of w (view one)) c.in_ok-put.ensures
          (c.loop-one.invariant.meaning w h) (c.in_ok-pattern.ensures.meaning w h)
          ∙ sym (map_map_next (pattern_of w) view written i one (omega arith) c.one-item.is);
      log = λ w h.
          grows_at _ _ (flat_next match_sites view written i one (omega arith) c.one-item.is)
          (grows_more (c.loop-one.invariant.log w h) (c.in_ok-pattern.ensures.log w h));
    }

pub patterns-returns : goal.patterns-returns
patterns-returns t c =
    let view = tree_view.pattern_view (tokens_view c.args.tokens.now) in
    let written = c.args.written.now in
    let i = c.loop-one.one-index in
    let all : take i written ≡ written = take_all i written (omega arith) in
    record {
      count = omega (arith, c.loop-one.invariant.count);
      meaning = λ w h.
          ap canon.patterns_of (c.loop-one.invariant.meaning w h ∙ ap (λ ps. map (pattern_of w) (map view ps)) all)
          ∙ sym (means_all w (map view written));
      log = λ w h.
          grows_at _ _ (sites_all (map view written) ∙ ap (λ ps. flat_map match_sites (map view ps)) (sym all))
          (c.loop-one.invariant.log w h);
    }
