-- One definition more, and then all: `flat_next`, `all_bound`.
use Rattle.std.proofs.Common.{◌++◌, map, take, sym, ap, ◌∙◌, arith}
use Rattle.std.specs.List.{flat_map}
use Rattle.std.proofs.lemmas.List.{map-append}
use Rattle.elm_tree.specs.View.{words_view, word_view, definition_view}
use Rattle.elm_tree.specs.Turns.{tokens_view}
use Rattle.canon_expr.proofs.Steps.{flat_next, take_all}
use Rattle.canon_expr.specs.Binding.{bound_by}
use Rattle.canon_expr.proofs.Listing.{all_bound}
use Rattle.canon_expr.proofs.bound_words.bound_in.Goals as goal

pub loop-definition-preserved : goal.loop-definition-preserved
loop-definition-preserved c =
    let tokens = tokens_view c.args.tokens.now in
    let i = c.loop-definition.definition-index in
    let before = flat_map bound_by (map (definition_view tokens) (take i c.args.definitions.now)) in
    ap (words_view tokens) c.in_ok-extend_from_slice.ensures.items
    ∙ map-append (word_view tokens) c.loop-definition.words.items c.deref.result.now
    ∙ ap (λ ws. ws ++ words_view tokens c.deref.result.now) c.loop-definition.invariant
    ∙ ap (λ ws. before ++ ws) (ap (words_view tokens) c.deref.ensures.value ∙ c.in_ok-bound.ensures)
    ∙ sym (flat_next bound_by (definition_view tokens) c.args.definitions.now i c.definition-item.result (omega arith)
    c.definition-item.is)

pub returns : goal.returns
returns c =
    let tokens = tokens_view c.args.tokens.now in
    c.loop-definition.invariant
    ∙ ap (λ ds. flat_map bound_by (map (definition_view tokens) ds))
    (take_all c.loop-definition.definition-index c.args.definitions.now (omega arith))
    ∙ sym (all_bound (map (definition_view tokens) c.args.definitions.now))
