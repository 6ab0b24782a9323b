-- One name more: `map_next`.
use Rattle.std.proofs.Common.{◌≡◌, ◌++◌, [], ◌∷◌, take, sym, ◌∙◌, arith, subst}
use Rattle.std.proofs.Common.{get_or}
use Rattle.std.proofs.lemmas.List.{get_or_default}
use Rattle.elm_tree.specs.View.{words_view, word_view}
use Rattle.elm_tree.specs.Turns.{tokens_view}
use Rattle.canon_env.proofs.Filtering.{map_next}
use Rattle.canon_expr.proofs.Steps.{take_all}
use Rattle.canon_expr.specs.Kept.{Binds}
use Rattle.canon_expr.proofs.CanonBlocksBinding.{binder_none}
use Rattle.canon_expr.proofs.binders.Binders.add.Goals as goal

pub loop-word-init : goal.loop-word-init
loop-word-init c = λ each many was place. was place ∙ sym (binder_none each place)

pub loop-word-preserved : goal.loop-word-preserved
loop-word-preserved c = λ each many was.
    let tokens = tokens_view c.args.tokens.now in
    let words = c.args.words.now in
    let i = c.loop-word.word-index in
    let word = get_or words i (record { index = 0 }) in
    let before = words_view tokens (take i words) in
    let x = word_view tokens word in
    let place : c.place_at.result ≡ x.place =
    λ j. record { row = c.place_at.ensures.row j; column = c.place_at.ensures.column j } in
    subst (λ ws. Binds c.add_one.new.self (each ++ ws ∷ []))
    (sym (map_next (word_view tokens) words i word c.loop-word-test.true
    (get_or_default words i (record { index = 0 }) word c.loop-word-test.true)))
    (c.in_ok-add_one.ensures each before x (sym place) many (c.loop-word.invariant each many was))

pub returns : goal.returns
returns c = λ each many was.
    let tokens = tokens_view c.args.tokens.now in
    subst (λ ws. Binds c.loop-word.self (each ++ words_view tokens ws ∷ []))
    (take_all c.loop-word.word-index c.args.words.now (omega arith)) (c.loop-word.invariant each many was)
