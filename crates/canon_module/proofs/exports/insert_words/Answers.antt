-- One word more in a set: `any_next`.
use Rattle.std.proofs.Common.{map, take, get_or, [], ◌∷◌, ◌||◌, arith, sym, ap, ◌∙◌}
use Rattle.std.proofs.lemmas.List.{map-append}
use Rattle.std.proofs.Math.Bool.{or_assoc}
use Rattle.indexmap.specs.IndexSet.{contains}
use Rattle.elm_tree.specs.View.{word_view, words_view}
use Rattle.elm_tree.specs.Turns.{tokens_view}
use Rattle.elm_tree.specs.declared.tree.Word.{Word}
use Rattle.elm_canon.specs.Names.{same_name}
use Rattle.canon_env.specs.Imports.{name_of}
use Rattle.canon_env.specs.Exposing.{is_among}
use Rattle.canon_env.proofs.Filtering.{any_next}
use Rattle.canon_env.proofs.Repeating.{map_at}
use Rattle.canon_module.proofs.exports.insert_words.Goals as goal

pub loop-word-preserved : goal.loop-word-preserved
loop-word-preserved c = λ x.
    let i = c.loop-word.word-index in
    let y : Word = get_or c.args.words.now i (record { index = 0 }) in
    let view = word_view (tokens_view c.args.tokens.now) in
    let before = map name_of (words_view (tokens_view c.args.tokens.now) (take i c.args.words.now)) in
    let old = contains same_name c.args.names.now x in
    c.in_ok-insert_word.ensures x
    ∙ ap (λ b. b || same_name x (name_of (view y))) (c.loop-word.invariant x)
    ∙ or_assoc old (is_among x before) (same_name x (name_of (view y)))
    ∙ ap (λ b. old || b) (any_next (same_name x) before (name_of (view y))
    ∙ ap (is_among x) (sym (ap (map name_of) (map_at view c.args.words.now i (record { index = 0 }) (omega arith))
    ∙ map-append name_of (map view (take i c.args.words.now)) (view y ∷ []))))
