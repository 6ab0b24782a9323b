-- One name more: `any_next`.
use Rattle.std.proofs.Common.{◌≡◌, ◌+◌, ◌||◌, ◌++◌, [], ◌∷◌, map, take, get_or, arith, sym, ap, ◌∙◌}
use Rattle.std.proofs.lemmas.List.{map-append}
use Rattle.elm_tree.specs.View.{word_view, words_view}
use Rattle.elm_tree.specs.Turns.{tokens_view}
use Rattle.elm_tree.specs.declared.tree.Word.{Word}
use Rattle.elm_canon.specs.Names.{same_name}
use Rattle.canon_env.specs.Exposing.{is_among}
use Rattle.canon_env.specs.Imports.{name_of}
use Rattle.canon_env.proofs.Filtering.{any_next}
use Rattle.canon_env.proofs.Repeating.{map_at}
use Rattle.canon_type.proofs.parameters.insert_all.Goals as goal

pub loop-word-preserved : goal.loop-word-preserved
loop-word-preserved c = λ h x.
    let tokens = tokens_view c.args.tokens.now in
    let i = c.loop-word.word-index in
    let before = words_view tokens (take i c.args.words.now) in
    let word : Word = get_or c.args.words.now i (record { index = 0 }) in
    let w = word_view tokens word in
    let next : words_view tokens (take (i + 1) c.args.words.now) ≡ before ++ w ∷ [] =
    map_at (word_view tokens) c.args.words.now i (record { index = 0 }) (omega arith) in
    c.in_ok-insert.ensures x ∙ ap (λ b. b || same_name x c.in_ok-word_name.field-0) (c.loop-word.invariant h x)
    ∙ ap (λ n. is_among x (map name_of before) || same_name x n) c.in_ok-word_name.ensures
    ∙ any_next (same_name x) (map name_of before) (name_of w)
    ∙ ap (is_among x) (sym (ap (map name_of) next ∙ map-append name_of before (w ∷ [])))
