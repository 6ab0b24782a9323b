-- One word more.
use Rattle.std.proofs.Common.{◌≡◌, ◌+◌, List, ◌++◌, [], ◌∷◌, not, map, take, get_or, arith, sym, ap, ◌∙◌, append_assoc}
use Rattle.std.specs.Prelude.{filter}
use Rattle.std.proofs.lemmas.List.{map-append}
use Rattle.std.proofs.lemmas.List.Elements.{filter-append}
use Rattle.elm_base.specs.declared.fault.Code.{Code}
use Rattle.elm_tree.specs.Tree as plain
use Rattle.elm_tree.specs.View.{word_view, words_view}
use Rattle.elm_tree.specs.Turns.{tokens_view}
use Rattle.elm_tree.specs.declared.tree.Word.{Word}
use Rattle.canon_env.specs.Exposing.{is_among}
use Rattle.canon_env.specs.Imports.{name_of}
use Rattle.canon_env.specs.declared.finding.Finding.{Finding}
use Rattle.canon_env.specs.Sites.{at_word}
use Rattle.canon_env.proofs.Repeating.{map_at}
use Rattle.canon_type.specs.Parameters.{missing}
use Rattle.std.proofs.lemmas.List.{take_all}
use Rattle.canon_type.proofs.parameters.push_all_missing.Goals as goal

missing_more : (code : Code) (ws among : List plain.Word) (w : plain.Word) →
    missing code (ws ++ w ∷ []) among ≡ missing code ws among ++ missing code (w ∷ []) among
missing_more code ws among w =
    let test = λ (a : plain.Word). not (is_among (name_of a) (map name_of among)) in
    ap (map (at_word code)) (filter-append test ws (w ∷ []))
    ∙ map-append (at_word code) (filter test ws) (filter test (w ∷ []))

missing_next : (code : Code) (ws all among : List plain.Word) (w : plain.Word) (old mid new : List Finding) →
    all ≡ ws ++ w ∷ [] → mid ≡ old ++ missing code ws among → new ≡ mid ++ missing code (w ∷ []) among →
    new ≡ old ++ missing code all among
missing_next code ws all among w old mid new is first next =
    next ∙ ap (λ z. z ++ missing code (w ∷ []) among) first
    ∙ append_assoc old (missing code ws among) (missing code (w ∷ []) among)
    ∙ ap (λ z. old ++ z) (sym (missing_more code ws among w))
    ∙ ap (λ z. old ++ missing code z among) (sym is)

pub loop-word-preserved : goal.loop-word-preserved
loop-word-preserved c =
    let tokens = tokens_view c.args.tokens.now in
    let i = c.loop-word.word-index in
    let before = words_view tokens (take i c.args.words.now) in
    let word : Word = get_or c.args.words.now i (record { index = 0 }) in
    let among = words_view tokens c.args.among.now in
    missing_next c.args.code before (words_view tokens (take (i + 1) c.args.words.now)) among (word_view tokens word)
    c.args.findings.now.items c.loop-word.findings.items c.push_missing.new.findings.items
    (map_at (word_view tokens) c.args.words.now i (record { index = 0 }) (omega arith)) c.loop-word.invariant
    (c.in_ok-push_missing.ensures among c.in_ok-names.ensures)

pub returns : goal.returns
returns c =
    let tokens = tokens_view c.args.tokens.now in
    c.loop-word.invariant
    ∙ ap (λ l. c.args.findings.now.items
    ++ missing c.args.code (words_view tokens l) (words_view tokens c.args.among.now))
    (take_all c.loop-word.word-index c.args.words.now (omega arith))
