-- Names that stand twice, one word after the other: `seen_after-append`, `faults_next`.
use Rattle.std.proofs.Common.{◌≡◌, ◌+◌, ◌++◌, [], ◌∷◌, map, take, get_or, arith, sym, ap, ◌∙◌, subst}
use Rattle.elm_tree.specs.View.{word_view, words_view}
use Rattle.elm_tree.specs.Turns.{tokens_view}
use Rattle.elm_tree.specs.declared.tree.Word.{Word}
use Rattle.canon_env.specs.Sites.{at_word, repeats}
use Rattle.canon_env.specs.Repeats.{IsSeen, seen_after}
use Rattle.canon_env.proofs.Repeating.{map_at, seen_after-append, faults_next}
use Rattle.canon_env.proofs.repeats.push_repeats.Goals as goal

pub loop-word-preserved : goal.loop-word-preserved
loop-word-preserved c =
    let tokens = tokens_view c.args.tokens.now in
    let i = c.loop-word.word-index in
    let before = words_view tokens (take i c.args.words.now) in
    let x : Word = get_or c.args.words.now i (record { index = 0 }) in
    let w = word_view tokens x in
    let next : words_view tokens (take (i + 1) c.args.words.now) ≡ before ++ w ∷ [] =
    map_at (word_view tokens) c.args.words.now i (record { index = 0 }) (omega arith) in
    let seen = c.loop-word.invariant.0 in (
      subst (λ ws. IsSeen c.push_repeat.new.seen (seen_after [] ws)) (sym next)
          (subst (IsSeen c.push_repeat.new.seen) (sym (seen_after-append [] before w))
          (c.in_ok-push_repeat.ensures.seen (seen_after [] before) seen)),
      faults_next (at_word c.args.code) c.args.findings.now.items c.loop-word.findings.items c.push_repeat.new.findings.items
          before w c.loop-word.invariant.1 (c.in_ok-push_repeat.ensures.findings (seen_after [] before) seen)
          ∙ ap (λ ws. c.args.findings.now.items ++ map (at_word c.args.code) (repeats ws)) (sym next),
    )
