-- One word more.
use Rattle.std.proofs.Common.{◌++◌, ◌∷◌, [], take, get_or, arith, sym, ap, ◌∙◌, append_assoc}
use Rattle.std.proofs.lemmas.List.{take_all, take_more}
use Rattle.elm_tree.specs.declared.tree.Word.{Word}
use Rattle.canon_expr.proofs.words.push_each.Goals as goal

pub loop-word-preserved : goal.loop-word-preserved
loop-word-preserved c =
    let old = c.args.words.now.items in
    let added = c.args.added.now in
    let i = c.loop-word.word-index in
    let x : Word = get_or added i (record { index = 0 }) in
    c.in_ok-put.ensures ∙ ap (λ l. l ++ x ∷ []) c.loop-word.invariant ∙ append_assoc old (take i added) (x ∷ [])
    ∙ ap (λ l. old ++ l) (sym (take_more added i (record { index = 0 }) (omega arith)))

pub returns : goal.returns
returns c =
    c.loop-word.invariant
    ∙ ap (λ l. c.args.words.now.items ++ l) (take_all c.loop-word.word-index c.args.added.now (omega arith))
