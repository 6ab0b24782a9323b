use Rattle.std.proofs.Common.{◌≡◌, List, [], ◌∷◌, ◌++◌, length, take}
use Rattle.elm_tree.specs.Tree.{Word}
use Rattle.elm_tree.specs.View.{words_view}
use Rattle.elm_tree.specs.Turns.{tokens_view}
use Rattle.canon_expr.specs.Kept.{Binds}
use Rattle.canon_expr.proofs.binders.Binders.add.Given as goal

abbrev pub invariant-loop-word : goal.invariant-loop-word
invariant-loop-word l =
    (each : List (List Word)) → length each ≡ l.number → Binds l.initial.self each →
    Binds l.self (each ++ words_view (tokens_view l.tokens) (take l.word-index l.words) ∷ [])
