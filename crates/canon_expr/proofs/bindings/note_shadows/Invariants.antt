use Rattle.std.proofs.Common.{map, take}
use Rattle.elm_tree.specs.View.{words_view}
use Rattle.elm_tree.specs.Turns.{tokens_view}
use Rattle.canon_env.specs.Naming.{World, IsWorld}
use Rattle.canon_env.specs.Sites.{Binding}
use Rattle.canon_expr.specs.Scope.{locals_of}
use Rattle.canon_expr.specs.Logs.{Grows}
use Rattle.canon_expr.proofs.bindings.note_shadows.Given as goal

abbrev pub invariant-loop-word : goal.invariant-loop-word
invariant-loop-word l =
    (w : World) → IsWorld l.world w →
    Grows w l.initial.log l.log
    (map (Binding (locals_of l.scope)) (words_view (tokens_view l.tokens) (take l.word-index l.words)))
