use Rattle.std.proofs.Common.{◌≡◌, ℕ, List, length, map, take}
use Rattle.elm_tree.specs.View.{definition_view}
use Rattle.elm_tree.specs.Turns.{tokens_view}
use Rattle.canon_env.specs.Naming.{World}
use Rattle.canon_expr.specs.Logs.{Grows}
use Rattle.canon_expr.specs.Binding.{defined_by}
use Rattle.canon_expr.specs.Blocks.{reaching_sites}
use Rattle.canon_expr.specs.Kept.{IsOrderOf}
use Rattle.canon_expr.proofs.reaching.note_reaching.Given as goal

abbrev pub invariant-loop-number : goal.invariant-loop-number
invariant-loop-number l =
    (w : World) (uses : List (List ℕ)) → IsOrderOf l.order uses → length uses ≡ length l.definitions →
    Grows w l.initial.log l.log (reaching_sites uses
    (map defined_by (map (definition_view (tokens_view l.tokens)) (take l.number l.definitions))))
