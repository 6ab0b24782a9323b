use Rattle.std.proofs.Common.{◌≡◌, ℕ, List, length, map, take}
use Rattle.elm_tree.specs.View.{declaration_view}
use Rattle.elm_tree.specs.Turns.{tokens_view}
use Rattle.canon_env.specs.Naming.{World}
use Rattle.canon_expr.specs.Logs.{Grows}
use Rattle.canon_expr.specs.Blocks.{reaching_sites}
use Rattle.canon_expr.specs.Kept.{IsOrderOf}
use Rattle.canon_module.specs.CanonValuesFaults.{defined_top}
use Rattle.canon_module.proofs.reaching.note_reaching.Given as goal

abbrev pub invariant-loop-number : goal.invariant-loop-number
invariant-loop-number l =
    (w : World) (uses : List (List ℕ)) → IsOrderOf l.order uses → length uses ≡ length l.declarations →
    Grows w l.initial.log l.log (reaching_sites uses
    (map defined_top (map (declaration_view (tokens_view l.tokens)) (take l.number l.declarations))))
