use Rattle.std.proofs.Common.{map, take}
use Rattle.elm_tree.specs.View.{definition_view}
use Rattle.elm_tree.specs.Turns.{tokens_view}
use Rattle.canon_expr.specs.Binding.{bound_by}
use Rattle.canon_expr.specs.Kept.{Binds}
use Rattle.canon_expr.proofs.binders.Binders.of.Given as goal

abbrev pub invariant-loop-number : goal.invariant-loop-number
invariant-loop-number l =
    Binds l.binders (map bound_by (map (definition_view (tokens_view l.tokens)) (take l.number l.definitions)))
