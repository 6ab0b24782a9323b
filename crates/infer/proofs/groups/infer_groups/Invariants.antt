use Rattle.std.proofs.Common.{map}
use Rattle.elm_canon.specs.Tree.{Module}
use Rattle.elm_canon.specs.View.{group_view}
use Rattle.type_items.specs.Scopes.{Known}
use Rattle.infer_steps.specs.View.{code_of, here}
use Rattle.infer_parts.specs.Steps.{CanWalk}
use Rattle.infer.specs.Middle.{Begun, Middle}
use Rattle.infer.specs.Told.{told_views}
use Rattle.infer.proofs.groups.infer_groups.Given as goal

abbrev pub invariant-loop-number : goal.invariant-loop-number
invariant-loop-number l = record {
  can : CanWalk (code_of l.scope) (here l.state);
  middle : (module_ : Module) (env : Known) → Begun module_ env (map (λ g. group_view g.now) l.groups)
      (code_of l.fn.scope) (here l.fn.state)
      → Middle module_ env l.number (code_of l.scope) (here l.state) (told_views l.told.items);
}
