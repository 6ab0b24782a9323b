-- What a scope says, and what is left of it when names go out of scope.
use Rattle.std.specs.Prelude.{List, [], ◌∷◌, if◌then◌else◌}
use Rattle.indexmap.specs.IndexMap.{get}
use Rattle.elm_canon.specs.Names.{same_name}
use Rattle.canon_env.specs.Locals.{Locals}
use Rattle.canon_expr.specs.declared.scope.Scope.{Scope}
use Rattle.canon_expr.specs.declared.scope.Entered.{Entered}

-- where each local name is bound
unfoldable pub locals_of : Scope → Locals
locals_of scope x = get same_name scope.places x

-- the local names once these have gone, of which the first was entered first
unfoldable pub without : List Entered → Locals → Locals
without [] locals x = locals x
without (e ∷ es) locals x = if same_name e.name x then e.outer else without es locals x
