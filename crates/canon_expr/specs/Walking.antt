-- Where the walk stands.
use Rattle.std.specs.Prelude.{◌≡◌}
use Rattle.canon_env.specs.declared.env.World as program
use Rattle.canon_env.specs.Naming.{World, IsWorld}
use Rattle.canon_env.specs.Locals.{Locals}
use Rattle.canon_expr.specs.Scope.{locals_of}
use Rattle.canon_expr.specs.declared.scope.Scope.{Scope}

-- in a module that can name w's names, where these local names are in scope
pub record StandsIn (world : program.World) (scope : Scope) (w : World) (locals : Locals) : Type 0 where
  pub is_world : IsWorld world w
  pub in_scope : locals_of scope ≡ locals
