-- Names with the module before them, as the program has them.
use Rattle.std.specs.Prelude.{◌≡◌, if◌then◌else◌, Option, None}
use Rattle.elm_tree.specs.Tree.{Pos, Long}
use Rattle.canon_env.specs.Naming.{qualifier_of, own_name}
use Rattle.canon_env.specs.Sites.{is_unqualified}
use Rattle.canon_env.specs.Locals.{Locals}
use Rattle.canon_expr.specs.declared.long.LongName.{LongName}

-- the program's names are those of x
pub record IsLong (n : LongName) (x : Long) : Type 0 where
  pub qualifier : n.qualifier ≡ qualifier_of x
  pub name : n.name ≡ own_name x
  pub unqualified : n.is_unqualified ≡ is_unqualified x

-- where the name is bound, if it is a local one
abbrev pub bound_at : Locals → Long → Option Pos
bound_at locals x = if is_unqualified x then locals (own_name x) else None
