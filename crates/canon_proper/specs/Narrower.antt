-- Scopes with the same local names, one of which has fewer names of modules.
use Rattle.std.specs.Prelude.{List}
use Rattle.elm_canon.specs.Names.{Name}
use Rattle.elm_canon.specs.declared.reference.Ref.{Ref}
use Rattle.elm_canon.specs.declared.reference.Ref.TheVariants.{Local}
use Rattle.elm_canon.specs.Proper.{Scope, IsIn}

-- the second has the local names of the first, and no names but those of the first
pub record IsNarrower (a b : Scope) : Type 0 where
  pub within : (r : Ref) → IsIn r b → IsIn r a
  pub locals : (x : Name) → IsIn (Local x) a → IsIn (Local x) b

-- of these names, the second scope has those that the first has
abbrev pub KeepsAll : Scope → Scope → List Ref → Type 0
KeepsAll a b refs = (r : Ref) → IsIn r refs → IsIn r a → IsIn r b
