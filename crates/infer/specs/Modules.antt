-- Modules whose types can be inferred: what the resolution of names gives. And types that other modules can be told.
use Rattle.std.specs.Prelude.{◌≡◌, List, [], ◌∷◌, flat_map, Some}
use Rattle.elm_canon.specs.Tree.{Module, Group, Declaration, Given, Define, groups_of}
use Rattle.elm_canon.specs.declared.reference.Ref.{Ref}
use Rattle.elm_canon.specs.Proper.{Scope}
use Rattle.elm_canon.specs.Declarations.{ProperDeclarations}
use Rattle.elm_type.specs.Types.{Scheme}
use Rattle.type_items.specs.Inferred.{Schemes}
use Rattle.type_items.specs.Items.{Place}
use Rattle.infer_steps.specs.Ready.{IsWritten}
use Rattle.infer_parts.specs.Formed.{FormedGroups}
use Rattle.infer.specs.Known.{DeclaredOnce}

-- where the definitions of a module stand in its tree of types: below a first place, where no constant of it stands
abbrev pub root : Place
root = 0 ∷ []

-- the group that a declaration defines, if it does
abbrev pub groups_in : Declaration → List Group
groups_in (Given x known) = []
groups_in (Define g) = g ∷ []

abbrev pub written_groups : Module → List Group
written_groups module_ = flat_map groups_in module_.declarations

-- Its declarations are proper in order, each record that it writes has its fields once, and each operation has its
-- parts.
pub record CanInfer (module_ : Module) : Type 0 where
  pub scope : Scope
  pub proper : ProperDeclarations scope module_.declarations
  pub declared : DeclaredOnce module_
  pub formed : FormedGroups (groups_of (flat_map groups_in module_.declarations))

-- they have no constants and can be written into a store: where other modules use these names, inference knows them
abbrev pub SchemesWritten : Schemes → Type 0
SchemesWritten schemes = (x : Ref) (s : Scheme) → schemes x ≡ Some s → IsWritten s.kinds s
