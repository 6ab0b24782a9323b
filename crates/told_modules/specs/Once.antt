-- The constructors and ports of a module in which no fault was found: no two have one name.
use Rattle.std.specs.Prelude.{◌≡◌, [], false, Some}
use Rattle.std.specs.Map.{lookup}
use Rattle.std.specs.Str.{bytes_eq}
use Rattle.elm_tree.specs.Tree as tree
use Rattle.elm_canon.specs.Names.{Name}
use Rattle.elm_canon.specs.Tree as canon
use Rattle.elm_canon.specs.Tree.{Annotation}
use Rattle.elm_canon.specs.declared.reference.Ref.TheVariants.{Top}
use Rattle.canon_module.specs.Resolve.{Setting, IsModule, module_faults}
use Rattle.module_proper.specs.Modules.{AreRead}
use Rattle.type_items.specs.Expressions.{definitions}
use Rattle.type_items.specs.Modules.{Annotated, declared}
use Rattle.typed_values.specs.Simple.{defines}
use Rattle.typed_values.specs.World.{Among}
use Rattle.type_safety.specs.Modules.{groups_in}

-- each is found by its name
abbrev pub DeclaredOnce : Type 0
DeclaredOnce =
    (s : Setting) (t : tree.Module) (m : canon.Module) → IsModule s t.declarations m → AreRead s.home t.declarations
    → module_faults s t m ≡ [] → (d : Annotated) → Among d (declared m) → lookup (bytes_eq d.0) (declared m) ≡ Some d.1

-- and no definition of the module has its name
abbrev pub NoneDefined : Type 0
NoneDefined =
    (s : Setting) (t : tree.Module) (m : canon.Module) → IsModule s t.declarations m → AreRead s.home t.declarations
    → module_faults s t m ≡ [] → (x : Name) (a : Annotation) → lookup (bytes_eq x) (declared m) ≡ Some a
    → defines (definitions (groups_in m.declarations)) (Top s.home x) ≡ false
