-- The unions of the world of a build.
use Rattle.std.specs.Prelude.{◌≡◌, negsuc, List, map, Option}
use Rattle.std.specs.List.{AllByRecursion}
use Rattle.elm_tree.specs.Tree as tree
use Rattle.elm_canon.specs.Names.{Name}
use Rattle.elm_canon.specs.Unions.{Declared}
use Rattle.elm_canon.specs.Tree as canon
use Rattle.elm_canon.specs.Tree.{UnionDeclaration, Payload}
use Rattle.elm_canon.specs.declared.unions.Tag.TheVariants.{Number}
use Rattle.elm_type.specs.Types.{variables}
use Rattle.canon_module.specs.Resolve.{Setting, IsModule}
use Rattle.typed_values.specs.World.{Constructor, Among, IsOneOf, IsNode, IsUnion}
use Rattle.build_safety.specs.Compiled.{Compiled, AreModules}
use Rattle.build_safety.specs.BuildWorlds.{constructors, unions_at, world}

-- the variables of its fields are parameters, and if it is a node of a dictionary it is as dictionaries need it
pub record IsProper (m x : Name) (k : Constructor) : Type 0 where
  pub closed : AllByRecursion (λ t. AllByRecursion (IsOneOf k.arguments) (variables t)) k.fields
  pub node : k.alternative.tag ≡ Number (negsuc 0) → IsNode m x k

abbrev pub UnionsAreSound : Type 0
UnionsAreSound =
    (cs : List Compiled) (outs ins : Name → Option Payload) → AreModules cs → (m x : Name)
    → ((k : Constructor) → Among k (unions_at cs m x) → IsProper m x k) → IsUnion (world cs outs ins) m x

abbrev pub UnionsAreDeclared : Type 0
UnionsAreDeclared =
    (s : Setting) (t : tree.Module) (m : canon.Module) → IsModule s t.declarations m → (u : UnionDeclaration)
    → Among u m.unions → u.union ≡ Declared s.home u.name (map (λ (k : Constructor). k.alternative) (constructors s.home u))
