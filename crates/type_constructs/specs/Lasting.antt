-- The types of the names of a module. The type of a name is told when its group is done, and it lasts: later groups have
-- places of their own, and what they ask can be met whatever type the name has there.
use Rattle.std.specs.Prelude.{◌≡◌, ℕ, List, [], true, Option, Some, None}
use Rattle.std.specs.List.{AllByRecursion, Contains, enumerate_from}
use Rattle.elm_canon.specs.declared.reference.Ref.{Ref}
use Rattle.elm_canon.specs.Tree.{Annotation, Module}
use Rattle.elm_type.specs.Types.{Scheme}
use Rattle.elm_type.specs.Schemes.{rename}
use Rattle.elm_type.specs.Classes.{Ground}
use Rattle.elm_type.specs.Ground.{value}
use Rattle.type_items.specs.Items.{Place, child, Wanted, Item}
use Rattle.type_items.specs.Solutions.{Solves}
use Rattle.type_items.specs.Scopes.{Entry, Known, one_type}
use Rattle.type_items.specs.Annotations.{annotation_scheme}
use Rattle.type_items.specs.Definitions.{Definition, in_written_order, type_groups, group_types}
use Rattle.type_items.specs.Modules.{known_in, module_definitions}
use Rattle.type_items.specs.Principal.{HasType, unscoped, IsInstance, Outside, is_formed}
use Rattle.type_items.specs.Inferred.{Schemes, first_annotation}
use Rattle.type_store.specs.Store.{Store}
use Rattle.type_walks.specs.Regions.{Region}
use Rattle.type_walks.specs.Links.{Types, AreGround, Links, Carries, Has}
use Rattle.type_walks.specs.Told.{start}
use Rattle.type_constructs.specs.Passing.{Ready}
use Rattle.type_constructs.specs.Texts.{Tells}

-- types of a region, with which the items are solved and t is this ground type, whatever stands at other places
pub record Reaches (p : Place) (R : Region) (items : List Item) (t : Wanted) (g : Ground) : Type 0 where
  pub types : Types
  pub ground : AreGround types
  pub has : (all : Types) → Carries R all types → value all t ≡ g
  pub solves : (all : Types) → Carries R all types → Solves all (unscoped items)
  pub kept : Outside p g → (all : Types) → Carries R all types → Solves all items

-- The types that t has are the instances of the scheme.
pub record Lasts (p : Place) (R : Region) (items : List Item) (t : Wanted) (scheme : Scheme) : Type 0 where
  pub formed : is_formed scheme.kinds scheme.type ≡ true
  pub most : (g : Ground) → HasType (unscoped items) t g → IsInstance scheme g
  pub each : (g : Ground) → IsInstance scheme g → Reaches p R items t g

-- a type, and its scheme
abbrev pub Telling : Type 0
Telling = Wanted × Scheme

-- After the first groups of a module: the store stands for their items, and the schemes that were told are those of
-- their types.
pub record Inferring (p : Place) (R Q : Region) (items : List Item) (s : Store) (told : List Telling) : Type 0 where
  pub ready : Ready p start R Q items s []
  pub lasts : AllByRecursion (λ t. Lasts p R items t.0 t.1) told

-- a variable of the store has the type, and the store tells the scheme
pub record IsTold (s : Store) (links : Links) (t : Telling) : Type 0 where
  pub variable : ℕ
  pub has : Has links variable t.0
  pub tells : Tells s variable t.1

-- ---- the names of a module

-- a name has one of the schemes that were told, with its variables in order of appearance
pub record HasTold (told : List Telling) (scheme : Option Scheme) (t : Wanted) : Type 0 where
  pub telling : Telling
  pub there : Contains told telling
  pub type : telling.0 ≡ t
  pub is : scheme ≡ Some (rename telling.1)

abbrev pub NameHasTold : List Telling → Schemes → Ref × Entry → Type 0
NameHasTold told schemes n = AllByRecursion (HasTold told (schemes n.0)) (one_type n.1)

-- of a group: definitions without annotations, or one with its annotation
abbrev pub GroupHasTold : List Telling → Schemes → Known → Place → Option Annotation → List Definition → Type 0
GroupHasTold told schemes known q None ds = AllByRecursion (NameHasTold told schemes) (group_types ds known q)
GroupHasTold told schemes known q (Some a) ds =
    AllByRecursion (λ d. AllByRecursion (λ x. schemes x ≡ Some (rename (annotation_scheme a))) d.names) ds

abbrev pub ModuleHasTold : Module → Known → Place → List Telling → Schemes → Type 0
ModuleHasTold module_ env p told schemes =
    AllByRecursion
    (λ g. GroupHasTold told schemes (known_in module_ env) (child p g.0) (first_annotation g.1) g.1)
    (enumerate_from 0 (type_groups (in_written_order (module_definitions module_))))
