-- A module in the middle of inference, as the program has it: so many of its type groups were walked.
use Rattle.std.specs.Prelude.{◌≡◌, ℕ, List, [], map, flat_map, take, drop, Option, Some, None}
use Rattle.std.specs.List.{AllByRecursion, Contains, enumerate_from}
use Rattle.elm_canon.specs.declared.reference.Ref.{Ref}
use Rattle.elm_canon.specs.Tree.{Annotation, Group, Module, groups_of}
use Rattle.elm_type.specs.Schemes.{rename}
use Rattle.type_items.specs.Items.{Place, child, Wanted, Item}
use Rattle.type_items.specs.Scopes.{Entry, Known, Scope, one_type}
use Rattle.type_items.specs.Annotations.{annotation_scheme}
use Rattle.type_items.specs.Definitions.{Definition, group_types}
use Rattle.type_items.specs.Expressions.{definitions}
use Rattle.type_items.specs.Inferred.{first_annotation}
use Rattle.type_items.specs.Modules.{known_in, module_definitions, module_scope}
use Rattle.type_store.specs.Store.{Store}
use Rattle.type_walks.specs.Told.{start}
use Rattle.type_constructs.specs.Failing.{Bad, FailsAt}
use Rattle.type_constructs.specs.Lasting.{Telling}
use Rattle.type_constructs.specs.TypeModulesGroups as modules
use Rattle.type_constructs.specs.TypeModulesGroups.{first_scope, ModuleAt}
use Rattle.infer_steps.specs.Codes.{Code, State}
use Rattle.infer_steps.specs.Means.{Setting}
use Rattle.infer_steps.specs.Ready.{IsWritten}
use Rattle.infer_exprs.specs.Titles.{AnnotationOnce}
use Rattle.infer.specs.Modules.{root}
use Rattle.infer.specs.Names.{names_of}
use Rattle.infer.specs.Told.{Typed}

-- ---- what was told

-- a name has the scheme that was told of its type
pub record HasTelling (tellings : List Telling) (told : List Typed) (x : Ref) (t : Wanted) : Type 0 where
  pub telling : Telling
  pub there : Contains tellings telling
  pub type : telling.0 ≡ t
  pub listed : Contains told (x, rename telling.1)

abbrev pub NameIsTold : List Telling → List Typed → Ref × Entry → Type 0
NameIsTold tellings told n = AllByRecursion (HasTelling tellings told n.0) (one_type n.1)

-- of a group: definitions without annotations, or one with its annotation
abbrev pub GroupHas : List Telling → List Typed → Known → Place → Option Annotation → List Definition → Type 0
GroupHas tellings told known q None ds = AllByRecursion (NameIsTold tellings told) (group_types ds known q)
GroupHas tellings told known q (Some a) ds =
    AllByRecursion (λ d. AllByRecursion (λ x. Contains told (x, rename (annotation_scheme a))) d.names) ds

abbrev pub GroupsHave : List Telling → List Typed → Known → List (ℕ × List Definition) → Type 0
GroupsHave tellings told known groups =
    AllByRecursion (λ g. GroupHas tellings told known (child root g.0) (first_annotation g.1) g.1) groups

-- ---- so many groups

-- nothing is in the store, and no name of the module in scope
pub record Starts (module_ : Module) (env : Known) (gs : List Group) (code : Code) (state : State) : Type 0 where
  pub groups : definitions (groups_of gs) ≡ module_definitions module_
  pub setting : Setting start [] code (module_scope module_ env) state
  pub store : state.store ≡ []
  pub place : state.place ≡ root

-- the names with annotations are in scope, and no group was walked
pub record Begun (module_ : Module) (env : Known) (gs : List Group) (code : Code) (state : State) : Type 0 where
  pub groups : definitions (groups_of gs) ≡ module_definitions module_
  pub at : ModuleAt module_ env root (modules.groups_of module_) 0 (first_scope module_ env) state.store []
  pub setting : Setting start [] code (first_scope module_ env) state
  pub place : state.place ≡ root

-- so many groups were walked, and these types were told
pub record Middle (module_ : Module) (env : Known) (k : ℕ) (code : Code) (state : State) (told : List Typed) : Type 0 where
  pub scope : Scope
  pub known : scope.known ≡ known_in module_ env
  pub tellings : List Telling
  pub at : ModuleAt module_ env root (drop k (modules.groups_of module_)) k scope state.store tellings
  pub setting : Setting start [] code scope state
  pub place : state.place ≡ root
  pub have : GroupsHave tellings told (known_in module_ env) (enumerate_from 0 (take k (modules.groups_of module_)))
  pub names : map (λ t. t.0) told ≡ flat_map names_of (take k (modules.groups_of module_))
  pub written : AllByRecursion (λ t. IsWritten t.1.kinds t.1) told

-- ---- what a module's definitions need

-- each record that an annotation writes has its fields once
abbrev pub AnnotationsOnce : List Definition → Type 0
AnnotationsOnce ds = AllByRecursion (λ d. AnnotationOnce d.annotation) ds

-- ---- where a module stops

pub record StopsSomewhere (bad : Bad) (s : Store) : Type 0 where
  pub items : List Item
  pub fails : FailsAt root items bad s
