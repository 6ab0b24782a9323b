-- What is told of the names of a type group after its walk.
use Rattle.std.specs.Prelude.{◌≡◌, ℕ, List, ◌++◌, map, Option, Some, None}
use Rattle.std.specs.List.{AllZip}
use Rattle.elm_canon.specs.declared.reference.Ref.{Ref}
use Rattle.elm_canon.specs.Tree.{Annotation}
use Rattle.elm_type.specs.Types.{Scheme}
use Rattle.elm_type.specs.Schemes.{rename}
use Rattle.elm_type.specs.View.{scheme_view}
use Rattle.type_items.specs.Items.{child}
use Rattle.type_items.specs.Annotations.{annotation_scheme}
use Rattle.type_items.specs.Definitions.{Definition, list_group}
use Rattle.type_items.specs.Inferred.{first_annotation}
use Rattle.type_store.specs.Store.{Store}
use Rattle.type_schemes.specs.Schemes.{HasScheme}
use Rattle.infer_steps.specs.Codes.{Code, State}
use Rattle.infer_groups.specs.Defined.{Defined, group_places}
use Rattle.infer_groups.specs.Members.{Named, GroupDone}
use Rattle.infer.specs.declared.told.Told.{Told}
use Rattle.infer.specs.Names.{names_of}

-- a name with its type
abbrev pub Typed : Type 0
Typed = Ref × Scheme

abbrev pub told_view : Told → Typed
told_view t = (t.name, scheme_view t.scheme)

abbrev pub told_views : List Told → List Typed
told_views ts = map told_view ts

-- ---- read off a store

-- a name of a group, and the scheme of its variable
abbrev pub HasItsScheme : Store → Named → Typed → Type 0
HasItsScheme s n t = (t.0 ≡ n.0) × HasScheme s n.1 t.1

-- those of names were added
pub record AddsSchemes (s : Store) (names : List Named) (old new : List Typed) : Type 0 where
  pub more : List Typed
  pub added : new ≡ old ++ more
  pub each : AllZip (HasItsScheme s) names more

-- ---- of a group

-- its members were walked, and then the schemes of its names were read off the store
pub record NamesTold (code : Code) (g : List Definition) (i : ℕ) (old new : State) (more : List Typed) : Type 0 where
  pub names : List Named
  pub inner : State
  pub done : GroupDone code g i names old inner
  pub store : new.store ≡ inner.store
  pub each : AllZip (HasItsScheme new.store) names more

-- each name has the type of the annotation
abbrev pub written_types : Annotation → List Definition → List Typed
written_types a g = map (λ x. (x, rename (annotation_scheme a))) (names_of g)

abbrev pub IsToldAs : Option Annotation → Code → List Definition → ℕ → State → State → List Typed → Type 0
IsToldAs None code g i old new more = NamesTold code g i old new more
IsToldAs (Some a) code g i old new more = more ≡ written_types a g

-- the group of the number i was walked, and its names were told
pub record GroupIsTold (code after : Code) (g : List Definition) (i : ℕ) (old new : State) (before told : List Typed)
    : Type 0 where
  pub defined : Defined code after (λ q. group_places (child q i)) (λ scope q. list_group g scope (child q i)) old new
  pub more : List Typed
  pub added : told ≡ before ++ more
  pub is : IsToldAs (first_annotation g) code g i old new more
