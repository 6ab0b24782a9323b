-- What modules declare without a body and what they offer to others, with their types.
use Rattle.std.specs.Prelude.{List, [], ◌∷◌, ◌++◌, Option, Some, None, map, flat_map}
use Rattle.std.specs.List.{AllByRecursion}
use Rattle.elm_canon.specs.Tree.{Annotation, Annotations, Module}
use Rattle.elm_type.specs.Types.{Name, Scheme}
use Rattle.interface.specs.Interface.{Interface}
use Rattle.type_items.specs.Annotations.{annotation_scheme}
use Rattle.type_items.specs.Modules.{Annotated, function_to, union_makers, alias_makers, declared}
use Rattle.infer_steps.specs.Ready.{IsWritten}
use Rattle.infer_types.specs.Once.{FieldsOnce}

abbrev pub Typed : Type 0
Typed = Name × Scheme

abbrev pub as_scheme : Annotated → Typed
as_scheme d = (d.0, annotation_scheme d.1)

-- a constructor of a union that makes this, if there are types of its fields
abbrev pub maker_at : Annotation → Name → Option Annotations → List Annotated
maker_at made x None = []
maker_at made x (Some ts) = (x, function_to ts made) ∷ []

-- ---- what a module declares without a body

-- each record that its types write has its fields once
abbrev pub DeclaredOnce : Module → Type 0
DeclaredOnce module_ = AllByRecursion (λ d. FieldsOnce d.1) (declared module_)

-- ---- what a module offers: its values with their types, and the constructors of its unions and aliases

abbrev pub offered : Name → Interface → List Typed
offered home i =
    map (λ v. (v.name, v.scheme)) i.values
    ++ map as_scheme (flat_map (union_makers home) i.unions ++ flat_map alias_makers i.aliases)

-- these types have no constants and can be written into a store
abbrev pub OfferedWritten : Name → Interface → Type 0
OfferedWritten home i = AllByRecursion (λ t. IsWritten t.1.kinds t.1) (offered home i)
