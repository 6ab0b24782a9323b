-- What inference tells of a module is determined.
use Rattle.std.specs.Prelude.{◌≡◌, List, Option, Some, None}
use Rattle.std.specs.List.{AllByRecursion, enumerate_from}
use Rattle.elm_base.specs.declared.position.Pos.{Pos}
use Rattle.elm_base.specs.declared.fault.Code.{Code}
use Rattle.elm_canon.specs.declared.reference.Ref.{Ref}
use Rattle.elm_canon.specs.Tree.{Annotation, Module}
use Rattle.elm_type.specs.Types.{Name, Scheme}
use Rattle.type_items.specs.Items.{Place, child}
use Rattle.type_items.specs.Scopes.{Known, one_type}
use Rattle.type_items.specs.Definitions.{Definition, in_written_order, type_groups, group_types}
use Rattle.type_items.specs.Modules.{known_in, module_definitions}
use Rattle.type_items.specs.Inferred.{Schemes, first_annotation, Inferred, Refused}
use Rattle.type_items.specs.Uniqueness.{SameScheme}

-- no module is both inferred and refused
abbrev pub OneAnswer : Type 0
OneAnswer =
    (module_ : Module) (env : Known) (p : Place) (schemes : Schemes) (code : Code) (pos : Pos) (detail : Name)
    → Inferred module_ env p schemes → Refused module_ env p code pos detail → ⊥

-- it is refused in one way
abbrev pub OneRefusal : Type 0
OneRefusal =
    (module_ : Module) (env : Known) (p : Place) (code other : Code) (pos place : Pos) (detail text : Name)
    → Refused module_ env p code pos detail → Refused module_ env p other place text
    → (code ≡ other) × (pos ≡ place) × (detail ≡ text)

-- ---- and inferred in one way: the types of its names are the same

abbrev pub SameTold : Schemes → Schemes → Ref → Type 0
SameTold first second x = (s u : Scheme) → first x ≡ Some s → second x ≡ Some u → SameScheme s u

-- of a type group at its place: some definitions without an annotation, or one with it
abbrev pub GroupTellsTheSame : Schemes → Schemes → Known → Place → Option Annotation → List Definition → Type 0
GroupTellsTheSame first second known q None ds =
    AllByRecursion (λ n. AllByRecursion (λ t. SameTold first second n.0) (one_type n.1)) (group_types ds known q)
GroupTellsTheSame first second known q (Some a) ds =
    AllByRecursion (λ d. AllByRecursion (SameTold first second) d.names) ds

abbrev pub OneInference : Type 0
OneInference =
    (module_ : Module) (env : Known) (p : Place) (first second : Schemes)
    → Inferred module_ env p first → Inferred module_ env p second
    → AllByRecursion
    (λ g. GroupTellsTheSame first second (known_in module_ env) (child p g.0) (first_annotation g.1) g.1)
    (enumerate_from 0 (type_groups (in_written_order (module_definitions module_))))
