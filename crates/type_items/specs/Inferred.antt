-- What inference tells of a module: the principal types of its names, or the first bad item.
use Rattle.std.specs.Prelude.{◌≡◌, List, [], ◌∷◌, Option, Some, None}
use Rattle.std.specs.List.{AllByRecursion, enumerate_from}
use Rattle.elm_base.specs.declared.position.Pos.{Pos}
use Rattle.elm_base.specs.declared.fault.Code.{Code}
use Rattle.elm_canon.specs.declared.reference.Ref.{Ref}
use Rattle.elm_canon.specs.Tree.{Annotation, Module}
use Rattle.elm_type.specs.Types.{Name, Scheme}
use Rattle.elm_type.specs.Schemes.{rename}
use Rattle.type_items.specs.Items.{Place, child, Wanted, Item}
use Rattle.type_items.specs.Scopes.{Entry, one_type, Known}
use Rattle.type_items.specs.Annotations.{annotation_scheme}
use Rattle.type_items.specs.Definitions.{Definition, in_written_order, type_groups, group_types}
use Rattle.type_items.specs.Modules.{known_in, module_definitions, module_items}
use Rattle.type_items.specs.Principal.{IsPrincipal}
use Rattle.type_items.specs.Faults.{Typable, FirstBad}

-- the schemes that are told
abbrev pub Schemes : Type 0
Schemes = Ref → Option Scheme

-- a name without an annotation has its principal type, with the variables in order of appearance
pub record HasPrincipal (p : Place) (items : List Item) (told : Option Scheme) (t : Wanted) : Type 0 where
  pub scheme : Scheme
  pub is : told ≡ Some scheme
  pub ordered : rename scheme ≡ scheme
  pub principal : IsPrincipal p items t scheme

abbrev pub NameHasScheme : Place → List Item → Schemes → Ref × Entry → Type 0
NameHasScheme p items schemes n = AllByRecursion (HasPrincipal p items (schemes n.0)) (one_type n.1)

-- of a type group at its place: one definition with an annotation, which is its type, or some without
abbrev pub GroupHasSchemes : Place → List Item → Schemes → Known → Place → Option Annotation → List Definition → Type 0
GroupHasSchemes p items schemes known q None ds =
    AllByRecursion (NameHasScheme p items schemes) (group_types ds known q)
GroupHasSchemes p items schemes known q (Some a) ds =
    AllByRecursion (λ d. AllByRecursion (λ x. schemes x ≡ Some (rename (annotation_scheme a))) d.names) ds

abbrev pub first_annotation : List Definition → Option Annotation
first_annotation [] = None
first_annotation (d ∷ ds) = d.annotation

-- the module at the place p is typable, and its names have these schemes
pub record Inferred (module_ : Module) (env : Known) (p : Place) (schemes : Schemes) : Type 0 where
  pub typable : Typable p (module_items module_ env p)
  pub types : AllByRecursion
      (λ g. GroupHasSchemes p (module_items module_ env p) schemes (known_in module_ env) (child p g.0)
      (first_annotation g.1) g.1)
      (enumerate_from 0 (type_groups (in_written_order (module_definitions module_))))

-- or this is its fault
pub record Refused (module_ : Module) (env : Known) (p : Place) (code : Code) (pos : Pos) (detail : Name) : Type 0 where
  pub bad : FirstBad p (module_items module_ env p) code pos detail
