-- Principal types in one form: a type's variables stand in order of appearance, and the fields that each lacks by their
-- names.
use Rattle.std.specs.Prelude.{◌≡◌, ℕ, List, map, Option, Some, None}
use Rattle.std.specs.List.{AllByRecursion, enumerate_from}
use Rattle.elm_canon.specs.declared.reference.Ref.{Ref}
use Rattle.elm_canon.specs.Tree.{Annotation, Module}
use Rattle.elm_type.specs.Types.{ElmType, Leaf, Kind, Scheme}
use Rattle.elm_type.specs.Schemes.{rename}
use Rattle.type_items.specs.Items.{Place, child, Wanted, Item}
use Rattle.type_items.specs.Scopes.{Known, one_type}
use Rattle.type_items.specs.Definitions.{Definition, in_written_order, type_groups, group_types}
use Rattle.type_items.specs.Modules.{known_in, module_definitions}
use Rattle.type_items.specs.Principal.{IsPrincipal, is_formed}
use Rattle.type_items.specs.Inferred.{Schemes, first_annotation, Inferred}
use Rattle.elm_type.specs.Order.{kind_in_order, scheme_in_order}

-- two principal types of the same have one form
abbrev pub OneForm : Type 0
OneForm =
    (p : Place) (items : List Item) (t : Wanted) (s u : Scheme) → IsPrincipal p items t s → IsPrincipal p items t u
    → rename s ≡ s → rename u ≡ u → scheme_in_order s ≡ scheme_in_order u

-- what records end in lacks the same fields as before
abbrev pub SameFormed : Type 0
SameFormed = (kinds : List Kind) (t : ElmType (Leaf ℕ)) → is_formed (map kind_in_order kinds) t ≡ is_formed kinds t

-- ---- what is told of a module

abbrev pub OneFormOf : Schemes → Schemes → Ref → Type 0
OneFormOf first second x =
    (s u : Scheme) → first x ≡ Some s → second x ≡ Some u → scheme_in_order s ≡ scheme_in_order u

-- of a type group at its place: some definitions without an annotation, or one with it
abbrev pub GroupHasOneForm : Schemes → Schemes → Known → Place → Option Annotation → List Definition → Type 0
GroupHasOneForm first second known q None ds =
    AllByRecursion (λ n. AllByRecursion (λ t. OneFormOf first second n.0) (one_type n.1)) (group_types ds known q)
GroupHasOneForm first second known q (Some a) ds =
    AllByRecursion (λ d. AllByRecursion (OneFormOf first second) d.names) ds

abbrev pub OneFormTold : Type 0
OneFormTold =
    (module_ : Module) (env : Known) (p : Place) (first second : Schemes)
    → Inferred module_ env p first → Inferred module_ env p second
    → AllByRecursion
    (λ g. GroupHasOneForm first second (known_in module_ env) (child p g.0) (first_annotation g.1) g.1)
    (enumerate_from 0 (type_groups (in_written_order (module_definitions module_))))
