-- Where a definition with an annotation passes, and where it fails.
use Rattle.std.specs.Prelude.{◌≡◌, ℕ, ◌<◌, ◌≤◌, List, ◌∷◌, ◌++◌, Option}
use Rattle.std.specs.List.{AllByRecursion, Contains}
use Rattle.elm_canon.specs.Tree.{Annotation}
use Rattle.elm_type.specs.Types.{Scheme, size}
use Rattle.type_items.specs.Items.{Place}
use Rattle.type_items.specs.Scopes.{Scope, Constants}
use Rattle.type_items.specs.Annotations.{own_constants, fixed_type}
use Rattle.type_items.specs.Definitions.{Definition, outer_types, annotated_items}
use Rattle.type_items.specs.Faults.{limit}
use Rattle.type_store.specs.Store.{Constant, Store, slot_at}
use Rattle.type_store.specs.Shape.{IsStore}
use Rattle.type_walks.specs.Links.{Links, Has, Live}
use Rattle.type_walks.specs.Walks.{Around, Walk}
use Rattle.type_schemes.specs.Constants.{Own, own_links, within, Outer}
use Rattle.type_walks.specs.Told.{Told}
use Rattle.type_constructs.specs.Passing.{Passes}
use Rattle.type_constructs.specs.Failing.{Keeps, Large, Bad, Fails}
use Rattle.type_constructs.specs.Annotated.{IsDeep, AllFixed}
use Rattle.type_constructs.specs.Entering.{type_inside, body_items, body_places, all_places, Enters}

-- all variables of an annotation are constants inside its definition
abbrev pub FixesTypes : Type 0
FixesTypes =
    (around : Constants) (p : Place) (annotation : Annotation)
    → AllFixed (fixed_type (own_constants around p annotation ++ around) p annotation)

-- the body was walked and passes
pub record Done (a : Around) (p : Place) (d : Definition) (annotation : Annotation) (scope : Scope) (own : List Own)
    (s opened walked : Store) (links after : Links) : Type 0 where
  pub whole : IsStore walked
  pub enters : Enters a p annotation scope own s opened
  pub outer : AllByRecursion (Outer a.depth s links) (outer_types scope)
  pub walk : Walk (within a own) (body_places p) (body_items d annotation scope p) opened (own_links p own ++ links)
      walked after
  pub passes : Passes (within a own) opened (own_links p own ++ links) (body_places p)
      (body_items d annotation scope p)

-- and no constant is in a type of what is around; the store tells the scheme of the definition's type
pub record StaysInside (a : Around) (p : Place) (annotation : Annotation) (scope : Scope) (own : List Own) (walked : Store)
    (after : Links) (v : ℕ) (scheme : Scheme) : Type 0 where
  pub deep : AllByRecursion (IsDeep a.depth walked) own
  pub has : Has after v (type_inside annotation scope p)
  pub place : ℕ → ℕ
  pub number : ℕ → Option ℕ
  pub told : Told walked v scheme place number

-- the type is small
abbrev pub DefinitionPasses : Type 0
DefinitionPasses =
    (a : Around) (p : Place) (d : Definition) (annotation : Annotation) (scope : Scope) (own : List Own)
    (s opened walked : Store) (links after : Links) (v : ℕ) (scheme : Scheme)
    → Done a p d annotation scope own s opened walked links after
    → StaysInside a p annotation scope own walked after v scheme → size scheme.type ≤ limit
    → Passes a s links (all_places p) (annotated_items d annotation scope p)

-- the type is too large
abbrev pub DefinitionLarge : Type 0
DefinitionLarge =
    (a : Around) (p : Place) (d : Definition) (annotation : Annotation) (scope : Scope) (own : List Own)
    (s opened walked s' : Store) (links after : Links) (v : ℕ) (scheme : Scheme)
    → Done a p d annotation scope own s opened walked links after
    → StaysInside a p annotation scope own walked after v scheme → limit < size scheme.type
    → Fails a s links (all_places p) (annotated_items d annotation scope p) (Large d.place v) s'

-- the body fails
abbrev pub DefinitionStops : Type 0
DefinitionStops =
    (a : Around) (p : Place) (d : Definition) (annotation : Annotation) (scope : Scope) (own : List Own)
    (s opened s' : Store) (links : Links) (bad : Bad)
    → Enters a p annotation scope own s opened
    → Fails (within a own) opened (own_links p own ++ links) (body_places p) (body_items d annotation scope p) bad s'
    → Fails a s links (all_places p) (annotated_items d annotation scope p) bad s'

-- a constant is in a type of what is around, and it is the first one
abbrev pub DefinitionEscapes : Type 0
DefinitionEscapes =
    (a : Around) (p : Place) (d : Definition) (annotation : Annotation) (scope : Scope) (own earlier later : List Own)
    (o : Own) (s opened walked s' : Store) (links after : Links) (u : ℕ)
    → IsStore s → Done a p d annotation scope own s opened walked links after
    → AllByRecursion (λ l. Contains (outer_types scope) l.1) links
    → own ≡ earlier ++ o ∷ later → AllByRecursion (IsDeep a.depth walked) earlier
    → (slot_at walked u).cell ≡ Constant o.rigid → Live a.depth walked u
    → Fails a s links (all_places p) (annotated_items d annotation scope p) (Keeps d.place o.rigid.name) s'
