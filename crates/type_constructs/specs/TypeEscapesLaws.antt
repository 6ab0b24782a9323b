-- Which constants of a definition are in types of what is around, from what the store says of their variables.
use Rattle.std.specs.Prelude.{◌≡◌, ℕ, List, ◌∷◌, ◌++◌, length}
use Rattle.std.specs.List.{All, AllByRecursion, Contains}
use Rattle.elm_canon.specs.Tree.{Annotation}
use Rattle.type_items.specs.Items.{Place, Item}
use Rattle.type_items.specs.Scopes.{Scope}
use Rattle.type_items.specs.Definitions.{Definition, outer_types, annotated_items}
use Rattle.type_store.specs.Store.{Constant, Store, slot_at}
use Rattle.type_store.specs.Shape.{IsStore}
use Rattle.type_walks.specs.Regions.{Region}
use Rattle.type_walks.specs.Links.{Links, Live}
use Rattle.type_walks.specs.Walks.{Around, Walk}
use Rattle.type_schemes.specs.Constants.{Own, within, Opened, IsFree}
use Rattle.type_schemes.specs.Calls.{own_slots, EscapesAt}
use Rattle.type_constructs.specs.Annotated.{IsDeep}
use Rattle.type_constructs.specs.Failing.{Keeps, Fails}
use Rattle.type_constructs.specs.Entering.{all_places}
use Rattle.type_constructs.specs.TypeAnnotationsLaws.{Done}

-- where each variable is deeper in the end, no constant is in a type of what is around
abbrev pub AllDeep : Type 0
AllDeep =
    (a : Around) (p : Place) (body : Region) (items : List Item) (own : List Own) (s opened walked : Store)
    (links after : Links)
    → IsStore walked → Opened a.depth p s own opened → Walk (within a own) body items opened links walked after
    → All (IsFree a.depth walked) (own_slots own) → AllByRecursion (IsDeep a.depth walked) own

-- the constant of the number i is the first one whose variable is no deeper
pub record FirstEscape (d : ℕ) (walked : Store) (own : List Own) (i : ℕ) : Type 0 where
  pub earlier : List Own
  pub constant : Own
  pub later : List Own
  pub split : own ≡ earlier ++ constant ∷ later
  pub number : length earlier ≡ i
  pub deep : AllByRecursion (IsDeep d walked) earlier
  pub variable : ℕ
  pub is : (slot_at walked variable).cell ≡ Constant constant.rigid
  pub low : Live d walked variable

abbrev pub FindsEscape : Type 0
FindsEscape =
    (a : Around) (p : Place) (body : Region) (items : List Item) (own : List Own) (s opened walked : Store)
    (links after : Links) (i : ℕ)
    → IsStore walked → Opened a.depth p s own opened → Walk (within a own) body items opened links walked after
    → EscapesAt a.depth walked (own_slots own) i → FirstEscape a.depth walked own i

-- A definition fails at the first one. The links are those of names in scope alone.
abbrev pub FailsEscaped : Type 0
FailsEscaped =
    (a : Around) (p : Place) (d : Definition) (annotation : Annotation) (scope : Scope) (own : List Own)
    (s opened walked s' : Store) (links after : Links) (i : ℕ)
    → IsStore s → Done a p d annotation scope own s opened walked links after
    → AllByRecursion (λ l. Contains (outer_types scope) l.1) links
    → (first : FirstEscape a.depth walked own i)
    → Fails a s links (all_places p) (annotated_items d annotation scope p) (Keeps d.place first.constant.rigid.name) s'
