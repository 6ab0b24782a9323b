-- A type group without annotations: its members are walked one definition deeper, and then its names are general.
use Rattle.std.specs.Prelude.{◌≡◌, ℕ, ◌<◌, ◌-◌, List, [], ◌∷◌, take, map, Bool, true}
use Rattle.std.specs.List.{AllByRecursion, AllZip}
use Rattle.elm_canon.specs.declared.reference.Ref.{Ref}
use Rattle.elm_canon.specs.Tree.{Title}
use Rattle.type_items.specs.Items.{Place, child, Wanted, Item}
use Rattle.type_items.specs.Scopes.{Entries, Scope, with_names}
use Rattle.type_items.specs.Definitions.{Definition, group_types, group_items, with_group}
use Rattle.type_items.specs.Expressions.{titled}
use Rattle.type_store.specs.Store.{Store}
use Rattle.type_store.specs.Shape.{IsStore}
use Rattle.type_walks.specs.Regions.{below}
use Rattle.type_walks.specs.Links.{Links, Live}
use Rattle.type_walks.specs.Walks.{Around, Walk}
use Rattle.type_walks.specs.TypeCopiesLaws.{deeper}
use Rattle.type_schemes.specs.Freezing.{ConstantsAround}
use Rattle.type_constructs.specs.Passing.{Passes}
use Rattle.type_constructs.specs.Binding.{Children, EntryHas}
use Rattle.type_constructs.specs.Groups.{WalkedMembers}
use Rattle.infer_steps.specs.Codes.{Code, State, One, with_meaning}
use Rattle.infer_steps.specs.Ready.{IsReady, Follows}
use Rattle.infer_steps.specs.Means.{Setting}
use Rattle.infer_groups.specs.Defined.{Listing, inside}

-- what a group without annotations lists, and the scope after it
abbrev pub listed_group : List Definition → Listing
listed_group ds scope p = record { items = group_items ds scope p; scope = with_group ds scope }

-- the scope inside it
abbrev pub scope_inside : List Definition → Scope → Place → Scope
scope_inside ds scope p = with_names (group_types ds scope.known p) scope

-- the same at a child of the place
abbrev pub at_number : ℕ → Listing → Listing
at_number i list scope q = list scope (child q i)

-- ---- the names of a group, each with the variable of its type

abbrev pub Named : Type 0
Named = Ref × ℕ

-- the first one is the innermost
abbrev pub with_named : List Named → Code → Code
with_named [] code = code
with_named (n ∷ ns) code = with_meaning n.0 (One n.1) (with_named ns code)

-- names of a scope have these variables
abbrev pub AreNamed : Links → List Named → Entries → Type 0
AreNamed links names entries = AllZip (λ n e. (e.0 ≡ n.0) × EntryHas links n.1 e.1) names entries

-- the types of the names can be frozen, for one definition less
pub record CanClose (names : List Named) (s : State) : Type 0 where
  pub whole : IsStore s.store
  pub deeper : 0 < s.depth
  pub around : ConstantsAround (s.depth - 1) s.store
  pub live : AllByRecursion (λ n. Live s.depth s.store n.1) names

abbrev pub variables_of : List Named → List ℕ
variables_of names = map (λ n. n.1) names

-- ---- members in turn

-- a definition of this name, with a title
pub record IsTitledAs (x : Ref) (d : Definition) : Type 0 where
  pub title : Title
  pub uses : List Ref
  pub list : Scope → Place → Wanted → List Item
  pub is : d ≡ titled title uses list
  pub name : title.name ≡ x

abbrev pub AreTitled : List Named → List Definition → Type 0
AreTitled names ds = AllZip (λ n d. IsTitledAs n.0 d) names ds

-- At the place p the members have variables in the store `opened`, and so many of them were walked.
pub record MembersAt (real : Bool) (a : Around) (ds : List Definition) (k : ℕ) (vs : List ℕ) (inner : Code)
    (scope : Scope) (p : Place) (s : Store) (links : Links) (opened : Store) (now : State) : Type 0 where
  pub children : Children (deeper a) p s links opened vs
  pub members : WalkedMembers real (deeper a) (take k ds) (scope_inside ds scope p) p opened children.after now.store
      children.after
  pub setting : Setting (deeper a) children.after inner (scope_inside ds scope p) now

-- The group of the number i was opened, its names have variables, and so many of its members were walked: at every
-- place.
pub record MembersDone (code : Code) (ds : List Definition) (i k : ℕ) (names : List Named) (old now : State)
    : Type 0 where
  pub titled : AreTitled names ds
  pub before : IsReady code old.depth old.store
  pub follows : Follows (inside old i) now
  pub outer : IsReady code old.depth now.store
  pub ready : IsReady (with_named names code) now.depth now.store
  pub live : AllByRecursion (λ n. Live now.depth now.store n.1) names
  pub opened : Store
  pub each : (real : Bool) (a : Around) (links : Links) (scope : Scope) (p : Place)
      → (real ≡ true → p ≡ child old.place i) → Setting a links code scope old
      → MembersAt real a ds k (variables_of names) (with_named names code) scope p old.store links opened now

-- ---- all members

-- all members were walked at the place p
pub record GroupAt (a : Around) (ds : List Definition) (scope : Scope) (p : Place) (s : Store) (links : Links)
    (names : List Named) (now : State) : Type 0 where
  pub after : Links
  pub walk : Walk (deeper a) (below p) (group_items ds scope p) s links now.store after
  pub named : AreNamed after names (group_types ds scope.known p)

pub record GroupDone (code : Code) (ds : List Definition) (i : ℕ) (names : List Named) (old now : State) : Type 0 where
  pub before : IsReady code old.depth old.store
  pub follows : Follows (inside old i) now
  pub outer : IsReady code old.depth now.store
  pub can_close : CanClose names now
  pub each : (a : Around) (links : Links) (scope : Scope) (p : Place) → Setting a links code scope old
      → GroupAt a ds scope p old.store links names now
  pub passes : (a : Around) (links : Links) (scope : Scope) → Setting a links code scope old
      → Passes (deeper a) old.store links (below (child old.place i)) (group_items ds scope (child old.place i))
