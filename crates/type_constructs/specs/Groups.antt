-- The walk of a group of definitions without annotations, and of groups in turn, from those of their parts.
use Rattle.std.specs.Prelude.{◌≡◌, ℕ, List, [], ◌∷◌, ◌++◌, Bool, length, false, flat_map, Option}
use Rattle.std.specs.List.{Contains, enumerate_from}
use Rattle.elm_base.specs.declared.position.Pos.{Pos}
use Rattle.elm_canon.specs.declared.reference.Ref.{Ref}
use Rattle.elm_canon.specs.Tree.{Pattern, Expr}
use Rattle.elm_type.specs.Types.{Rigid}
use Rattle.type_items.specs.Items.{Place, child, Wanted, at, Small, copied}
use Rattle.type_items.specs.Scopes.{Scope, with_names}
use Rattle.type_items.specs.Patterns.{pattern_items}
use Rattle.type_items.specs.Definitions.{Definition, group_types, member_items, group_items, type_in_group, list_group}
use Rattle.type_items.specs.Definitions.{list_groups}
use Rattle.type_items.specs.Expressions.{items}
use Rattle.type_store.specs.Store.{Store}
use Rattle.type_store.specs.Shape.{IsStore}
use Rattle.type_walks.specs.Regions.{none, only, below, span, either}
use Rattle.type_walks.specs.Links.{Links, AreLive, Has, Within}
use Rattle.type_walks.specs.Walks.{Around, Walk}
use Rattle.type_walks.specs.Frozen.{Frozen, Freezes, PartIs}
use Rattle.type_walks.specs.Says.{Says}
use Rattle.type_walks.specs.TypeCopiesLaws.{deeper}
use Rattle.type_constructs.specs.Regions.{deep}
use Rattle.type_constructs.specs.Binding.{Children, Bound}
use Rattle.type_constructs.specs.Patterns.{Matched}
use Rattle.type_constructs.specs.Stepping.{Step}
use Rattle.type_constructs.specs.Expressions.{Walked}

-- ---- a group without annotations

-- the item on the size of a type changes nothing
abbrev pub WalksSmall : Type 0
WalksSmall =
    (a : Around) (pos : Pos) (t : Wanted) (s : Store) (links : Links)
    → Walk a none (Small pos t ∷ []) s links s links

-- a pattern's definition: the pattern, and then what it is
abbrev pub WalksDestructure : Type 0
WalksDestructure =
    (real : Bool) (a : Around) (p : Pattern) (e : Expr) (scope : Scope) (start : Pos) (q : Place) (v : Wanted)
    (s u s' : Store) (links : Links) (bound : List Bound)
    → AreLive a.depth s links
    → (matched : Matched a p scope.known start (child q 0) v s links u bound)
    → Walked real a e scope start (child q 1) v u matched.after s'
    → Step real a (below q)
    (pattern_items p scope.known start (child q 0) v ++ items e scope start (child q 1) v) s links s' matched.after

-- so many members of a group were walked
abbrev pub WalkedMembers : Bool → Around → List Definition → Scope → Place → Store → Links → Store → Links → Type 0
WalkedMembers real a ds scope p s before s' after =
    Step real a (deep p 0 (length ds)) (flat_map (member_items scope p) (enumerate_from 0 ds)) s before s' after

abbrev pub WalksNoMember : Type 0
WalksNoMember =
    (real : Bool) (a : Around) (scope : Scope) (p : Place) (s : Store) (links : Links)
    → WalkedMembers real a [] scope p s links s links

-- one member more, and the size of its type
abbrev pub WalksOneMember : Type 0
WalksOneMember =
    (real : Bool) (a : Around) (ds : List Definition) (d : Definition) (scope : Scope) (p : Place) (s u v s' : Store)
    (before between after last : Links)
    → AreLive a.depth s before → WalkedMembers real a ds scope p s before u between
    → Step real a (below (child p (length ds)))
    (d.list scope (child p (length ds)) (at (child p (length ds)))) u between v after
    → Step real a none (Small d.place (at (child p (length ds))) ∷ []) v after s' last
    → WalkedMembers real a (ds ++ d ∷ []) scope p s before s' last

-- a group: a variable for each member's type, and the members with the names of all
abbrev pub WalksGroup : Type 0
WalksGroup =
    (real : Bool) (a : Around) (ds : List Definition) (scope : Scope) (p : Place) (s u s' : Store) (links after : Links)
    (vs : List ℕ)
    → AreLive a.depth s links → (opened : Children a p s links u vs)
    → WalkedMembers real a ds (with_names (group_types ds scope.known p) scope) p u opened.after s' after
    → Step real a (below p) (group_items ds scope p) s links s' after

-- what was walked one definition deeper was walked
abbrev pub ClosesGroup : Type 0
ClosesGroup =
    (a : Around) (p q : Place) (ds : List Definition) (scope : Scope) (s s' : Store) (links after : Links)
    → IsStore s' → Within a.constants s → Within a.constants s' → AreLive a.depth s links
    → ((r : Rigid) → Contains a.constants r → only p r.place ≡ false)
    → Walk (deeper a) (below q) (group_items ds scope q) s links s' after
    → Walk a (either (only q) (below q)) (group_items ds scope q) s links s' links

-- what is frozen of a name of the group says what each use of the name lists
abbrev pub SaysGroup : Type 0
SaysGroup =
    (a : Around) (ds : List Definition) (scope : Scope) (x : Ref) (s s' : Store) (links : Links) (after : Place → Links)
    (frozen : Frozen) (v : ℕ) (place : ℕ → ℕ) (number : ℕ → Option ℕ)
    → IsStore s' → Within a.constants s' → AreLive a.depth s links
    → ((q : Place) → Walk (deeper a) (below q) (group_items ds scope q) s links s' (after q))
    → ((q : Place) → Has (after q) v (type_in_group ds scope.known x q))
    → Freezes a.depth s' frozen.cells place number → PartIs a.depth s' number v frozen.root
    → Says a s' links frozen (λ q. copied (group_items ds scope q)) (λ q. type_in_group ds scope.known x q)

-- ---- groups in turn

abbrev pub WalkedGroups : Bool → Around → List (List Definition) → Scope → Place → Store → Links → Store → Type 0
WalkedGroups real a gs scope p s links s' =
    Step real a (span p 0 (length gs)) (list_groups gs scope p 0).items s links s' links

abbrev pub WalksNoGroup : Type 0
WalksNoGroup =
    (real : Bool) (a : Around) (scope : Scope) (p : Place) (s : Store) (links : Links)
    → WalkedGroups real a [] scope p s links s

-- one group more, in the scope after those before it
abbrev pub WalksOneGroup : Type 0
WalksOneGroup =
    (real : Bool) (a : Around) (gs : List (List Definition)) (g : List Definition) (scope : Scope) (p : Place)
    (s u s' : Store) (links : Links)
    → AreLive a.depth s links → WalkedGroups real a gs scope p s links u
    → Step real a (either (only (child p (length gs))) (below (child p (length gs))))
    (list_group g (list_groups gs scope p 0).scope (child p (length gs))).items u links s' links
    → WalkedGroups real a (gs ++ g ∷ []) scope p s links s'

-- and the scope after it
abbrev pub ScopeAfterOneGroup : Type 0
ScopeAfterOneGroup =
    (gs : List (List Definition)) (g : List Definition) (scope : Scope) (p : Place)
    → (list_groups (gs ++ g ∷ []) scope p 0).scope
    ≡ (list_group g (list_groups gs scope p 0).scope (child p (length gs))).scope
