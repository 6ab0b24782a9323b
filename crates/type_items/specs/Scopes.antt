-- Names in scope, with their types, and what a use of a name asks.
use Rattle.std.specs.Prelude.{ℕ, List, [], ◌∷◌, ◌++◌, Option, Some, None, flat_map, option_map}
use Rattle.std.specs.Option.{option_or}
use Rattle.std.specs.List.{enumerate_from}
use Rattle.std.specs.Map.{lookup}
use Rattle.elm_base.specs.declared.position.Pos.{Pos}
use Rattle.elm_canon.specs.Names.{same_ref}
use Rattle.elm_canon.specs.declared.reference.Ref.{Ref}
use Rattle.elm_canon.specs.declared.reference.Ref.TheVariants.{Local, Top}
use Rattle.elm_type.specs.Types.{Name, renamed, Rigid, Leaf, Free, Fixed, Kind, Scheme}
use Rattle.type_items.specs.Items.{Place, child, Wanted, at, Item, Same, nonsense, kind_items}

-- A name has one type; or it has each instance of a scheme; or it is one of a group without annotations, whose items
-- can be listed at any place, with the type that the name has there.
pub data Entry : Type 0 where
  Mono : Wanted → Entry
  Instance : Scheme → Entry
  General : (Place → List Item) → (Place → Wanted) → Entry

-- the types of what other modules declare, and of the module's own constructors and ports
abbrev pub Known : Type 0
Known = Name → Name → Option Scheme

abbrev pub Entries : Type 0
Entries = List (Ref × Entry)

-- the constants that the variables of annotations stand for
abbrev pub Constants : Type 0
Constants = List (Name × Rigid)

-- what is known, the names in scope, the innermost first, and the variables of the annotations around
pub record Scope : Type 0 where
  pub known : Known
  pub names : Entries
  pub constants : Constants

abbrev pub with_names : Entries → Scope → Scope
with_names new scope = record scope { names = new ++ scope.names }

abbrev pub with_constants : Constants → Scope → Scope
with_constants new scope = record scope { constants = new ++ scope.constants }

-- the types of the names that have one type
abbrev pub one_type : Entry → List Wanted
one_type (Mono t) = t ∷ []
one_type (Instance s) = []
one_type (General list type) = []

abbrev pub one_types : Entries → List Wanted
one_types names = flat_map (λ n. one_type n.1) names

abbrev pub elsewhere : Known → Ref → Option Entry
elsewhere known (Local x) = None
elsewhere known (Top m x) = option_map (λ s. Instance s) (known m x)

abbrev pub entry_of : Scope → Ref → Option Entry
entry_of scope x = option_or (lookup (same_ref x) scope.names) (elsewhere scope.known x)

-- ---- instances of schemes: variable i of a scheme is child i of a place

abbrev pub leaf_at : Place → Leaf ℕ → Leaf Place
leaf_at p (Free i) = Free (child p i)
leaf_at p (Fixed r) = Fixed r

abbrev pub instance : Scheme → Place → Wanted
instance s p = renamed (leaf_at p) s.type

-- what is asked of the variables of an instance
abbrev pub instance_items : List Kind → Pos → Place → List Item
instance_items kinds pos p = flat_map (λ k. kind_items pos (at (child p k.0)) k.1) (enumerate_from 0 kinds)

-- ---- a use of a name at a place, wanted at a type: what is asked of an instance stands before its equation

abbrev pub use_items : Option Entry → Pos → Place → Wanted → List Item
use_items None pos p w = nonsense pos
use_items (Some (Mono t)) pos p w = Same pos t w ∷ []
use_items (Some (Instance s)) pos p w =
    instance_items s.kinds pos (child p 0) ++ Same pos (instance s (child p 0)) w ∷ []
use_items (Some (General list type)) pos p w = list (child p 0) ++ Same pos (type (child p 0)) w ∷ []
