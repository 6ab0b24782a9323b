-- Which scheme is the principal type. (Elm guide: types.)
use Rattle.std.specs.Prelude.{◌≡◌, ℕ, List, ◌++◌, ◌↔◌, Bool, true, false, not, ◌&&◌, filter}
use Rattle.std.specs.List.{AllByRecursion}
use Rattle.elm_type.specs.Types.{Name, ElmType, ElmTypes, Fields, End, Closed, Over, Made, Record, NoType, MoreType}
use Rattle.elm_type.specs.Types.{NoField, MoreField, variables, Leaf, Free, Fixed, Kind, Scheme, kind_at}
use Rattle.elm_type.specs.Classes.{Ground}
use Rattle.elm_type.specs.Rows.{rise}
use Rattle.elm_type.specs.Ground.{contains, is_ground, value, fits}
use Rattle.type_items.specs.Items.{Place, Wanted, Item, Same, InClass, Lacks, Keeps, Small}
use Rattle.type_items.specs.Solutions.{Values, Solves, Solution}

-- the ground type is one that t has under a solution
pub record HasType (items : List Item) (t : Wanted) (g : Ground) : Type 0 where
  pub solution : Solution items
  pub has : value solution.values t ≡ g

abbrev pub asks_scope : Item → Bool
asks_scope (Same pos t u) = false
asks_scope (InClass pos t c) = false
asks_scope (Lacks pos t x) = false
asks_scope (Keeps pos r ts) = true
asks_scope (Small pos t) = false

-- what determines types: constants that have to stay in their scope determine none
abbrev pub unscoped : List Item → List Item
unscoped items = filter (λ item. not (asks_scope item)) items

-- types of their kinds can be chosen for the scheme's variables so that the scheme's type is this one
pub record IsInstance (s : Scheme) (g : Ground) : Type 0 where
  pub choice : ℕ → Ground
  pub ground : (i : ℕ) → is_ground (choice i) ≡ true
  pub kinds : (i : ℕ) → fits (kind_at s.kinds i) (choice i) ≡ true
  pub is : value choice s.type ≡ g

-- ---- schemes

-- what a variable or a constant stands for lacks these fields
abbrev pub leaf_lacks : List Kind → Leaf ℕ → List Name
leaf_lacks kinds (Free i) = (kind_at kinds i).lacks
leaf_lacks kinds (Fixed r) = r.lacks

abbrev pub end_lacks : List Kind → Name → End (Leaf ℕ) → Bool
end_lacks kinds k Closed = true
end_lacks kinds k (Over l) = contains k (leaf_lacks kinds l)

abbrev pub end_lacks_each : List Kind → Fields (Leaf ℕ) → End (Leaf ℕ) → Bool
end_lacks_each kinds NoField end = true
end_lacks_each kinds (MoreField k t fs) end = end_lacks kinds k end && end_lacks_each kinds fs end

-- the fields of each record of a type stand by their names, each once, and what the record ends in lacks them
abbrev mutual
  pub is_formed : List Kind → ElmType (Leaf ℕ) → Bool
  is_formed kinds (Made h ts) = are_formed kinds ts
  is_formed kinds (Record fs end) = rise fs && (end_lacks_each kinds fs end && fields_formed kinds fs)

  pub are_formed : List Kind → ElmTypes (Leaf ℕ) → Bool
  are_formed kinds NoType = true
  are_formed kinds (MoreType t ts) = is_formed kinds t && are_formed kinds ts

  pub fields_formed : List Kind → Fields (Leaf ℕ) → Bool
  fields_formed kinds NoField = true
  fields_formed kinds (MoreField k t fs) = is_formed kinds t && fields_formed kinds fs

-- ---- principal types

-- no constant of the type is of a place at or below p
abbrev pub Outside : Place → Ground → Type 0
Outside p g = AllByRecursion (λ r. (q : Place) → r.place ≡ p ++ q → ⊥) (variables g)

-- The principal type of t, in a module at the place p: its instances are the types that t has, where constants need not
-- stay in their scope; and of these, all without a constant of the module are types that t has.
pub record IsPrincipal (p : Place) (items : List Item) (t : Wanted) (s : Scheme) : Type 0 where
  pub formed : is_formed s.kinds s.type ≡ true
  pub each : (g : Ground) → HasType (unscoped items) t g ↔ IsInstance s g
  pub kept : (g : Ground) → Outside p g → IsInstance s g → HasType items t g

-- ---- laws

-- what solves items solves them where constants need not stay in their scope
abbrev pub UnscopedAskLess : Type 0
UnscopedAskLess = (values : Values) (items : List Item) → Solves values items → Solves values (unscoped items)
