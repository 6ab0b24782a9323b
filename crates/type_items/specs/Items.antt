-- Items: what a module asks of the types of its parts. (Elm guide: types, type annotations, records.) The inference is
-- that of Hindley and Milner, said as a list: equations of types, and what else is asked of a type.
--
-- A type variable is a place in the tree of the module: a list of child numbers.
use Rattle.std.specs.Prelude.{ℕ, List, [], ◌∷◌, ◌++◌, Bool, true, false, not, map, filter, if◌then◌else◌}
use Rattle.std.specs.List.{range_with_len}
use Rattle.elm_base.specs.declared.position.Pos.{Pos}
use Rattle.elm_type.specs.Types.{Name, ElmType, variable, tuple, int_type, Rigid, Leaf, Free, Kind}
use Rattle.elm_type.specs.Classes.{is_any}
use Rattle.elm_type.specs.declared.class.Class.{Class}

abbrev pub Place : Type 0
Place = List ℕ

abbrev pub child : Place → ℕ → Place
child p i = p ++ i ∷ []

-- a type whose variables are places
abbrev pub Wanted : Type 0
Wanted = ElmType (Leaf Place)

abbrev pub at : Place → Wanted
at p = variable (Free p)

-- the types at so many children
abbrev pub children : Place → ℕ → List Wanted
children p n = map (λ i. at (child p i)) (range_with_len 0 n)

-- Each item stands somewhere in the file.
pub data Item : Type 0 where
  -- the left type is the right one
  Same : Pos → Wanted → Wanted → Item
  -- the type meets the class
  InClass : Pos → Wanted → Class → Item
  -- the type is a record without the field
  Lacks : Pos → Wanted → Name → Item
  -- the constant, and those of annotations below its place, are in none of the types
  Keeps : Pos → Rigid → List Wanted → Item
  -- the type has no more nodes than a type may have
  Small : Pos → Wanted → Item

abbrev pub place_of : Item → Pos
place_of (Same pos t u) = pos
place_of (InClass pos t c) = pos
place_of (Lacks pos t x) = pos
place_of (Keeps pos r ts) = pos
place_of (Small pos t) = pos

-- no types meet this: it stands where a tree is none that the resolution of names gives
abbrev pub nonsense : Pos → List Item
nonsense pos = Same pos int_type (tuple []) ∷ []

abbrev pub asks_size : Item → Bool
asks_size (Same pos t u) = false
asks_size (InClass pos t c) = false
asks_size (Lacks pos t x) = false
asks_size (Keeps pos r ts) = false
asks_size (Small pos t) = true

-- a copy asks for no sizes
abbrev pub copied : List Item → List Item
copied items = filter (λ item. not (asks_size item)) items

-- ---- what is asked of a variable of a kind

abbrev pub class_items : Pos → Wanted → Class → List Item
class_items pos t c = if is_any c then [] else InClass pos t c ∷ []

abbrev pub lack_items : Pos → Wanted → List Name → List Item
lack_items pos t xs = map (λ x. Lacks pos t x) xs

abbrev pub kind_items : Pos → Wanted → Kind → List Item
kind_items pos t k = class_items pos t k.class ++ lack_items pos t k.lacks
