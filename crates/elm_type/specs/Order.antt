-- Schemes in one form: the fields that a variable lacks stand in ascending order of their names, each once.
use Rattle.std.specs.Prelude.{◌≡◌, ◌↔◌, List, [], ◌∷◌, map, if◌then◌else◌}
use Rattle.std.specs.List.{Contains}
use Rattle.elm_type.specs.Types.{Name, Kind, Scheme}
use Rattle.elm_type.specs.Rows.{name_lt}

-- a name among names in order
abbrev pub insert : Name → List Name → List Name
insert x [] = x ∷ []
insert x (y ∷ ys) = if name_lt x y then x ∷ y ∷ ys else (if name_lt y x then y ∷ insert x ys else y ∷ ys)

abbrev pub in_order : List Name → List Name
in_order [] = []
in_order (x ∷ xs) = insert x (in_order xs)

abbrev pub kind_in_order : Kind → Kind
kind_in_order k = record { class = k.class; lacks = in_order k.lacks }

abbrev pub scheme_in_order : Scheme → Scheme
scheme_in_order s = record { type = s.type; kinds = map kind_in_order s.kinds }

-- ---- laws

-- they are the same names
abbrev pub SameNames : Type 0
SameNames = (xs : List Name) (x : Name) → Contains (in_order xs) x ↔ Contains xs x

-- and lists of the same names have one order
abbrev pub OneOrder : Type 0
OneOrder = (xs ys : List Name) → ((x : Name) → Contains xs x ↔ Contains ys x) → in_order xs ≡ in_order ys
