-- Ground types: finite trees over type constructors, rigid constants and records. (Elm guide: types, records.) The
-- variables of a type stand for ground types of their kinds.
use Rattle.std.specs.Prelude.{◌≡◌, List, [], ◌∷◌, Bool, true, false, not, ◌&&◌, ◌||◌}
use Rattle.std.specs.Str.{bytes_eq}
use Rattle.elm_type.specs.Types.{Name, ElmType, ElmTypes, Fields, End, Closed, Over, Made, Record, NoType, MoreType}
use Rattle.elm_type.specs.Types.{NoField, MoreField, variable, Rigid, Leaf, Free, Fixed, Kind}
use Rattle.elm_type.specs.Classes.{Ground, meets}
use Rattle.elm_type.specs.Rows.{has_field, rise, substitute}

abbrev pub contains : Name → List Name → Bool
contains x [] = false
contains x (y ∷ ys) = bytes_eq x y || contains x ys

-- what a record ends in has no such field: a constant lacks the fields that its annotation writes beside it alone
abbrev pub end_lacks : Name → End Rigid → Bool
end_lacks x Closed = true
end_lacks x (Over r) = contains x r.lacks

-- whether a ground type is a record without the field
abbrev pub lacks : Name → Ground → Bool
lacks x (Made h ts) = false
lacks x (Record fs end) = not (has_field x fs) && end_lacks x end

abbrev pub lacks_all : List Name → Ground → Bool
lacks_all [] t = true
lacks_all (x ∷ xs) t = lacks x t && lacks_all xs t

abbrev pub end_lacks_each : Fields Rigid → End Rigid → Bool
end_lacks_each NoField end = true
end_lacks_each (MoreField k t fs) end = end_lacks k end && end_lacks_each fs end

-- Whether a ground type is one: the fields of a record stand by their names, each once, and the constant that it ends
-- in lacks them.
abbrev mutual
  pub is_ground : Ground → Bool
  is_ground (Made h ts) = are_ground ts
  is_ground (Record fs end) = rise fs && (end_lacks_each fs end && fields_ground fs)

  pub are_ground : ElmTypes Rigid → Bool
  are_ground NoType = true
  are_ground (MoreType t ts) = is_ground t && are_ground ts

  pub fields_ground : Fields Rigid → Bool
  fields_ground NoField = true
  fields_ground (MoreField k t fs) = is_ground t && fields_ground fs

-- what variables and constants stand for
abbrev pub leaf_value : {X : Type 0} → (X → Ground) → Leaf X → Ground
leaf_value values (Free x) = values x
leaf_value values (Fixed r) = variable r

-- the ground type that a type is with these values of its variables
abbrev pub value : {X : Type 0} → (X → Ground) → ElmType (Leaf X) → Ground
value values t = substitute (leaf_value values) t

-- whether a variable of the kind may stand for the type
abbrev pub fits : Kind → Ground → Bool
fits k t = meets k.class t && lacks_all k.lacks t

-- each kind has a type
abbrev pub EachKindFits : Type 0
EachKindFits = (k : Kind) → (t : Ground) × (is_ground t ≡ true) × (fits k t ≡ true)
