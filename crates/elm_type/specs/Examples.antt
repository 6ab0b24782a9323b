-- Types and classes, worked out.
use Rattle.std.specs.Prelude.{◌≡◌, ℕ, List, [], ◌∷◌, true, false, Some, None, codes}
use Rattle.elm_type.specs.Types.{Name, Over, ElmType, Record, NoField, MoreField, variable, function, tuple, int_type}
use Rattle.elm_type.specs.Types.{string_type, list_type, size, Leaf, Free, Kind, any_kind, Scheme}
use Rattle.elm_type.specs.Rows.{closed, substitute}
use Rattle.elm_type.specs.Classes.{meet, allows, MadeHead, meets}
use Rattle.elm_type.specs.Schemes.{instantiate, rename}
use Rattle.elm_type.specs.declared.class.Class.{Class}
use Rattle.elm_type.specs.declared.class.Class.TheVariants.{Any, Number, Comparable, Appendable, CompAppend}
use Rattle.elm_type.specs.declared.head.Head.TheVariants as head

abbrev pub a : ElmType (Leaf ℕ)
a = variable (Free 0)

abbrev pub b : ElmType (Leaf ℕ)
b = variable (Free 1)

abbrev pub c : ElmType (Leaf ℕ)
c = variable (Free 2)

abbrev pub d : ElmType (Leaf ℕ)
d = variable (Free 3)

abbrev pub of_class : Class → Kind
of_class k = record { class = k; lacks = [] }

abbrev pub row_without : List Name → Kind
row_without names = record { class = Any; lacks = names }

abbrev pub scheme : ElmType (Leaf ℕ) → List Kind → Scheme
scheme t ks = record { type = t; kinds = ks }

abbrev pub x : Name
x = codes "x"

abbrev pub y : Name
y = codes "y"

abbrev pub z : Name
z = codes "z"

-- { a | x : b }
abbrev pub updated : ElmType (Leaf ℕ)
updated = Record (MoreField x b NoField) (Over (Free 0))

abbrev pub two_fields : ElmType (Leaf ℕ)
two_fields = closed ((y, b) ∷ (x, a) ∷ [])

abbrev pub one_of_more : ElmType (Leaf ℕ)
one_of_more = Record (MoreField z d NoField) (Over (Free 2))

abbrev pub point : ElmType (Leaf ℕ)
point = closed ((x, string_type) ∷ [])

pub record Examples : Type 0 where
  pub number_comparable : meet Number Comparable ≡ Some Number
  pub comparable_appendable : meet Comparable Appendable ≡ Some CompAppend
  pub number_appendable : meet Number Appendable ≡ None
  pub unit_is_not_comparable : allows Comparable (MadeHead head.Tuple 0) ≡ false
  pub pair_is_comparable : allows Comparable (MadeHead head.Tuple 2) ≡ true
  pub list_of_functions : meets Appendable (list_type (function int_type int_type)) ≡ true
  pub list_of_functions_is_not_comparable : meets Comparable (list_type (function int_type int_type)) ≡ false
  -- { a | x : b } -> ( a, a )
  pub sizes : size (function updated (tuple (a ∷ a ∷ []))) ≡ 7
  pub instance : instantiate (scheme (function b a) []) 5 ≡ function (variable (Free 6)) (variable (Free 5))
  pub in_order : rename (scheme (function b a) (of_class Number ∷ any_kind ∷ [])) ≡ scheme (function a b) (any_kind ∷ of_class Number ∷ [])
  -- the variable of a record stands before its fields
  pub rows_in_order : rename (scheme (Record (MoreField x a NoField) (Over (Free 1))) (of_class Number ∷ row_without (x ∷ []) ∷ []))
      ≡ scheme updated (row_without (x ∷ []) ∷ of_class Number ∷ [])
  -- a record in the place of the variable of a record
  pub row_in_a_row : substitute (λ l. point) one_of_more ≡ closed ((z, point) ∷ (x, string_type) ∷ [])
