-- Types, as plain data, over variables of any kind. (Elm guide: types, records.) Names are lists of UTF-16 units.
--
-- The variables are: of ground types the rigid constants; of the types that the checker speaks of the places of a tree,
-- and rigid constants; of a scheme numbers, and rigid constants. One substitution leads from each of these to each
-- other.
use Rattle.std.specs.Prelude.{ℕ, suc, ◌+◌, List, [], ◌∷◌, ◌++◌, codes, unwrap_or, slice_get}
use Rattle.elm_type.specs.declared.class.Class.{Class}
use Rattle.elm_type.specs.declared.class.Class.TheVariants.{Any}
use Rattle.elm_type.specs.declared.head.Head.{Head}
use Rattle.elm_type.specs.declared.head.Head.TheVariants as head

abbrev pub Name : Type 0
Name = List ℕ

-- where a record ends: it has no further fields, or those of a variable
pub data End (X : Type 0) : Type 0 where
  Closed : End X
  Over : X → End X

mutual
  -- A type of a head has parts: the arguments of a named type, the parameter and the result of a function, the parts of
  -- a tuple; () is the tuple of no parts. A variable a is the record over a without fields: so one form serves the
  -- variables that stand for types and those that stand for records.
  pub data ElmType (X : Type 0) : Type 0 where
    Made : Head → ElmTypes X → ElmType X
    Record : Fields X → End X → ElmType X

  pub data ElmTypes (X : Type 0) : Type 0 where
    NoType : ElmTypes X
    MoreType : ElmType X → ElmTypes X → ElmTypes X

  -- in ascending order of their names
  pub data Fields (X : Type 0) : Type 0 where
    NoField : Fields X
    MoreField : Name → ElmType X → Fields X → Fields X

abbrev pub variable : {X : Type 0} → X → ElmType X
variable x = Record NoField (Over x)

abbrev pub types_of : {X : Type 0} → List (ElmType X) → ElmTypes X
types_of [] = NoType
types_of (t ∷ ts) = MoreType t (types_of ts)

abbrev pub function : {X : Type 0} → ElmType X → ElmType X → ElmType X
function a b = Made head.Function (types_of (a ∷ b ∷ []))

-- a function of parameters in turn
abbrev pub functions : {X : Type 0} → List (ElmType X) → ElmType X → ElmType X
functions [] t = t
functions (a ∷ as_) t = function a (functions as_ t)

abbrev pub tuple : {X : Type 0} → List (ElmType X) → ElmType X
tuple ts = Made head.Tuple (types_of ts)

abbrev pub named : {X : Type 0} → Name → Name → List (ElmType X) → ElmType X
named m x ts = Made (head.Named m x) (types_of ts)

abbrev pub int_type : {X : Type 0} → ElmType X
int_type = named (codes "Basics") (codes "Int") []

abbrev pub bool_type : {X : Type 0} → ElmType X
bool_type = named (codes "Basics") (codes "Bool") []

abbrev pub char_type : {X : Type 0} → ElmType X
char_type = named (codes "Char") (codes "Char") []

abbrev pub string_type : {X : Type 0} → ElmType X
string_type = named (codes "String") (codes "String") []

abbrev pub list_type : {X : Type 0} → ElmType X → ElmType X
list_type t = named (codes "List") (codes "List") (t ∷ [])

abbrev pub count : {X : Type 0} → ElmTypes X → ℕ
count NoType = 0
count (MoreType t ts) = suc (count ts)

abbrev pub count_fields : {X : Type 0} → Fields X → ℕ
count_fields NoField = 0
count_fields (MoreField k t fs) = suc (count_fields fs)

-- How many nodes a type has. The variable of an open record is one.
abbrev mutual
  pub size : {X : Type 0} → ElmType X → ℕ
  size (Made h ts) = 1 + size_all ts
  size (Record fs Closed) = 1 + size_fields fs
  size (Record NoField (Over x)) = 1
  size (Record (MoreField k t fs) (Over x)) = 2 + (size t + size_fields fs)

  pub size_all : {X : Type 0} → ElmTypes X → ℕ
  size_all NoType = 0
  size_all (MoreType t ts) = size t + size_all ts

  pub size_fields : {X : Type 0} → Fields X → ℕ
  size_fields NoField = 0
  size_fields (MoreField k t fs) = size t + size_fields fs

-- the variables in order of appearance: that of a record stands before its fields
abbrev pub end_variables : {X : Type 0} → End X → List X
end_variables Closed = []
end_variables (Over x) = x ∷ []

abbrev mutual
  pub variables : {X : Type 0} → ElmType X → List X
  variables (Made h ts) = variables_all ts
  variables (Record fs end) = end_variables end ++ variables_fields fs

  pub variables_all : {X : Type 0} → ElmTypes X → List X
  variables_all NoType = []
  variables_all (MoreType t ts) = variables t ++ variables_all ts

  pub variables_fields : {X : Type 0} → Fields X → List X
  variables_fields NoField = []
  variables_fields (MoreField k t fs) = variables t ++ variables_fields fs

-- the type with a variable in the place of each
abbrev pub renamed_end : {X Y : Type 0} → (X → Y) → End X → End Y
renamed_end f Closed = Closed
renamed_end f (Over x) = Over (f x)

abbrev mutual
  pub renamed : {X Y : Type 0} → (X → Y) → ElmType X → ElmType Y
  renamed f (Made h ts) = Made h (renamed_all f ts)
  renamed f (Record fs end) = Record (renamed_fields f fs) (renamed_end f end)

  pub renamed_all : {X Y : Type 0} → (X → Y) → ElmTypes X → ElmTypes Y
  renamed_all f NoType = NoType
  renamed_all f (MoreType t ts) = MoreType (renamed f t) (renamed_all f ts)

  pub renamed_fields : {X Y : Type 0} → (X → Y) → Fields X → Fields Y
  renamed_fields f NoField = NoField
  renamed_fields f (MoreField k t fs) = MoreField k (renamed f t) (renamed_fields f fs)

-- Types over variables and constants.

-- A rigid constant: a variable of the annotation that stands at a place of the tree. It has the class that its name
-- says, and lacks the fields that the annotation writes beside it. A constant that lacks none stands for no record.
pub record Rigid : Type 0 where
  pub place : List ℕ
  pub name : Name
  pub class : Class
  pub lacks : List Name

-- a variable, or a constant
pub data Leaf (X : Type 0) : Type 0 where
  Free : X → Leaf X
  Fixed : Rigid → Leaf X

-- what a variable may stand for: types of a class, and, where it lacks some fields, records without these
pub record Kind : Type 0 where
  pub class : Class
  pub lacks : List Name

-- a type with variables of these kinds, by their numbers
pub record Scheme : Type 0 where
  pub type : ElmType (Leaf ℕ)
  pub kinds : List Kind

abbrev pub any_kind : Kind
any_kind = record { class = Any; lacks = [] }

-- a variable without a kind may stand for every type
abbrev pub kind_at : List Kind → ℕ → Kind
kind_at ks i = unwrap_or (slice_get ks i) any_kind
