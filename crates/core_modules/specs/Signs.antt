-- Types and declared unions, spelled sign by sign. Each sign stands in front of its parts and says how many there are,
-- so that two of them are the same exactly where they are spelled alike.
use Rattle.std.specs.Prelude.{ℕ, suc, List, [], ◌∷◌, ◌++◌, map, flat_map, length, Bool, true, false, ◌&&◌}
use Rattle.std.specs.Prelude.{Option, Some, None, if◌then◌else◌, nat_eq}
use Rattle.std.specs.Borrow.{Bor}
use Rattle.elm_canon.specs.Names.{Name, same_name}
use Rattle.elm_canon.specs.Unions.{Union, TupleUnion, ListUnion, Declared}
use Rattle.elm_canon.specs.declared.unions.Alternative.{Alternative}
use Rattle.elm_canon.specs.declared.unions.Tag.{Tag}
use Rattle.elm_canon.specs.Tree.{Annotation, Variable, NamedType, FunctionType, TupleType, RecordType, ExtendedType}
use Rattle.elm_canon.specs.Tree.{Annotations, NoAnnotation, MoreAnnotation, FieldTypes, NoFieldType, MoreFieldType}
use Rattle.elm_canon.specs.Tree.{UnionDeclaration}
use Rattle.elm_meaning.specs.Seen.{same_tag}
use Rattle.core_modules.specs.declared.sign.Sign as code

pub data Sign : Type 0 where
  IsVariable : Name → Sign
  -- a type of a module, and how many arguments it has
  IsNamed : Name → Name → ℕ → Sign
  -- its parameter and its result follow
  IsFunction : Sign
  IsTuple : ℕ → Sign
  IsRecord : ℕ → Sign
  IsExtended : Name → ℕ → Sign
  IsField : Name → Sign
  -- a declared union: its name, its home, its name there, and how many constructors and parameters it has
  IsUnion : Name → Name → Name → ℕ → ℕ → Sign
  -- a union that no module declares
  IsGiven : Sign
  IsMaker : Name → Tag → ℕ → Sign
  -- the fields of a constructor, and how many there are
  IsFields : ℕ → Sign

-- ---- types

abbrev pub count : Annotations → ℕ
count NoAnnotation = 0
count (MoreAnnotation t ts) = suc (count ts)

abbrev pub count_fields : FieldTypes → ℕ
count_fields NoFieldType = 0
count_fields (MoreFieldType k t fs) = suc (count_fields fs)

abbrev mutual
  pub spelled : Annotation → List Sign
  spelled (Variable a) = IsVariable a ∷ []
  spelled (NamedType m x ts) = IsNamed m x (count ts) ∷ all_spelled ts
  spelled (FunctionType t u) = IsFunction ∷ spelled t ++ spelled u
  spelled (TupleType ts) = IsTuple (count ts) ∷ all_spelled ts
  spelled (RecordType fs) = IsRecord (count_fields fs) ∷ fields_spelled fs
  spelled (ExtendedType a fs) = IsExtended a (count_fields fs) ∷ fields_spelled fs

  pub all_spelled : Annotations → List Sign
  all_spelled NoAnnotation = []
  all_spelled (MoreAnnotation t ts) = spelled t ++ all_spelled ts

  pub fields_spelled : FieldTypes → List Sign
  fields_spelled NoFieldType = []
  fields_spelled (MoreFieldType k t fs) = IsField k ∷ spelled t ++ fields_spelled fs

-- ---- unions

abbrev pub maker_sign : Alternative → Sign
maker_sign c = IsMaker c.name c.tag c.arity

-- the union x, with so many parameters
abbrev pub head_spelled : Name → ℕ → Union → List Sign
head_spelled x n (TupleUnion k) = IsGiven ∷ []
head_spelled x n ListUnion = IsGiven ∷ []
head_spelled x n (Declared m y cs) = IsUnion x m y (length cs) n ∷ map maker_sign cs

abbrev pub constructor_spelled : Annotations → List Sign
constructor_spelled ts = IsFields (count ts) ∷ all_spelled ts

abbrev pub union_spelled : UnionDeclaration → List Sign
union_spelled u =
    head_spelled u.name (length u.parameters) u.union ++ map IsVariable u.parameters
    ++ flat_map constructor_spelled u.fields

-- ---- signs that are the same

abbrev pub same_sign : Sign → Sign → Bool
same_sign (IsVariable a) (IsVariable b) = same_name a b
same_sign (IsNamed m x k) (IsNamed n y l) = same_name m n && (same_name x y && nat_eq k l)
same_sign IsFunction IsFunction = true
same_sign (IsTuple k) (IsTuple l) = nat_eq k l
same_sign (IsRecord k) (IsRecord l) = nat_eq k l
same_sign (IsExtended a k) (IsExtended b l) = same_name a b && nat_eq k l
same_sign (IsField j) (IsField k) = same_name j k
same_sign (IsUnion x m y k n) (IsUnion z o w l p) =
    same_name x z && (same_name m o && (same_name y w && (nat_eq k l && nat_eq n p)))
same_sign IsGiven IsGiven = true
same_sign (IsMaker x s k) (IsMaker y t l) = same_name x y && (same_tag s t && nat_eq k l)
same_sign (IsFields k) (IsFields l) = nat_eq k l
same_sign _ _ = false

-- what is left of the second signs after the first
abbrev pub left_after : List Sign → List Sign → Option (List Sign)
left_after [] s = Some s
left_after (a ∷ as_) [] = None
left_after (a ∷ as_) (b ∷ s) = if same_sign a b then left_after as_ s else None

abbrev pub is_nothing : Option (List Sign) → Bool
is_nothing None = false
is_nothing (Some []) = true
is_nothing (Some (a ∷ s)) = false

abbrev pub same_signs : List Sign → List Sign → Bool
same_signs s t = is_nothing (left_after s t)

-- what is left after the signs, if something was left before
abbrev pub left_in : List Sign → Option (List Sign) → Option (List Sign)
left_in as_ None = None
left_in as_ (Some s) = left_after as_ s

-- ---- of the program

abbrev pub sign_view : code.Sign → Sign
sign_view (code.Sign.Variable a) = IsVariable a.now
sign_view (code.Sign.Named m x k) = IsNamed m.now x.now k
sign_view code.Sign.Function = IsFunction
sign_view (code.Sign.Tuple k) = IsTuple k
sign_view (code.Sign.Record k) = IsRecord k
sign_view (code.Sign.Field k) = IsField k.now
sign_view (code.Sign.Union x m k n) = IsUnion x.now m.now x.now k n
sign_view (code.Sign.Maker x t k) = IsMaker x.now t k
sign_view (code.Sign.Fields k) = IsFields k

abbrev pub signs_view : List code.Sign → List Sign
signs_view s = map sign_view s

abbrev pub rest_view : Option (Bor (List code.Sign)) → Option (List Sign)
rest_view None = None
rest_view (Some s) = Some (signs_view s.now)
