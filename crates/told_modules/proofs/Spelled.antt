-- Types and unions that are spelled alike are the same: `same_type`, `same_declared`.
use Rattle.std.proofs.Common.{◌≡◌, ℕ, suc, pos, negsuc, List, [], ◌∷◌, ◌++◌, map, length, Bool, true, false}
use Rattle.std.proofs.Common.{None, refl, sym, ap, ◌∙◌, eqb-true, append_assoc, arith}
use Rattle.std.specs.Prelude.{flat_map, if◌then◌else◌, nat_eq, ℤ}
use Rattle.std.proofs.lemmas.Bool.{and_parts}
use Rattle.runs.specs.Numbers.{is_number}
use Rattle.elm_canon.specs.Names.{Name, same_name}
use Rattle.elm_canon.specs.Unions.{Union, TupleUnion, ListUnion, Declared}
use Rattle.elm_canon.specs.declared.unions.Alternative.{Alternative}
use Rattle.elm_canon.specs.declared.unions.Tag.{Tag}
use Rattle.elm_canon.specs.declared.unions.Tag.TheVariants.{Number, Truth, Blank}
use Rattle.elm_canon.specs.Tree.{Annotation, Variable, NamedType, FunctionType, TupleType, RecordType, ExtendedType}
use Rattle.elm_canon.specs.Tree.{Annotations, NoAnnotation, MoreAnnotation, FieldTypes, NoFieldType, MoreFieldType}
use Rattle.elm_canon.specs.Tree.{UnionDeclaration}
use Rattle.elm_meaning.specs.Seen.{same_tag}
use Rattle.canon_env.proofs.Adding.{one_name}
use Rattle.core_modules.specs.Signs.{Sign, IsVariable, IsNamed, IsFunction, IsTuple, IsRecord, IsExtended, IsField, IsUnion}
use Rattle.core_modules.specs.Signs.{IsGiven, IsMaker, IsFields, count, count_fields, spelled, all_spelled, fields_spelled}
use Rattle.core_modules.specs.Signs.{maker_sign, head_spelled, constructor_spelled, union_spelled, same_sign, left_after}
use Rattle.core_modules.specs.Signs.{is_nothing, same_signs}

-- ---- signs

number_same : (m n : ℤ) → is_number m n ≡ true → m ≡ n
number_same (pos m) (pos n) e = ap (λ i. pos i) (eqb-true m n e)
number_same (negsuc m) (negsuc n) e = ap (λ i. negsuc i) (eqb-true m n e)
number_same (pos m) (negsuc n) e = absurd cc
number_same (negsuc m) (pos n) e = absurd cc

tag_same : (s t : Tag) → same_tag s t ≡ true → s ≡ t
tag_same (Number m) (Number n) e = ap Number (number_same m n e)
tag_same (Truth true) (Truth true) e = refl
tag_same (Truth true) (Truth false) e = absurd cc
tag_same (Truth false) (Truth true) e = absurd cc
tag_same (Truth false) (Truth false) e = refl
tag_same Blank Blank e = refl
tag_same (Number m) (Truth b) e = absurd cc
tag_same (Number m) Blank e = absurd cc
tag_same (Truth b) (Number m) e = absurd cc
tag_same (Truth b) Blank e = absurd cc
tag_same Blank (Number m) e = absurd cc
tag_same Blank (Truth b) e = absurd cc

two : {A B C : Type 0} (f : A → B → C) {a b : A} {c d : B} → a ≡ b → c ≡ d → f a c ≡ f b d
two f {a} {b} {c} {d} e h = ap (λ x. f x c) e ∙ ap (f b) h

sign_same : (a b : Sign) → same_sign a b ≡ true → a ≡ b
sign_same (IsVariable a) (IsVariable b) e = ap IsVariable (one_name a b e)
sign_same (IsNamed m x k) (IsNamed n y l) e =
    let p = and_parts (same_name m n) _ e in
    let q = and_parts (same_name x y) (nat_eq k l) p.1 in
    ap (λ z. IsNamed z x k) (one_name m n p.0) ∙ two (IsNamed n) (one_name x y q.0) (eqb-true k l q.1)
sign_same IsFunction IsFunction e = refl
sign_same (IsTuple k) (IsTuple l) e = ap IsTuple (eqb-true k l e)
sign_same (IsRecord k) (IsRecord l) e = ap IsRecord (eqb-true k l e)
sign_same (IsExtended a k) (IsExtended b l) e =
    let p = and_parts (same_name a b) (nat_eq k l) e in two IsExtended (one_name a b p.0) (eqb-true k l p.1)
sign_same (IsField j) (IsField k) e = ap IsField (one_name j k e)
sign_same (IsUnion x m y k n) (IsUnion z o w l q) e =
    let a = and_parts (same_name x z) _ e in
    let b = and_parts (same_name m o) _ a.1 in
    let c = and_parts (same_name y w) _ b.1 in
    let d = and_parts (nat_eq k l) (nat_eq n q) c.1 in
    ap (λ v. IsUnion v m y k n) (one_name x z a.0) ∙ ap (λ v. IsUnion z v y k n) (one_name m o b.0)
    ∙ ap (λ v. IsUnion z o v k n) (one_name y w c.0) ∙ two (IsUnion z o w) (eqb-true k l d.0) (eqb-true n q d.1)
sign_same IsGiven IsGiven e = refl
sign_same (IsMaker x s k) (IsMaker y t l) e =
    let p = and_parts (same_name x y) _ e in
    let q = and_parts (same_tag s t) (nat_eq k l) p.1 in
    ap (λ z. IsMaker z s k) (one_name x y p.0) ∙ two (IsMaker y) (tag_same s t q.0) (eqb-true k l q.1)
sign_same (IsFields k) (IsFields l) e = ap IsFields (eqb-true k l e)
sign_same (IsVariable a) (IsNamed m0 x0 k0) e = absurd cc
sign_same (IsVariable a) IsFunction e = absurd cc
sign_same (IsVariable a) (IsTuple k0) e = absurd cc
sign_same (IsVariable a) (IsRecord k0) e = absurd cc
sign_same (IsVariable a) (IsExtended a0 k0) e = absurd cc
sign_same (IsVariable a) (IsField k0) e = absurd cc
sign_same (IsVariable a) (IsUnion x0 m0 y0 k0 n0) e = absurd cc
sign_same (IsVariable a) IsGiven e = absurd cc
sign_same (IsVariable a) (IsMaker x0 s0 k0) e = absurd cc
sign_same (IsVariable a) (IsFields k0) e = absurd cc
sign_same (IsNamed m x k) (IsVariable a0) e = absurd cc
sign_same (IsNamed m x k) IsFunction e = absurd cc
sign_same (IsNamed m x k) (IsTuple k0) e = absurd cc
sign_same (IsNamed m x k) (IsRecord k0) e = absurd cc
sign_same (IsNamed m x k) (IsExtended a0 k0) e = absurd cc
sign_same (IsNamed m x k) (IsField k0) e = absurd cc
sign_same (IsNamed m x k) (IsUnion x0 m0 y0 k0 n0) e = absurd cc
sign_same (IsNamed m x k) IsGiven e = absurd cc
sign_same (IsNamed m x k) (IsMaker x0 s0 k0) e = absurd cc
sign_same (IsNamed m x k) (IsFields k0) e = absurd cc
sign_same IsFunction (IsVariable a0) e = absurd cc
sign_same IsFunction (IsNamed m0 x0 k0) e = absurd cc
sign_same IsFunction (IsTuple k0) e = absurd cc
sign_same IsFunction (IsRecord k0) e = absurd cc
sign_same IsFunction (IsExtended a0 k0) e = absurd cc
sign_same IsFunction (IsField k0) e = absurd cc
sign_same IsFunction (IsUnion x0 m0 y0 k0 n0) e = absurd cc
sign_same IsFunction IsGiven e = absurd cc
sign_same IsFunction (IsMaker x0 s0 k0) e = absurd cc
sign_same IsFunction (IsFields k0) e = absurd cc
sign_same (IsTuple k) (IsVariable a0) e = absurd cc
sign_same (IsTuple k) (IsNamed m0 x0 k0) e = absurd cc
sign_same (IsTuple k) IsFunction e = absurd cc
sign_same (IsTuple k) (IsRecord k0) e = absurd cc
sign_same (IsTuple k) (IsExtended a0 k0) e = absurd cc
sign_same (IsTuple k) (IsField k0) e = absurd cc
sign_same (IsTuple k) (IsUnion x0 m0 y0 k0 n0) e = absurd cc
sign_same (IsTuple k) IsGiven e = absurd cc
sign_same (IsTuple k) (IsMaker x0 s0 k0) e = absurd cc
sign_same (IsTuple k) (IsFields k0) e = absurd cc
sign_same (IsRecord k) (IsVariable a0) e = absurd cc
sign_same (IsRecord k) (IsNamed m0 x0 k0) e = absurd cc
sign_same (IsRecord k) IsFunction e = absurd cc
sign_same (IsRecord k) (IsTuple k0) e = absurd cc
sign_same (IsRecord k) (IsExtended a0 k0) e = absurd cc
sign_same (IsRecord k) (IsField k0) e = absurd cc
sign_same (IsRecord k) (IsUnion x0 m0 y0 k0 n0) e = absurd cc
sign_same (IsRecord k) IsGiven e = absurd cc
sign_same (IsRecord k) (IsMaker x0 s0 k0) e = absurd cc
sign_same (IsRecord k) (IsFields k0) e = absurd cc
sign_same (IsExtended a k) (IsVariable a0) e = absurd cc
sign_same (IsExtended a k) (IsNamed m0 x0 k0) e = absurd cc
sign_same (IsExtended a k) IsFunction e = absurd cc
sign_same (IsExtended a k) (IsTuple k0) e = absurd cc
sign_same (IsExtended a k) (IsRecord k0) e = absurd cc
sign_same (IsExtended a k) (IsField k0) e = absurd cc
sign_same (IsExtended a k) (IsUnion x0 m0 y0 k0 n0) e = absurd cc
sign_same (IsExtended a k) IsGiven e = absurd cc
sign_same (IsExtended a k) (IsMaker x0 s0 k0) e = absurd cc
sign_same (IsExtended a k) (IsFields k0) e = absurd cc
sign_same (IsField k) (IsVariable a0) e = absurd cc
sign_same (IsField k) (IsNamed m0 x0 k0) e = absurd cc
sign_same (IsField k) IsFunction e = absurd cc
sign_same (IsField k) (IsTuple k0) e = absurd cc
sign_same (IsField k) (IsRecord k0) e = absurd cc
sign_same (IsField k) (IsExtended a0 k0) e = absurd cc
sign_same (IsField k) (IsUnion x0 m0 y0 k0 n0) e = absurd cc
sign_same (IsField k) IsGiven e = absurd cc
sign_same (IsField k) (IsMaker x0 s0 k0) e = absurd cc
sign_same (IsField k) (IsFields k0) e = absurd cc
sign_same (IsUnion x m y k n) (IsVariable a0) e = absurd cc
sign_same (IsUnion x m y k n) (IsNamed m0 x0 k0) e = absurd cc
sign_same (IsUnion x m y k n) IsFunction e = absurd cc
sign_same (IsUnion x m y k n) (IsTuple k0) e = absurd cc
sign_same (IsUnion x m y k n) (IsRecord k0) e = absurd cc
sign_same (IsUnion x m y k n) (IsExtended a0 k0) e = absurd cc
sign_same (IsUnion x m y k n) (IsField k0) e = absurd cc
sign_same (IsUnion x m y k n) IsGiven e = absurd cc
sign_same (IsUnion x m y k n) (IsMaker x0 s0 k0) e = absurd cc
sign_same (IsUnion x m y k n) (IsFields k0) e = absurd cc
sign_same IsGiven (IsVariable a0) e = absurd cc
sign_same IsGiven (IsNamed m0 x0 k0) e = absurd cc
sign_same IsGiven IsFunction e = absurd cc
sign_same IsGiven (IsTuple k0) e = absurd cc
sign_same IsGiven (IsRecord k0) e = absurd cc
sign_same IsGiven (IsExtended a0 k0) e = absurd cc
sign_same IsGiven (IsField k0) e = absurd cc
sign_same IsGiven (IsUnion x0 m0 y0 k0 n0) e = absurd cc
sign_same IsGiven (IsMaker x0 s0 k0) e = absurd cc
sign_same IsGiven (IsFields k0) e = absurd cc
sign_same (IsMaker x s k) (IsVariable a0) e = absurd cc
sign_same (IsMaker x s k) (IsNamed m0 x0 k0) e = absurd cc
sign_same (IsMaker x s k) IsFunction e = absurd cc
sign_same (IsMaker x s k) (IsTuple k0) e = absurd cc
sign_same (IsMaker x s k) (IsRecord k0) e = absurd cc
sign_same (IsMaker x s k) (IsExtended a0 k0) e = absurd cc
sign_same (IsMaker x s k) (IsField k0) e = absurd cc
sign_same (IsMaker x s k) (IsUnion x0 m0 y0 k0 n0) e = absurd cc
sign_same (IsMaker x s k) IsGiven e = absurd cc
sign_same (IsMaker x s k) (IsFields k0) e = absurd cc
sign_same (IsFields k) (IsVariable a0) e = absurd cc
sign_same (IsFields k) (IsNamed m0 x0 k0) e = absurd cc
sign_same (IsFields k) IsFunction e = absurd cc
sign_same (IsFields k) (IsTuple k0) e = absurd cc
sign_same (IsFields k) (IsRecord k0) e = absurd cc
sign_same (IsFields k) (IsExtended a0 k0) e = absurd cc
sign_same (IsFields k) (IsField k0) e = absurd cc
sign_same (IsFields k) (IsUnion x0 m0 y0 k0 n0) e = absurd cc
sign_same (IsFields k) IsGiven e = absurd cc
sign_same (IsFields k) (IsMaker x0 s0 k0) e = absurd cc

signs_same : (s t : List Sign) → same_signs s t ≡ true → s ≡ t
signs_same [] [] e = refl
signs_same [] (b ∷ t) e = absurd cc
signs_same (a ∷ s) [] e = absurd cc
signs_same (a ∷ s) (b ∷ t) e = by (same_sign a b) refl e (signs_same s t)
  where
    by : (x : Bool) → same_sign a b ≡ x → is_nothing (if x then left_after s t else None) ≡ true →
        (same_signs s t ≡ true → s ≡ t) → a ∷ s ≡ b ∷ t
    by true h e rest = two (λ c r. c ∷ r) (sign_same a b h) (rest e)
    by false h e rest = absurd cc

-- ---- types

cons_parts : {X : Type 0} (x y : X) (xs ys : List X) → x ∷ xs ≡ y ∷ ys → (x ≡ y) × (xs ≡ ys)
cons_parts x y xs ys e = (cc, cc)

-- what the first sign tells
variable_from : (a b : Name) → IsVariable a ≡ IsVariable b → Variable a ≡ Variable b
variable_from a b h = (let z : a ≡ b = cc in ap Variable z)

named_from : (m n x y : Name) (ts us : Annotations) → IsNamed m x (count ts) ≡ IsNamed n y (count us) → ts ≡ us →
    NamedType m x ts ≡ NamedType n y us
named_from m n x y ts us h e =
    let a : m ≡ n = cc in
    let b : x ≡ y = cc in
    ap (λ z. NamedType z x ts) a ∙ two (NamedType n) b e

named_count : (m n x y : Name) (k l : ℕ) → IsNamed m x k ≡ IsNamed n y l → k ≡ l
named_count m n x y k l h = cc

tuple_count : (k l : ℕ) → IsTuple k ≡ IsTuple l → k ≡ l
tuple_count k l h = cc

record_count : (k l : ℕ) → IsRecord k ≡ IsRecord l → k ≡ l
record_count k l h = cc

extended_parts : (a b : Name) (k l : ℕ) → IsExtended a k ≡ IsExtended b l → (a ≡ b) × (k ≡ l)
extended_parts a b k l h = (cc, cc)

field_from : (j k : Name) → IsField j ≡ IsField k → j ≡ k
field_from j k h = cc

one_less : (k l : ℕ) → suc k ≡ suc l → k ≡ l
one_less k l h = omega (arith, h)

mutual
  type_apart : (t u : Annotation) (r s : List Sign) → spelled t ++ r ≡ spelled u ++ s → (t ≡ u) × (r ≡ s)
  type_apart (Variable a) (Variable b) r s e =
      let p = cons_parts (IsVariable a) (IsVariable b) r s e in (variable_from a b p.0, p.1)
  type_apart (NamedType m x ts) (NamedType n y us) r s e =
      let p = cons_parts (IsNamed m x (count ts)) (IsNamed n y (count us)) _ _ e in
      let q = types_apart ts us r s (named_count m n x y (count ts) (count us) p.0) p.1 in
      (named_from m n x y ts us p.0 q.0, q.1)
  type_apart (FunctionType t u) (FunctionType v w) r s e =
      let p = cons_parts IsFunction IsFunction _ _ e in
      let q = type_apart t v (spelled u ++ r) (spelled w ++ s)
      (sym (append_assoc (spelled t) (spelled u) r) ∙ p.1 ∙ append_assoc (spelled v) (spelled w) s) in
      let k = type_apart u w r s q.1 in
      (two FunctionType q.0 k.0, k.1)
  type_apart (TupleType ts) (TupleType us) r s e =
      let p = cons_parts (IsTuple (count ts)) (IsTuple (count us)) _ _ e in
      let q = types_apart ts us r s (tuple_count (count ts) (count us) p.0) p.1 in
      (ap TupleType q.0, q.1)
  type_apart (RecordType fs) (RecordType gs) r s e =
      let p = cons_parts (IsRecord (count_fields fs)) (IsRecord (count_fields gs)) _ _ e in
      let q = fields_apart fs gs r s (record_count (count_fields fs) (count_fields gs) p.0) p.1 in
      (ap RecordType q.0, q.1)
  type_apart (ExtendedType a fs) (ExtendedType b gs) r s e =
      let p = cons_parts (IsExtended a (count_fields fs)) (IsExtended b (count_fields gs)) _ _ e in
      let h = extended_parts a b (count_fields fs) (count_fields gs) p.0 in
      let q = fields_apart fs gs r s h.1 p.1 in
      (two ExtendedType h.0 q.0, q.1)
  type_apart (Variable a) (NamedType m0 x0 ts0) r s e = absurd cc
  type_apart (Variable a) (FunctionType t0 u0) r s e = absurd cc
  type_apart (Variable a) (TupleType ts0) r s e = absurd cc
  type_apart (Variable a) (RecordType fs0) r s e = absurd cc
  type_apart (Variable a) (ExtendedType a0 fs0) r s e = absurd cc
  type_apart (NamedType m x ts) (Variable a0) r s e = absurd cc
  type_apart (NamedType m x ts) (FunctionType t0 u0) r s e = absurd cc
  type_apart (NamedType m x ts) (TupleType ts0) r s e = absurd cc
  type_apart (NamedType m x ts) (RecordType fs0) r s e = absurd cc
  type_apart (NamedType m x ts) (ExtendedType a0 fs0) r s e = absurd cc
  type_apart (FunctionType t u) (Variable a0) r s e = absurd cc
  type_apart (FunctionType t u) (NamedType m0 x0 ts0) r s e = absurd cc
  type_apart (FunctionType t u) (TupleType ts0) r s e = absurd cc
  type_apart (FunctionType t u) (RecordType fs0) r s e = absurd cc
  type_apart (FunctionType t u) (ExtendedType a0 fs0) r s e = absurd cc
  type_apart (TupleType ts) (Variable a0) r s e = absurd cc
  type_apart (TupleType ts) (NamedType m0 x0 ts0) r s e = absurd cc
  type_apart (TupleType ts) (FunctionType t0 u0) r s e = absurd cc
  type_apart (TupleType ts) (RecordType fs0) r s e = absurd cc
  type_apart (TupleType ts) (ExtendedType a0 fs0) r s e = absurd cc
  type_apart (RecordType fs) (Variable a0) r s e = absurd cc
  type_apart (RecordType fs) (NamedType m0 x0 ts0) r s e = absurd cc
  type_apart (RecordType fs) (FunctionType t0 u0) r s e = absurd cc
  type_apart (RecordType fs) (TupleType ts0) r s e = absurd cc
  type_apart (RecordType fs) (ExtendedType a0 fs0) r s e = absurd cc
  type_apart (ExtendedType a fs) (Variable a0) r s e = absurd cc
  type_apart (ExtendedType a fs) (NamedType m0 x0 ts0) r s e = absurd cc
  type_apart (ExtendedType a fs) (FunctionType t0 u0) r s e = absurd cc
  type_apart (ExtendedType a fs) (TupleType ts0) r s e = absurd cc
  type_apart (ExtendedType a fs) (RecordType fs0) r s e = absurd cc

  types_apart : (ts us : Annotations) (r s : List Sign) → count ts ≡ count us →
      all_spelled ts ++ r ≡ all_spelled us ++ s → (ts ≡ us) × (r ≡ s)
  types_apart NoAnnotation NoAnnotation r s c e = (refl, e)
  types_apart NoAnnotation (MoreAnnotation u us) r s c e = absurd (omega (arith, c))
  types_apart (MoreAnnotation t ts) NoAnnotation r s c e = absurd (omega (arith, c))
  types_apart (MoreAnnotation t ts) (MoreAnnotation u us) r s c e =
      let p = type_apart t u (all_spelled ts ++ r) (all_spelled us ++ s)
      (sym (append_assoc (spelled t) (all_spelled ts) r) ∙ e ∙ append_assoc (spelled u) (all_spelled us) s) in
      let q = types_apart ts us r s (one_less (count ts) (count us) c) p.1 in
      (two MoreAnnotation p.0 q.0, q.1)

  fields_apart : (fs gs : FieldTypes) (r s : List Sign) → count_fields fs ≡ count_fields gs →
      fields_spelled fs ++ r ≡ fields_spelled gs ++ s → (fs ≡ gs) × (r ≡ s)
  fields_apart NoFieldType NoFieldType r s c e = (refl, e)
  fields_apart NoFieldType (MoreFieldType k u gs) r s c e = absurd (omega (arith, c))
  fields_apart (MoreFieldType j t fs) NoFieldType r s c e = absurd (omega (arith, c))
  fields_apart (MoreFieldType j t fs) (MoreFieldType k u gs) r s c e =
      let h = cons_parts (IsField j) (IsField k) _ _ e in
      let p = type_apart t u (fields_spelled fs ++ r) (fields_spelled gs ++ s)
      (sym (append_assoc (spelled t) (fields_spelled fs) r) ∙ h.1 ∙ append_assoc (spelled u) (fields_spelled gs) s) in
      let q = fields_apart fs gs r s (one_less (count_fields fs) (count_fields gs) c) p.1 in
      (ap (λ z. MoreFieldType z t fs) (field_from j k h.0) ∙ two (MoreFieldType k) p.0 q.0, q.1)

pub same_type : (t u : Annotation) → same_signs (spelled t) (spelled u) ≡ true → t ≡ u
same_type t u e = (type_apart t u [] [] (ap (λ s. s ++ []) (signs_same (spelled t) (spelled u) e))).0

-- ---- unions

-- lists of signs that begin with as many
mapped_apart : {X : Type 0} (f : X → Sign) → ((x y : X) → f x ≡ f y → x ≡ y) → (xs ys : List X) (r s : List Sign) →
    length xs ≡ length ys → map f xs ++ r ≡ map f ys ++ s → (xs ≡ ys) × (r ≡ s)
mapped_apart f one [] [] r s l e = (refl, e)
mapped_apart f one [] (y ∷ ys) r s l e = absurd (omega (arith, l))
mapped_apart f one (x ∷ xs) [] r s l e = absurd (omega (arith, l))
mapped_apart f one (x ∷ xs) (y ∷ ys) r s l e =
    let p = cons_parts (f x) (f y) _ _ e in
    let q = mapped_apart f one xs ys r s (one_less (length xs) (length ys) l) p.1 in
    (two (λ z zs. z ∷ zs) (one x y p.0) q.0, q.1)

maker_from : (c d : Alternative) → maker_sign c ≡ maker_sign d → c ≡ d
maker_from c d h =
    let a : c.name ≡ d.name = cc in
    let b : c.tag ≡ d.tag = cc in
    let k : c.arity ≡ d.arity = cc in
    ap (λ z. record { name = z; tag = c.tag; arity = c.arity }) a
    ∙ ap (λ z. record { name = d.name; tag = z; arity = c.arity }) b
    ∙ ap (λ z. record { name = d.name; tag = d.tag; arity = z }) k

name_from : (a b : Name) → IsVariable a ≡ IsVariable b → a ≡ b
name_from a b h = cc

fields_count : (k l : ℕ) → IsFields k ≡ IsFields l → k ≡ l
fields_count k l h = cc

all_fields_apart : (fs gs : List Annotations) → flat_map constructor_spelled fs ≡ flat_map constructor_spelled gs →
    fs ≡ gs
all_fields_apart [] [] e = refl
all_fields_apart [] (g ∷ gs) e = absurd cc
all_fields_apart (f ∷ fs) [] e = absurd cc
all_fields_apart (f ∷ fs) (g ∷ gs) e =
    let p = cons_parts (IsFields (count f)) (IsFields (count g)) _ _ e in
    let q = types_apart f g _ _ (fields_count (count f) (count g) p.0) p.1 in
    two (λ z zs. z ∷ zs) q.0 (all_fields_apart fs gs q.1)

head_from : (x z m o y w : Name) (k l n p : ℕ) → IsUnion x m y k n ≡ IsUnion z o w l p →
    ((x ≡ z) × (m ≡ o)) × ((y ≡ w) × ((k ≡ l) × (n ≡ p)))
head_from x z m o y w k l n p h = ((cc, cc), (cc, (cc, cc)))

module _ (x z : Name) (ps qs : List Name) (fs gs : List Annotations) where
  abbrev rest : List Name → List Annotations → List Sign
  rest as_ hs = map IsVariable as_ ++ flat_map constructor_spelled hs

  abbrev made : Name → Union → List Name → List Annotations → UnionDeclaration
  made a u as_ hs = record { name = a; union = u; parameters = as_; fields = hs }

  parts_apart : (u v : Union) → head_spelled x (length ps) u ++ rest ps fs ≡ head_spelled z (length qs) v ++ rest qs gs →
      (m y : Name) (cs : List Alternative) → v ≡ Declared m y cs → made x u ps fs ≡ made z v qs gs
  parts_apart (TupleUnion k) (Declared o w ds) e m y cs is = absurd cc
  parts_apart ListUnion (Declared o w ds) e m y cs is = absurd cc
  parts_apart u (TupleUnion k) e m y cs is = absurd cc
  parts_apart u ListUnion e m y cs is = absurd cc
  parts_apart (Declared n v bs) (Declared o w ds) e m y cs is =
      let h = cons_parts (IsUnion x n v (length bs) (length ps)) (IsUnion z o w (length ds) (length qs)) _ _ e in
      let k = head_from x z n o v w (length bs) (length ds) (length ps) (length qs) h.0 in
      let p = mapped_apart maker_sign maker_from bs ds (rest ps fs) (rest qs gs) k.1.1.0 h.1 in
      let q = mapped_apart IsVariable name_from ps qs _ _ k.1.1.1 p.1 in
      ap (λ a. made a (Declared n v bs) ps fs) k.0.0
      ∙ ap (λ a. made z (Declared a v bs) ps fs) k.0.1
      ∙ ap (λ a. made z (Declared o a bs) ps fs) k.1.0
      ∙ ap (λ a. made z (Declared o w a) ps fs) p.0
      ∙ ap (λ a. made z (Declared o w ds) a fs) q.0
      ∙ ap (λ a. made z (Declared o w ds) qs a) (all_fields_apart fs gs q.1)

-- what is spelled as a declared union is that union
pub same_declared : (u v : UnionDeclaration) (m y : Name) (cs : List Alternative) → v.union ≡ Declared m y cs →
    same_signs (union_spelled u) (union_spelled v) ≡ true → u ≡ v
same_declared u v m y cs is e =
    parts_apart u.name v.name u.parameters v.parameters u.fields v.fields u.union v.union
    (sym (append_assoc (head_spelled u.name (length u.parameters) u.union) (map IsVariable u.parameters)
    (flat_map constructor_spelled u.fields))
    ∙ signs_same (union_spelled u) (union_spelled v) e
    ∙ append_assoc (head_spelled v.name (length v.parameters) v.union) (map IsVariable v.parameters)
    (flat_map constructor_spelled v.fields)) m y cs is
