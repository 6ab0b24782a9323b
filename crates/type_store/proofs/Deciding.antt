-- Two ground types are the same, or not.
use Rattle.std.proofs.Common.{◌≡◌, ℕ, zero, suc, List, [], ◌∷◌, Bool, true, false, refl, sym, ap, ◌∙◌, subst}
use Rattle.std.specs.Str.{bytes_eq}
use Rattle.elm_type.specs.Types.{Name, Rigid, ElmTypes, Fields, End, Closed, Over, Made, Record, NoType, MoreType, NoField, MoreField}
use Rattle.elm_type.specs.Classes.{Ground}
use Rattle.elm_type.specs.declared.class.Class.{Class}
use Rattle.elm_type.specs.declared.class.Class.TheVariants.{Any, Number, Comparable, Appendable, CompAppend}
use Rattle.elm_type.specs.declared.head.Head.{Head}
use Rattle.elm_type.specs.declared.head.Head.TheVariants.{Named, Function, Tuple}
use Rattle.type_store.proofs.Names.{same_name, equal_itself}
use Rattle.type_store.proofs.Turns.{Yes, Not, which}

pub data Told {X : Type 0} (x y : X) : Type 0 where
  Equal : x ≡ y → Told x y
  Other : (x ≡ y → ⊥) → Told x y

tell_name : (x y : Name) → Told x y
tell_name x y = go (bytes_eq x y) refl
  where
    go : (b : Bool) → bytes_eq x y ≡ b → Told x y
    go true e = Equal (same_name x y e)
    go false e = Other (λ q. (let a : bytes_eq x y ≡ true = subst (λ z. bytes_eq x z ≡ true) q (equal_itself x) in cc))

tell_names : (xs ys : List Name) → Told xs ys
tell_names [] [] = Equal refl
tell_names [] (y ∷ ys) = Other (λ e. cc)
tell_names (x ∷ xs) [] = Other (λ e. cc)
tell_names (x ∷ xs) (y ∷ ys) = go (tell_name x y) (tell_names xs ys)
  where
    go : Told x y → Told xs ys → Told (x ∷ xs) (y ∷ ys)
    go (Equal a) (Equal b) = Equal (ap (λ z. z ∷ xs) a ∙ ap (λ zs. y ∷ zs) b)
    go (Equal a) (Other n) = Other (λ e. n (let q : xs ≡ ys = cc in q))
    go (Other n) b = Other (λ e. n (let q : x ≡ y = cc in q))

-- ---- classes, by numbers

abbrev class_number : Class → ℕ
class_number Any = 0
class_number Number = 1
class_number Comparable = 2
class_number Appendable = 3
class_number CompAppend = 4

abbrev numbered : ℕ → Class
numbered zero = Any
numbered (suc zero) = Number
numbered (suc (suc zero)) = Comparable
numbered (suc (suc (suc zero))) = Appendable
numbered (suc (suc (suc (suc n)))) = CompAppend

class_back : (c : Class) → numbered (class_number c) ≡ c
class_back Any = refl
class_back Number = refl
class_back Comparable = refl
class_back Appendable = refl
class_back CompAppend = refl

tell_number : (m n : ℕ) → Told m n
tell_number m n = elim (which m n) [
  | Yes e ↦ Equal e
  | Not e ↦ Other e
]

tell_class : (c d : Class) → Told c d
tell_class c d = go (tell_number (class_number c) (class_number d))
  where
    go : Told (class_number c) (class_number d) → Told c d
    go (Equal e) = Equal (sym (class_back c) ∙ (ap numbered e ∙ class_back d))
    go (Other n) = Other (λ e. n (ap class_number e))

-- ---- constants

rigid_same : (r t : Rigid) → r.place ≡ t.place → r.name ≡ t.name → r.class ≡ t.class → r.lacks ≡ t.lacks → r ≡ t
rigid_same r t a b c d =
    ap (λ z. record { place = z; name = r.name; class = r.class; lacks = r.lacks }) a
    ∙ (ap (λ z. record { place = t.place; name = z; class = r.class; lacks = r.lacks }) b
    ∙ (ap (λ z. record { place = t.place; name = t.name; class = z; lacks = r.lacks }) c
    ∙ ap (λ z. record { place = t.place; name = t.name; class = t.class; lacks = z }) d))

tell_rigid : (r t : Rigid) → Told r t
tell_rigid r t = go (tell_name r.place t.place) (tell_name r.name t.name) (tell_class r.class t.class) (tell_names r.lacks t.lacks)
  where
    go : Told r.place t.place → Told r.name t.name → Told r.class t.class → Told r.lacks t.lacks → Told r t
    go (Equal a) (Equal b) (Equal c) (Equal d) = Equal (rigid_same r t a b c d)
    go (Equal a) (Equal b) (Equal c) (Other n) = Other (λ e. n (ap (λ (x : Rigid). x.lacks) e))
    go (Equal a) (Equal b) (Other n) d = Other (λ e. n (ap (λ (x : Rigid). x.class) e))
    go (Equal a) (Other n) c d = Other (λ e. n (ap (λ (x : Rigid). x.name) e))
    go (Other n) b c d = Other (λ e. n (ap (λ (x : Rigid). x.place) e))

-- ---- types

tell_head : (h j : Head) → Told h j
tell_head (Named m x) (Named k y) = go (tell_name m k) (tell_name x y)
  where
    go : Told m k → Told x y → Told (Named m x) (Named k y)
    go (Equal a) (Equal b) = Equal (ap (λ z. Named z x) a ∙ ap (Named k) b)
    go (Equal a) (Other n) = Other (λ e. n (let q : x ≡ y = cc in q))
    go (Other n) b = Other (λ e. n (let q : m ≡ k = cc in q))
tell_head (Named m x) Function = Other (λ e. cc)
tell_head (Named m x) Tuple = Other (λ e. cc)
tell_head Function (Named k y) = Other (λ e. cc)
tell_head Function Function = Equal refl
tell_head Function Tuple = Other (λ e. cc)
tell_head Tuple (Named k y) = Other (λ e. cc)
tell_head Tuple Function = Other (λ e. cc)
tell_head Tuple Tuple = Equal refl

tell_end : (a b : End Rigid) → Told a b
tell_end Closed Closed = Equal refl
tell_end Closed (Over r) = Other (λ e. cc)
tell_end (Over r) Closed = Other (λ e. cc)
tell_end (Over r) (Over t) = go (tell_rigid r t)
  where
    go : Told r t → Told (Over r) (Over t)
    go (Equal a) = Equal (ap Over a)
    go (Other n) = Other (λ e. n (let q : r ≡ t = cc in q))

made_told : (h j : Head) (ts us : ElmTypes Rigid) → Told h j → Told ts us → Told (Made h ts) (Made j us)
made_told h j ts us (Equal a) (Equal b) = Equal (ap (λ z. Made z ts) a ∙ ap (Made j) b)
made_told h j ts us (Equal a) (Other n) = Other (λ e. n (let q : ts ≡ us = cc in q))
made_told h j ts us (Other n) b = Other (λ e. n (let q : h ≡ j = cc in q))

record_told : (fs gs : Fields Rigid) (a b : End Rigid) → Told fs gs → Told a b → Told (Record fs a) (Record gs b)
record_told fs gs a b (Equal p) (Equal q) = Equal (ap (λ z. Record z a) p ∙ ap (Record gs) q)
record_told fs gs a b (Equal p) (Other n) = Other (λ e. n (let q : a ≡ b = cc in q))
record_told fs gs a b (Other n) q = Other (λ e. n (let p : fs ≡ gs = cc in p))

types_told : (t u : Ground) (ts us : ElmTypes Rigid) → Told t u → Told ts us → Told (MoreType t ts) (MoreType u us)
types_told t u ts us (Equal p) (Equal q) = Equal (ap (λ z. MoreType z ts) p ∙ ap (MoreType u) q)
types_told t u ts us (Equal p) (Other n) = Other (λ e. n (let q : ts ≡ us = cc in q))
types_told t u ts us (Other n) q = Other (λ e. n (let p : t ≡ u = cc in p))

fields_told : (k m : Name) (t u : Ground) (fs gs : Fields Rigid) → Told k m → Told t u → Told fs gs → Told (MoreField k t fs) (MoreField m u gs)
fields_told k m t u fs gs (Equal a) (Equal p) (Equal q) =
    Equal (ap (λ z. MoreField z t fs) a ∙ (ap (λ z. MoreField m z fs) p ∙ ap (MoreField m u) q))
fields_told k m t u fs gs (Equal a) (Equal p) (Other n) = Other (λ e. n (let q : fs ≡ gs = cc in q))
fields_told k m t u fs gs (Equal a) (Other n) q = Other (λ e. n (let p : t ≡ u = cc in p))
fields_told k m t u fs gs (Other n) p q = Other (λ e. n (let a : k ≡ m = cc in a))

mutual
  pub tell : (t u : Ground) → Told t u
  tell (Made h ts) (Made j us) = made_told h j ts us (tell_head h j) (tell_all ts us)
  tell (Made h ts) (Record gs b) = Other (λ e. cc)
  tell (Record fs a) (Made j us) = Other (λ e. cc)
  tell (Record fs a) (Record gs b) = record_told fs gs a b (tell_fields fs gs) (tell_end a b)

  tell_all : (ts us : ElmTypes Rigid) → Told ts us
  tell_all NoType NoType = Equal refl
  tell_all NoType (MoreType u us) = Other (λ e. cc)
  tell_all (MoreType t ts) NoType = Other (λ e. cc)
  tell_all (MoreType t ts) (MoreType u us) = types_told t u ts us (tell t u) (tell_all ts us)

  tell_fields : (fs gs : Fields Rigid) → Told fs gs
  tell_fields NoField NoField = Equal refl
  tell_fields NoField (MoreField m u gs) = Other (λ e. cc)
  tell_fields (MoreField k t fs) NoField = Other (λ e. cc)
  tell_fields (MoreField k t fs) (MoreField m u gs) = fields_told k m t u fs gs (tell_name k m) (tell t u) (tell_fields fs gs)
