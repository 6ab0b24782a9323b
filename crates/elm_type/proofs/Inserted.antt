-- Insertion among names in order keeps the order, and adds one name.
use Rattle.std.proofs.Common.{◌≡◌, List, [], ◌∷◌, Bool, true, false, refl, sym, ap, ◌∙◌, subst}
use Rattle.std.specs.Prelude.{Contains, ◌⊎◌, if◌then◌else◌}
use mathlib.Core.Logic.{inl, inr, ⊎_elim}
use Rattle.std.proofs.lemmas.Cmp.{nat_list_cmp_total}
use Rattle.std.specs.declared.cmp.Ordering.{Ordering}
use Rattle.std.specs.declared.cmp.Ordering.TheVariants.{Less, Equal, Greater}
use Rattle.std.specs.Ordering.{nat_cmp, is_lt, ordering_reverse}
use Rattle.std.specs.Cmp.Lexicographic.{slice_cmp}
use Rattle.elm_type.specs.Types.{Name}
use Rattle.elm_type.specs.Rows.{name_lt}
use Rattle.elm_type.specs.Order.{insert, in_order, SameNames, OneOrder}
use Rattle.elm_type.proofs.Ascending.{IsBefore, Ascends, one_name, first_or, first_in, rest_in, none_in}
use Rattle.elm_type.proofs.Ascending.{ascends_rest, all_later, one_order}

reversed : (x y : Name) → slice_cmp nat_cmp y x ≡ ordering_reverse (slice_cmp nat_cmp x y)
reversed x y = nat_list_cmp_total.antisymm y x

if_true : {X : Type 0} (b : Bool) (p q : X) → b ≡ true → (if b then p else q) ≡ p
if_true true p q e = refl
if_true false p q e = absurd cc

if_false : {X : Type 0} (b : Bool) (p q : X) → b ≡ false → (if b then p else q) ≡ q
if_false true p q e = absurd cc
if_false false p q e = refl

-- where a name is put before one in order
pub data Put (x y : Name) (ys : List Name) : Type 0 where
  before : IsBefore x y → insert x (y ∷ ys) ≡ x ∷ y ∷ ys → Put x y ys
  there : x ≡ y → insert x (y ∷ ys) ≡ y ∷ ys → Put x y ys
  after : IsBefore y x → insert x (y ∷ ys) ≡ y ∷ insert x ys → Put x y ys

put : (x y : Name) (ys : List Name) → Put x y ys
put x y ys = by (slice_cmp nat_cmp x y) refl
  where
    by : (o : Ordering) → slice_cmp nat_cmp x y ≡ o → Put x y ys
    by Less e = let l = ap is_lt e in before l (if_true (name_lt x y) _ _ l)
    by Equal e =
        let l : name_lt x y ≡ false = ap is_lt e in
        let m : name_lt y x ≡ false = ap is_lt (reversed x y ∙ ap ordering_reverse e) in
        there (one_name x y e) (if_false (name_lt x y) _ _ l ∙ if_false (name_lt y x) _ _ m)
    by Greater e =
        let l : name_lt x y ≡ false = ap is_lt e in
        let m : name_lt y x ≡ true = ap is_lt (reversed x y ∙ ap ordering_reverse e) in
        after m (if_false (name_lt x y) _ _ l ∙ if_true (name_lt y x) _ _ m)

-- ---- its names

inserted_by : (x y : Name) (ys : List Name) (z : Name) → (Contains (insert x ys) z → (x ≡ z) ⊎ Contains ys z) →
    Contains (insert x (y ∷ ys)) z → Put x y ys → (x ≡ z) ⊎ Contains (y ∷ ys) z
inserted_by x y ys z rest h (before l e) = first_or x (y ∷ ys) z (subst (λ zs. Contains zs z) e h)
inserted_by x y ys z rest h (there same e) = inr (subst (λ zs. Contains zs z) e h)
inserted_by x y ys z rest h (after l e) =
    ⊎_elim (λ d. inr (subst (Contains (y ∷ ys)) d (first_in y ys)))
    (λ c. ⊎_elim (λ d. inl d) (λ d. inr (rest_in y ys z d)) (rest c))
    (first_or y (insert x ys) z (subst (λ zs. Contains zs z) e h))

pub inserted : (x : Name) (ys : List Name) (z : Name) → Contains (insert x ys) z → (x ≡ z) ⊎ Contains ys z
inserted x [] z h = first_or x [] z h
inserted x (y ∷ ys) z h = inserted_by x y ys z (inserted x ys z) h (put x y ys)

has_by : (x y : Name) (ys : List Name) → Contains (insert x ys) x → Put x y ys → Contains (insert x (y ∷ ys)) x
has_by x y ys rest (before l e) = subst (λ zs. Contains zs x) (sym e) (first_in x (y ∷ ys))
has_by x y ys rest (there same e) =
    subst (λ zs. Contains zs x) (sym e) (subst (Contains (y ∷ ys)) (sym same) (first_in y ys))
has_by x y ys rest (after l e) = subst (λ zs. Contains zs x) (sym e) (rest_in y (insert x ys) x rest)

pub insert_has : (x : Name) (ys : List Name) → Contains (insert x ys) x
insert_has x [] = first_in x []
insert_has x (y ∷ ys) = has_by x y ys (insert_has x ys) (put x y ys)

keeps_by : (x y : Name) (ys : List Name) (z : Name) → (Contains ys z → Contains (insert x ys) z) →
    Contains (y ∷ ys) z → Put x y ys → Contains (insert x (y ∷ ys)) z
keeps_by x y ys z rest h (before l e) = subst (λ zs. Contains zs z) (sym e) (rest_in x (y ∷ ys) z h)
keeps_by x y ys z rest h (there same e) = subst (λ zs. Contains zs z) (sym e) h
keeps_by x y ys z rest h (after l e) =
    subst (λ zs. Contains zs z) (sym e)
    (⊎_elim (λ d. subst (Contains (y ∷ insert x ys)) d (first_in y (insert x ys)))
    (λ d. rest_in y (insert x ys) z (rest d)) (first_or y ys z h))

pub insert_keeps : (x : Name) (ys : List Name) (z : Name) → Contains ys z → Contains (insert x ys) z
insert_keeps x [] z h = absurd (none_in z h)
insert_keeps x (y ∷ ys) z h = keeps_by x y ys z (insert_keeps x ys z) h (put x y ys)

-- ---- in order

front : (x : Name) (ys : List Name) → Ascends ys → ((z : Name) → Contains ys z → IsBefore x z) → Ascends (x ∷ ys)
front x [] h all = tt
front x (y ∷ ys) h all = (all y (first_in y ys), h)

ascends_by : (x y : Name) (ys : List Name) → Ascends (insert x ys) → Ascends (y ∷ ys) → Put x y ys →
    Ascends (insert x (y ∷ ys))
ascends_by x y ys rest h (before l e) = subst Ascends (sym e) (l, h)
ascends_by x y ys rest h (there same e) = subst Ascends (sym e) h
ascends_by x y ys rest h (after l e) =
    subst Ascends (sym e)
    (front y (insert x ys) rest
    (λ z c. ⊎_elim (λ d. subst (IsBefore y) d l) (λ d. all_later y ys h z d) (inserted x ys z c)))

pub insert_ascends : (x : Name) (ys : List Name) → Ascends ys → Ascends (insert x ys)
insert_ascends x [] h = tt
insert_ascends x (y ∷ ys) h = ascends_by x y ys (insert_ascends x ys (ascends_rest y ys h)) h (put x y ys)

pub in_order_ascends : (xs : List Name) → Ascends (in_order xs)
in_order_ascends [] = tt
in_order_ascends (x ∷ xs) = insert_ascends x (in_order xs) (in_order_ascends xs)

pub to_order : (xs : List Name) (z : Name) → Contains xs z → Contains (in_order xs) z
to_order [] z h = h
to_order (x ∷ xs) z h =
    ⊎_elim (λ d. subst (Contains (insert x (in_order xs))) d (insert_has x (in_order xs)))
    (λ d. insert_keeps x (in_order xs) z (to_order xs z d)) (first_or x xs z h)

pub from_order : (xs : List Name) (z : Name) → Contains (in_order xs) z → Contains xs z
from_order [] z h = h
from_order (x ∷ xs) z h =
    ⊎_elim (λ d. subst (Contains (x ∷ xs)) d (first_in x xs)) (λ d. rest_in x xs z (from_order xs z d))
    (inserted x (in_order xs) z h)

pub same_names : SameNames
same_names xs x = (from_order xs x, to_order xs x)

pub one_form : OneOrder
one_form xs ys same =
    one_order (in_order xs) (in_order ys) (in_order_ascends xs) (in_order_ascends ys)
    (λ z c. to_order ys z ((same z).0 (from_order xs z c))) (λ z c. to_order xs z ((same z).1 (from_order ys z c)))
