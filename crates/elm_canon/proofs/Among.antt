-- Names among names.
use Rattle.std.proofs.Common.{◌≡◌, List, [], ◌∷◌, ◌++◌, Bool, true, false, cond, refl, sym, ap, ◌∙◌, ◌⊎◌, inl, inr}
use Rattle.std.specs.Prelude.{◌&&◌}
use Rattle.std.proofs.lemmas.Slice.Eq.{bytes_eq-Decides}
use Rattle.elm_canon.specs.Names.{Name, same_name, same_ref}
use Rattle.elm_canon.specs.declared.reference.Ref.{Ref}
use Rattle.elm_canon.specs.declared.reference.Ref.TheVariants.{Local, Top}
use Rattle.elm_canon.specs.Tree.{Groups, NoGroup, MoreGroup}
use Rattle.elm_canon.specs.Proper.{Scope, among, IsIn, with_all, AreFresh, group_names, after}
use Rattle.elm_canon.specs.Apart.{let_names}

-- ---- the same name

one_name : (x y : Name) → same_name x y ≡ true → x ≡ y
one_name x y e = (bytes_eq-Decides x y).0 e

name_itself : (x : Name) → same_name x x ≡ true
name_itself x = (bytes_eq-Decides x x).1 refl

and_left : (a b : Bool) → (a && b) ≡ true → a ≡ true
and_left true b e = refl
and_left false b e = e

and_right : (a b : Bool) → (a && b) ≡ true → b ≡ true
and_right true b e = e
and_right false b e = absurd cc

pub one_ref : (x y : Ref) → same_ref x y ≡ true → x ≡ y
one_ref (Local x) (Local y) e = ap Local (one_name x y e)
one_ref (Local x) (Top n y) e = absurd cc
one_ref (Top m x) (Local y) e = absurd cc
one_ref (Top m x) (Top n y) e =
    ap (λ k. Top k x) (one_name m n (and_left (same_name m n) (same_name x y) e))
    ∙ ap (Top n) (one_name x y (and_right (same_name m n) (same_name x y) e))

pub ref_itself : (x : Ref) → same_ref x x ≡ true
ref_itself (Local x) = name_itself x
ref_itself (Top m x) = ap (λ b. b && same_name x x) (name_itself m) ∙ name_itself x

-- ---- among names

pub first : (x : Ref) (xs : List Ref) → IsIn x (x ∷ xs)
first x xs = ap (λ b. cond b true (among x xs)) (ref_itself x)

pub later : (x y : Ref) (xs : List Ref) → IsIn x xs → IsIn x (y ∷ xs)
later x y xs e = go (same_ref x y)
  where
    go : (b : Bool) → cond b true (among x xs) ≡ true
    go true = refl
    go false = e

-- it is the first or among the rest
pub first_or_later : (x y : Ref) (xs : List Ref) → IsIn x (y ∷ xs) → (x ≡ y) ⊎ IsIn x xs
first_or_later x y xs e = go (same_ref x y) refl e
  where
    go : (b : Bool) → same_ref x y ≡ b → cond b true (among x xs) ≡ true → (x ≡ y) ⊎ IsIn x xs
    go true is h = inl (one_ref x y is)
    go false is h = inr h

pub in_left : (x : Ref) (xs ys : List Ref) → IsIn x xs → IsIn x (xs ++ ys)
in_left x [] ys e = absurd cc
in_left x (z ∷ xs) ys e = elim (first_or_later x z xs e) [
  | inl is ↦ ap (λ b. cond b true (among x (xs ++ ys))) (ap (λ w. same_ref x w) (sym is) ∙ ref_itself x)
  | inr h ↦ later x z (xs ++ ys) (in_left x xs ys h)
]

pub in_right : (x : Ref) (xs ys : List Ref) → IsIn x ys → IsIn x (xs ++ ys)
in_right x [] ys e = e
in_right x (z ∷ xs) ys e = later x z (xs ++ ys) (in_right x xs ys e)

pub in_both : (x : Ref) (xs ys : List Ref) → IsIn x (xs ++ ys) → IsIn x xs ⊎ IsIn x ys
in_both x [] ys e = inr e
in_both x (z ∷ xs) ys e = elim (first_or_later x z (xs ++ ys) e) [
  | inl is ↦ inl (ap (λ b. cond b true (among x xs)) (ap (λ w. same_ref x w) (sym is) ∙ ref_itself x))
  | inr h ↦ elim (in_both x xs ys h) [
    | inl l ↦ inl (later x z xs l)
    | inr r ↦ inr r
  ]
]

-- in a scope with more names
pub with_old : (x : Ref) (xs : List Ref) (scope : Scope) → IsIn x scope → IsIn x (with_all xs scope)
with_old x [] scope e = e
with_old x (y ∷ xs) scope e = with_old x xs (y ∷ scope) (later x y scope e)

pub with_new : (x : Ref) (xs : List Ref) (scope : Scope) → IsIn x xs → IsIn x (with_all xs scope)
with_new x [] scope e = absurd cc
with_new x (y ∷ xs) scope e = elim (first_or_later x y xs e) [
  | inl is ↦ with_old x xs (y ∷ scope)
      (ap (λ b. cond b true (among x scope)) (ap (λ w. same_ref x w) (sym is) ∙ ref_itself x))
  | inr h ↦ with_new x xs (y ∷ scope) h
]

pub with_cases : (x : Ref) (xs : List Ref) (scope : Scope) → IsIn x (with_all xs scope) → IsIn x scope ⊎ IsIn x xs
with_cases x [] scope e = inl e
with_cases x (y ∷ xs) scope e = elim (with_cases x xs (y ∷ scope) e) [
  | inl h ↦ elim (first_or_later x y scope h) [
    | inl is ↦ inr (ap (λ b. cond b true (among x xs)) (ap (λ w. same_ref x w) (sym is) ∙ ref_itself x))
    | inr k ↦ inl k
  ]
  | inr h ↦ inr (later x y xs h)
]

pub after_cases : (x : Ref) (gs : Groups) (scope : Scope) → IsIn x (after gs scope)
    → IsIn x scope ⊎ IsIn x (let_names gs)
after_cases x NoGroup scope e = inl e
after_cases x (MoreGroup g gs) scope e = elim (after_cases x gs (with_all (group_names g) scope) e) [
  | inl h ↦ elim (with_cases x (group_names g) scope h) [
    | inl k ↦ inl k
    | inr k ↦ inr (in_left x (group_names g) (let_names gs) k)
  ]
  | inr h ↦ inr (in_right x (group_names g) (let_names gs) h)
]

-- ---- new names

pub two_ways : (b : Bool) → b ≡ true → b ≡ false → ⊥
two_ways true e f = absurd cc
two_ways false e f = absurd cc

pub is_false : (b : Bool) → (b ≡ true → ⊥) → b ≡ false
is_false true h = absurd (h refl)
is_false false h = refl

-- new names are not in scope
pub fresh_new : (x : Ref) (xs : List Ref) (scope : Scope) → AreFresh xs scope → IsIn x xs → among x scope ≡ false
fresh_new x [] scope f e = absurd cc
fresh_new x (y ∷ xs) scope f e = elim (first_or_later x y xs e) [
  | inl is ↦ ap (λ z. among z scope) is ∙ f.0
  | inr h ↦ is_false (among x scope)
      (λ k. two_ways (among x (y ∷ scope)) (later x y scope k) (fresh_new x xs (y ∷ scope) f.1 h))
]
