-- Names in ascending order: lists of the same names are one.
use Rattle.std.proofs.Common.{◌≡◌, ℕ, ◌<◌, List, [], ◌∷◌, true, refl, sym, ap, ◌∙◌, get_or, subst, arith}
use Rattle.std.specs.Prelude.{Contains, ◌⊎◌}
use mathlib.Core.Logic.{inl, inr, ⊎_elim}
use Rattle.std.proofs.lemmas.List.Elements.{Contains-append_cases, Contains-append_right}
use Rattle.std.proofs.lemmas.Cmp.{tied_itself, nat_list_cmp_total}
use Rattle.std.specs.declared.cmp.Ordering.{Ordering}
use Rattle.std.specs.declared.cmp.Ordering.TheVariants.{Less, Equal, Greater}
use Rattle.std.specs.Ordering.{nat_cmp, is_lt, is_eq}
use Rattle.std.specs.Cmp.Lexicographic.{slice_cmp, texts_ties}
use Rattle.std.specs.List.Sorted.{IsStrictlySortedBy}
use Rattle.std.proofs.lemmas.Slice.Eq.{bytes_eq-Decides}
use Rattle.elm_type.specs.Types.{Name}
use Rattle.elm_type.specs.Rows.{name_lt}

abbrev pub IsBefore : Name → Name → Type 0
IsBefore x y = name_lt x y ≡ true

abbrev pub Ascends : List Name → Type 0
Ascends [] = Unit {0}
Ascends (x ∷ []) = Unit {0}
Ascends (x ∷ y ∷ ys) = IsBefore x y × Ascends (y ∷ ys)

pub one_name : (x y : Name) → slice_cmp nat_cmp x y ≡ Equal → x ≡ y
one_name x y e = (bytes_eq-Decides x y).0 (texts_ties x y ∙ ap is_eq e)

pub less : (o : Ordering) → is_lt o ≡ true → o ≡ Less
less Less e = refl
less Equal e = absurd cc
less Greater e = absurd cc

later : (x y z : Name) → IsBefore x y → IsBefore y z → IsBefore x z
later x y z a b = ap is_lt (nat_list_cmp_total.trans x y z (less (slice_cmp nat_cmp x y) a) (less (slice_cmp nat_cmp y z) b))

never_itself : (x : Name) → IsBefore x x → ⊥
never_itself x a = let e = tied_itself nat_list_cmp_total x in let l = less (slice_cmp nat_cmp x x) a in absurd cc

one_item : (y x : Name) → Contains (y ∷ []) x → y ≡ x
one_item y x h = let e : h.0 ≡ 0 = omega (arith, h.1) in subst (λ k. get_or (y ∷ []) k x ≡ x) e h.2

-- x is the first or one of the rest
pub first_or : (y : Name) (ys : List Name) (x : Name) → Contains (y ∷ ys) x → (y ≡ x) ⊎ Contains ys x
first_or y ys x h = ⊎_elim (λ a. inl (one_item y x a)) (λ b. inr b) (Contains-append_cases (y ∷ []) ys x h)

pub first_in : (y : Name) (ys : List Name) → Contains (y ∷ ys) y
first_in y ys = (0, omega arith, refl)

pub rest_in : (y : Name) (ys : List Name) (x : Name) → Contains ys x → Contains (y ∷ ys) x
rest_in y ys x h = Contains-append_right (y ∷ []) ys x h

pub none_in : (x : Name) → Contains [] x → ⊥
none_in x h = absurd (omega (arith, h.1))

pub ascends_rest : (x : Name) (xs : List Name) → Ascends (x ∷ xs) → Ascends xs
ascends_rest x [] h = tt
ascends_rest x (y ∷ ys) h = h.1

pub all_later : (x : Name) (xs : List Name) → Ascends (x ∷ xs) → (z : Name) → Contains xs z → IsBefore x z
all_later x [] h z c = absurd (none_in z c)
all_later x (y ∷ ys) h z c =
    ⊎_elim (λ e. subst (IsBefore x) e h.0) (λ d. later x y z h.0 (all_later y ys h.1 z d)) (first_or y ys z c)

pub one_order : (xs ys : List Name) → Ascends xs → Ascends ys → ((z : Name) → Contains xs z → Contains ys z) →
    ((z : Name) → Contains ys z → Contains xs z) → xs ≡ ys
one_order [] [] p q to from = refl
one_order [] (y ∷ ys) p q to from = absurd (none_in y (from y (first_in y ys)))
one_order (x ∷ xs) [] p q to from = absurd (none_in x (to x (first_in x xs)))
one_order (x ∷ xs) (y ∷ ys) p q to from =
    let first : x ≡ y =
    ⊎_elim (λ e. sym e) (λ in_ys. ⊎_elim (λ e. e)
    (λ in_xs. absurd (never_itself x (later x y x (all_later x xs p y in_xs) (all_later y ys q x in_ys))))
    (first_or x xs y (from y (first_in y ys)))) (first_or y ys x (to x (first_in x xs))) in
    let others : xs ≡ ys =
    one_order xs ys (ascends_rest x xs p) (ascends_rest y ys q)
    (λ z c. ⊎_elim (λ e. absurd (never_itself x (subst (IsBefore x) (sym (first ∙ e)) (all_later x xs p z c)))) (λ d. d)
    (first_or y ys z (to z (rest_in x xs z c))))
    (λ z c. ⊎_elim (λ e. absurd (never_itself y (subst (IsBefore y) (sym (sym first ∙ e)) (all_later y ys q z c)))) (λ d. d)
    (first_or x xs z (from z (rest_in y ys z c)))) in
    cc

-- what a sort gives without what stands twice
pub ascends : (xs : List Name) → IsStrictlySortedBy (slice_cmp nat_cmp) xs → Ascends xs
unfolding IsStrictlySortedBy
ascends [] h = tt
ascends (x ∷ []) h = tt
ascends (x ∷ y ∷ ys) h = (ap is_lt h.0.0, ascends (y ∷ ys) h.1)
