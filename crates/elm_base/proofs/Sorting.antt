-- A list in order, in which those that tie stand as they stood, is the one that insertion makes.
use Rattle.std.proofs.Common.{◌≡◌, ℕ, suc, ◌<◌, ◌≤◌, List, [], ◌∷◌, length, get_or, Bool, true, false, if◌then◌else◌}
use Rattle.std.proofs.Common.{not, ◌&&◌, refl, sym, ap, ◌∙◌, arith}
use Rattle.std.specs.Cmp.{IsStrictWeakOrder}
use Rattle.std.specs.List.{filter}
use Rattle.std.specs.List.Sorted.{IsSortedBy, IsStableBy, ties}
use Rattle.std.proofs.lemmas.List.Sorted.{sorted_far}

-- before the first that is not less than it
abbrev pub inserted : {X : Type 0} → (X → X → Bool) → X → List X → List X
inserted lt m [] = m ∷ []
inserted lt m (x ∷ xs) = if lt x m then x ∷ inserted lt m xs else m ∷ x ∷ xs

abbrev pub in_order : {X : Type 0} → (X → X → Bool) → List X → List X
in_order lt [] = []
in_order lt (m ∷ ms) = inserted lt m (in_order lt ms)

-- ---- those that tie keep their order

kept : {X : Type 0} (p : X → Bool) (x : X) (xs : List X) → p x ≡ true → filter p (x ∷ xs) ≡ x ∷ filter p xs
kept p x xs e = ap (λ b. if b then x ∷ filter p xs else filter p xs) e

left_out : {X : Type 0} (p : X → Bool) (x : X) (xs : List X) → p x ≡ false → filter p (x ∷ xs) ≡ filter p xs
left_out p x xs e = ap (λ b. if b then x ∷ filter p xs else filter p xs) e

neither : (a b : Bool) → (not a && not b) ≡ true → (a ≡ false) × (b ≡ false)
neither true b e = absurd (cc)
neither false true e = absurd (cc)
neither false false e = (refl, refl)

exchanged : {X : Type 0} (p q : Bool) (y m : X) (rest : List X) → (p ≡ true → q ≡ true → ⊥)
    → (if p then y ∷ (if q then m ∷ rest else rest) else (if q then m ∷ rest else rest)) ≡ (if q then m ∷ (if p then y ∷ rest else rest) else (if p then y ∷ rest else rest))
exchanged true true y m rest one = absurd (one refl refl)
exchanged true false y m rest one = refl
exchanged false true y m rest one = refl
exchanged false false y m rest one = refl

-- what is before another does not tie with what ties with that
one_tie : {X : Type 0} (lt : X → X → Bool) → IsStrictWeakOrder lt → (x y m : X) → lt y m ≡ true → ties lt x y ≡ true → ties lt x m ≡ true → ⊥
one_tie lt o x y m before with_y with_m =
    let a : lt y x ≡ false = (neither (lt x y) (lt y x) with_y).1 in
    let b : lt x m ≡ false = (neither (lt x m) (lt m x) with_m).0 in
    let c : lt y m ≡ false = o.chain y x m a b in cc

insert_step : {X : Type 0} (lt : X → X → Bool) → IsStrictWeakOrder lt → (x m y : X) (ys : List X) (b : Bool) → lt y m ≡ b
    → filter (ties lt x) (inserted lt m ys) ≡ filter (ties lt x) (m ∷ ys)
    → filter (ties lt x) (if b then y ∷ inserted lt m ys else m ∷ y ∷ ys) ≡ filter (ties lt x) (m ∷ y ∷ ys)
insert_step lt o x m y ys true before rest =
    ap (λ l. if ties lt x y then y ∷ l else l) rest ∙ exchanged (ties lt x y) (ties lt x m) y m (filter (ties lt x) ys) (λ p q. one_tie lt o x y m before p q)
insert_step lt o x m y ys false before rest = refl

filter_inserted : {X : Type 0} (lt : X → X → Bool) → IsStrictWeakOrder lt → (x m : X) (l : List X) → filter (ties lt x) (inserted lt m l) ≡ filter (ties lt x) (m ∷ l)
filter_inserted lt o x m [] = refl
filter_inserted lt o x m (y ∷ ys) = insert_step lt o x m y ys (lt y m) refl (filter_inserted lt o x m ys)

filter_in_order : {X : Type 0} (lt : X → X → Bool) → IsStrictWeakOrder lt → (x : X) (xs : List X) → filter (ties lt x) (in_order lt xs) ≡ filter (ties lt x) xs
filter_in_order lt o x [] = refl
filter_in_order lt o x (m ∷ ms) = filter_inserted lt o x m (in_order lt ms) ∙ ap (λ l. if ties lt x m then m ∷ l else l) (filter_in_order lt o x ms)

-- ---- lists in order

abbrev NoneBelow : {X : Type 0} → (X → X → Bool) → X → List X → Type 0
NoneBelow lt y [] = Unit {0}
NoneBelow lt y (w ∷ ws) = (lt w y ≡ false) × NoneBelow lt y ws

abbrev Rises : {X : Type 0} → (X → X → Bool) → List X → Type 0
Rises lt [] = Unit {0}
Rises lt (y ∷ ys) = NoneBelow lt y ys × Rises lt ys

none_lower : {X : Type 0} (lt : X → X → Bool) → IsStrictWeakOrder lt → (m y : X) (ys : List X) → lt y m ≡ false → NoneBelow lt y ys → NoneBelow lt m ys
none_lower lt o m y [] e n = tt
none_lower lt o m y (w ∷ ws) e n = (o.chain w y m n.0 e, none_lower lt o m y ws e n.1)

none_inserted : {X : Type 0} (lt : X → X → Bool) (y m : X) (l : List X) → lt m y ≡ false → NoneBelow lt y l → NoneBelow lt y (inserted lt m l)
none_inserted lt y m [] e n = (e, tt)
none_inserted lt y m (w ∷ ws) e n =
    let P : Bool → Type 0 = λ b. NoneBelow lt y (if b then w ∷ inserted lt m ws else m ∷ w ∷ ws) in
    elim (lt w m) as P [ true ↦ (n.0, none_inserted lt y m ws e n.1) | false ↦ (e, (n.0, n.1)) ]

rises_step : {X : Type 0} (lt : X → X → Bool) → IsStrictWeakOrder lt → (m y : X) (ys : List X) (b : Bool) → lt y m ≡ b → NoneBelow lt y ys → Rises lt ys → Rises lt (inserted lt m ys)
    → Rises lt (if b then y ∷ inserted lt m ys else m ∷ y ∷ ys)
rises_step lt o m y ys true e n r rest = (none_inserted lt y m ys (o.one_way y m e) n, rest)
rises_step lt o m y ys false e n r rest = ((e, none_lower lt o m y ys e n), (n, r))

rises_inserted : {X : Type 0} (lt : X → X → Bool) → IsStrictWeakOrder lt → (m : X) (l : List X) → Rises lt l → Rises lt (inserted lt m l)
rises_inserted lt o m [] r = (tt, tt)
rises_inserted lt o m (y ∷ ys) r = rises_step lt o m y ys (lt y m) refl r.0 r.1 (rises_inserted lt o m ys r.1)

rises_in_order : {X : Type 0} (lt : X → X → Bool) → IsStrictWeakOrder lt → (xs : List X) → Rises lt (in_order lt xs)
rises_in_order lt o [] = tt
rises_in_order lt o (m ∷ ms) = rises_inserted lt o m (in_order lt ms) (rises_in_order lt o ms)

none_from : {X : Type 0} (lt : X → X → Bool) (y : X) (ys : List X) → ((j : ℕ) (d : X) → j < length ys → lt (get_or ys j d) y ≡ false) → NoneBelow lt y ys
none_from lt y [] f = tt
none_from lt y (w ∷ ws) f = (f 0 w (omega arith), none_from lt y ws (λ j d h. f (suc j) d (omega arith)))

rises_from : {X : Type 0} (lt : X → X → Bool) (xs : List X) → ((i j : ℕ) (d : X) → i ≤ j → j < length xs → lt (get_or xs j d) (get_or xs i d) ≡ false) → Rises lt xs
rises_from lt [] far = tt
rises_from lt (y ∷ ys) far =
    (none_from lt y ys (λ j d h. far 0 (suc j) d (omega arith) (omega arith)), rises_from lt ys (λ i j d low high. far (suc i) (suc j) d (omega arith) (omega arith)))

-- ---- one list in order, by what ties

ties_itself : {X : Type 0} (lt : X → X → Bool) → IsStrictWeakOrder lt → (x : X) → ties lt x x ≡ true
ties_itself lt o x = itself (lt x x) (o.one_way x x)
  where
    itself : (b : Bool) → (b ≡ true → b ≡ false) → (not b && not b) ≡ true
    itself true f = absurd (let e = f refl in cc)
    itself false f = refl

first_step : {X : Type 0} (lt : X → X → Bool) (p : X → Bool) (z w v : X) (ws rest : List X) (b : Bool) → lt w z ≡ false → (if b then w ∷ filter p ws else filter p ws) ≡ v ∷ rest
    → (filter p ws ≡ v ∷ rest → lt v z ≡ false) → lt v z ≡ false
first_step lt p z w v ws rest true e is behind = let same : w ≡ v = cc in ap (λ u. lt u z) (sym same) ∙ e
first_step lt p z w v ws rest false e is behind = behind is

first_not_below : {X : Type 0} (lt : X → X → Bool) (p : X → Bool) (z v : X) (zs rest : List X) → NoneBelow lt z zs → filter p zs ≡ v ∷ rest → lt v z ≡ false
first_not_below lt p z v [] rest n is = absurd (cc)
first_not_below lt p z v (w ∷ ws) rest n is = first_step lt p z w v ws rest (p w) n.0 is (first_not_below lt p z v ws rest n.1)

heads_step : {X : Type 0} (lt : X → X → Bool) → IsStrictWeakOrder lt → (y z : X) (ys zs : List X) (a b : Bool) → lt y z ≡ a → lt z y ≡ b → NoneBelow lt y ys → NoneBelow lt z zs
    → ((x : X) → filter (ties lt x) (y ∷ ys) ≡ filter (ties lt x) (z ∷ zs)) → y ≡ z
heads_step lt o y z ys zs false false p q n k same =
    let tie : ties lt y z ≡ true = ap (λ c. not c && not (lt z y)) p ∙ ap (λ c. not false && not c) q in
    let is : y ∷ filter (ties lt y) ys ≡ z ∷ filter (ties lt y) zs = sym (kept (ties lt y) y ys (ties_itself lt o y)) ∙ same y ∙ kept (ties lt y) z zs tie in cc
heads_step lt o y z ys zs true b p q n k same =
    let apart : ties lt y z ≡ false = ap (λ c. not c && not (lt z y)) p in
    let is : filter (ties lt y) zs ≡ y ∷ filter (ties lt y) ys = sym (left_out (ties lt y) z zs apart) ∙ sym (same y) ∙ kept (ties lt y) y ys (ties_itself lt o y) in
    let not_below : lt y z ≡ false = first_not_below lt (ties lt y) z y zs (filter (ties lt y) ys) k is in absurd (cc)
heads_step lt o y z ys zs false true p q n k same =
    let apart : ties lt z y ≡ false = ap (λ c. not c && not (lt y z)) q in
    let is : filter (ties lt z) ys ≡ z ∷ filter (ties lt z) zs = sym (left_out (ties lt z) y ys apart) ∙ same z ∙ kept (ties lt z) z zs (ties_itself lt o z) in
    let not_below : lt z y ≡ false = first_not_below lt (ties lt z) y z ys (filter (ties lt z) zs) n is in absurd (cc)

behind : {X : Type 0} (b : Bool) (y z : X) (ys zs : List X) → (if b then y ∷ ys else ys) ≡ (if b then z ∷ zs else zs) → ys ≡ zs
behind true y z ys zs e = cc
behind false y z ys zs e = e

one_order : {X : Type 0} (lt : X → X → Bool) → IsStrictWeakOrder lt → (ys zs : List X) → Rises lt ys → Rises lt zs → ((x : X) → filter (ties lt x) ys ≡ filter (ties lt x) zs) → ys ≡ zs
one_order lt o [] [] r s same = refl
one_order lt o [] (z ∷ zs) r s same = let is : [] ≡ z ∷ filter (ties lt z) zs = same z ∙ kept (ties lt z) z zs (ties_itself lt o z) in absurd (cc)
one_order lt o (y ∷ ys) [] r s same = let is : y ∷ filter (ties lt y) ys ≡ [] = sym (kept (ties lt y) y ys (ties_itself lt o y)) ∙ same y in absurd (cc)
one_order {X} lt o (y ∷ ys) (z ∷ zs) r s same =
    let first : y ≡ z = heads_step lt o y z ys zs (lt y z) (lt z y) refl refl r.0 s.0 same in
    let others : ys ≡ zs = one_order lt o ys zs r.1 s.1 (λ x. behind (ties lt x y) y z (filter (ties lt x) ys) (filter (ties lt x) zs)
    (same x ∙ ap (λ (w : X). if ties lt x w then z ∷ filter (ties lt x) zs else filter (ties lt x) zs) (sym first))) in cc

-- a stable sort is insertion
pub sorted_is : {X : Type 0} (lt : X → X → Bool) → IsStrictWeakOrder lt → (xs ys : List X) → IsSortedBy lt ys → IsStableBy lt xs ys → ys ≡ in_order lt xs
sorted_is lt o xs ys up stable =
    one_order lt o ys (in_order lt xs) (rises_from lt ys (sorted_far lt o ys up)) (rises_in_order lt o xs) (λ x. stable x ∙ sym (filter_in_order lt o x xs))
