-- Definitions that are taken out, one after the other: where each is taken once, what is taken is what stood there.
use Rattle.std.proofs.Common.{◌≡◌, ℕ, List, [], ◌∷◌, ◌++◌, ⊎_elim, map, length, refl, sym, ap, ◌∙◌, subst}
use Rattle.std.proofs.Common.{suc}
use Rattle.std.specs.Prelude.{flat_map, slice_index_or}
use Rattle.std.specs.List.{Contains}
use Rattle.std.proofs.lemmas.List.{get_or-set_other}
use Rattle.decl_groups.proofs.Basics.{no_member, first_member, later_member, member_cases}
use Rattle.decl_groups.specs.View.{StandOnce, joined}
use Rattle.decl_groups.proofs.Standing.{append_member, front_member}
use Rattle.elm_canon.specs.Tree.{MoreFunction, Together, functions_of}
use Rattle.canon_expr.specs.Blocks.{Made, NoMade, MadeFunction, MadeConstant, MadeParts, group_of, functions_in}
use Rattle.canon_expr.specs.Kept.{left_at, left_after, taken_at, taken_each, functions_among}

-- those that stand at places
abbrev pub those_at : {X : Type 0} → X → List X → List ℕ → List X
those_at none xs places = map (λ i. slice_index_or xs i none) places

module _ {X : Type 0} (none : X) where
  -- what stands at a place that is not taken
  same_left : (xs : List X) (is : List ℕ) (i : ℕ) → (Contains is i → ⊥) →
      slice_index_or (left_after none xs is) i none ≡ slice_index_or xs i none
  same_left xs [] i apart = refl
  same_left xs (j ∷ is) i apart =
      same_left (left_at none xs j) is i (λ m. apart (later_member j i is m))
      ∙ get_or-set_other xs j i none none (λ e. apart (subst (Contains (j ∷ is)) (sym e) (first_member j is)))

  same_at : (xs now : List X) (is : List ℕ) →
      ((i : ℕ) → Contains is i → slice_index_or now i none ≡ slice_index_or xs i none) →
      those_at none now is ≡ those_at none xs is
  same_at xs now [] f = refl
  same_at xs now (i ∷ is) f =
      ap (λ m. m ∷ those_at none now is) (f i (first_member i is))
      ∙ ap (λ ms. slice_index_or xs i none ∷ ms) (same_at xs now is (λ j m. f j (later_member i j is m)))

  taken_is : (xs : List X) (is : List ℕ) → StandOnce is → taken_at none xs is ≡ those_at none xs is
  taken_is xs [] once = refl
  taken_is xs (i ∷ is) once =
      ap (λ ms. slice_index_or xs i none ∷ ms)
      (taken_is (left_at none xs i) is once.1
      ∙ same_at xs (left_at none xs i) is (λ j m. same_left xs (i ∷ []) j
      (λ k. once.0 (subst (Contains is) (⊎_elim sym (λ n. absurd (no_member j n)) (member_cases i j [] k)) m))))

once_front : (xs ys : List ℕ) → StandOnce (xs ++ ys) → StandOnce xs
once_front [] ys once = tt
once_front (x ∷ xs) ys once = ((λ m. once.0 (front_member xs ys x m)), once_front xs ys once.1)

once_rest : (xs ys : List ℕ) → StandOnce (xs ++ ys) → StandOnce ys
once_rest [] ys once = once
once_rest (x ∷ xs) ys once = once_rest xs ys once.1

once_apart : (xs ys : List ℕ) (y : ℕ) → StandOnce (xs ++ ys) → Contains xs y → Contains ys y → ⊥
once_apart [] ys y once m n = no_member y m
once_apart (x ∷ xs) ys y once m n =
    ⊎_elim (λ e. once.0 (subst (Contains (xs ++ ys)) (sym e) (append_member xs ys y n)))
    (λ k. once_apart xs ys y once.1 k n) (member_cases x y xs m)

-- ---- all groups

module _ {X : Type 0} (none : X) where
  same_each : (xs now : List X) (gs : List (List ℕ)) →
      ((i : ℕ) → Contains (joined gs) i → slice_index_or now i none ≡ slice_index_or xs i none) →
      map (those_at none now) gs ≡ map (those_at none xs) gs
  same_each xs now [] f = refl
  same_each xs now (g ∷ gs) f =
      ap (λ m. m ∷ map (those_at none now) gs) (same_at none xs now g (λ i m. f i (front_member g (joined gs) i m)))
      ∙ ap (λ ms. those_at none xs g ∷ ms) (same_each xs now gs (λ i m. f i (append_member g (joined gs) i m)))

  pub each_taken : (xs : List X) (gs : List (List ℕ)) → StandOnce (joined gs) →
      taken_each none xs gs ≡ map (those_at none xs) gs
  each_taken xs [] once = refl
  each_taken xs (g ∷ gs) once =
      ap (λ m. m ∷ taken_each none (left_after none xs g) gs) (taken_is none xs g (once_front g (joined gs) once))
      ∙ ap (λ ms. those_at none xs g ∷ ms)
      (each_taken (left_after none xs g) gs (once_rest g (joined gs) once)
      ∙ same_each xs (left_after none xs g) gs
      (λ i m. same_left none xs g i (λ k. once_apart g (joined gs) i once k m)))

  pub flat_of_map : {Y : Type 0} (f : List X → List Y) (xs : List X) (gs : List (List ℕ)) →
      flat_map f (map (those_at none xs) gs) ≡ flat_map (λ g. f (those_at none xs g)) gs
  flat_of_map f xs [] = refl
  flat_of_map f xs (g ∷ gs) = ap (λ r. f (those_at none xs g) ++ r) (flat_of_map f xs gs)

  pub count_taken : (xs : List X) (is : List ℕ) → length (taken_at none xs is) ≡ length is
  count_taken xs [] = refl
  count_taken xs (i ∷ is) = ap suc (count_taken (left_at none xs i) is)

-- ---- functions

pub among_is : (ms : List Made) → functions_of (functions_among ms) ≡ functions_in ms
among_is [] = refl
among_is (MadeFunction title ps e ∷ ms) = ap (MoreFunction title ps e) (among_is ms)
among_is (NoMade ∷ ms) = among_is ms
among_is (MadeConstant title e ∷ ms) = among_is ms
among_is (MadeParts p e ∷ ms) = among_is ms

pub among_cons : (m : Made) (ms : List Made) → functions_among (m ∷ ms) ≡ functions_among (m ∷ []) ++ functions_among ms
among_cons NoMade ms = refl
among_cons (MadeFunction title ps e) ms = refl
among_cons (MadeConstant title e) ms = refl
among_cons (MadeParts p e) ms = refl

-- of two definitions or more, or of none, the functions are together
pub many_together : (ms : List Made) → (length ms ≡ 1 → ⊥) → Together (functions_in ms) ∷ [] ≡ group_of ms
many_together [] h = refl
many_together (m ∷ []) h = absurd (h refl)
many_together (NoMade ∷ n ∷ ms) h = refl
many_together (MadeFunction title ps e ∷ n ∷ ms) h = refl
many_together (MadeConstant title e ∷ n ∷ ms) h = refl
many_together (MadeParts p e ∷ n ∷ ms) h = refl
