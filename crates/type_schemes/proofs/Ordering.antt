-- Variables in order, their numbers and places.
use Rattle.std.proofs.Common.{◌≡◌, ℕ, zero, suc, ◌<◌, List, [], ◌∷◌, length, Bool, true, false, cond, nat_eq, Some, None, inl, inr, ⊎_elim, refl, sym, ap, ◌∙◌, subst, arith}
use Rattle.std.specs.Prelude.{◌⊎◌}
use Rattle.std.specs.List.{All}
use Rattle.std.proofs.lemmas.Bool.{cases_lt, eqb-true, eq-eqb}
use Rattle.std.proofs.lemmas.Bool.Decides.{nat_tests}
use Rattle.std.proofs.lemmas.List.Elements.{All-head}
use Rattle.type_store.specs.Store.{Cell, Open, Bound, Built, Row, Constant, Store, slot_at}
use Rattle.type_store.specs.Solutions.{Values, Fit, Says}
use Rattle.type_store.specs.Shape.{IsStore, parts_of}
use Rattle.type_schemes.specs.Ends.{follow, end_in, end_of, IsDeep}
use Rattle.type_schemes.specs.Order.{number_in, PartsFirst}
use Rattle.type_walks.specs.Frozen.{SameIn}

-- ---- numbers

number_cases : (u : ℕ) (older : List ℕ) (v i : ℕ) → number_in (u ∷ older) v ≡ Some i → ((u ≡ v) × (length older ≡ i)) ⊎ (number_in older v ≡ Some i)
number_cases u older v i e = go (nat_eq u v) refl e
  where
    go : (b : Bool) → nat_eq u v ≡ b → cond b (Some (length older)) (number_in older v) ≡ Some i → ((u ≡ v) × (length older ≡ i)) ⊎ (number_in older v ≡ Some i)
    go true f h = inl (eqb-true u v f, (let x : length older ≡ i = cc in x))
    go false f h = inr h

pub number_below : (older : List ℕ) (v i : ℕ) → number_in older v ≡ Some i → i < length older
number_below [] v i e = absurd (cc)
number_below (u ∷ older) v i e =
    ⊎_elim (λ h. omega (arith, h.1)) (λ h. let x = number_below older v i h in omega (arith, x)) (number_cases u older v i e)

pub number_last : (v : ℕ) (older : List ℕ) → number_in (v ∷ older) v ≡ Some (length older)
number_last v older = ap (λ b. cond b (Some (length older)) (number_in older v)) (eq-eqb v v refl)

-- a number stays
pub number_stays : (v : ℕ) (older : List ℕ) (u i : ℕ) → number_in older v ≡ None → number_in older u ≡ Some i → number_in (v ∷ older) u ≡ Some i
number_stays v older u i n e = go (nat_eq v u) refl
  where
    go : (b : Bool) → nat_eq v u ≡ b → cond b (Some (length older)) (number_in older u) ≡ Some i
    go true f = absurd (let x = eqb-true v u f in let y = sym n ∙ (ap (number_in older) x ∙ e) in cc)
    go false f = e

abbrev pub place_in : List ℕ → ℕ → ℕ
place_in [] i = 0
place_in (v ∷ older) i = cond (nat_eq i (length older)) v (place_in older i)

pub place_last : (v : ℕ) (older : List ℕ) → place_in (v ∷ older) (length older) ≡ v
place_last v older = ap (λ b. cond b v (place_in older (length older))) (eq-eqb (length older) (length older) refl)

pub place_before : (v : ℕ) (older : List ℕ) (i : ℕ) → i < length older → place_in (v ∷ older) i ≡ place_in older i
place_before v older i l = let e : nat_eq i (length older) ≡ false = grind (arith, nat_tests) in ap (λ b. cond b v (place_in older i)) e

pub number_placed : (older : List ℕ) (v i : ℕ) → number_in older v ≡ Some i → place_in older i ≡ v
number_placed [] v i e = absurd (cc)
number_placed (u ∷ older) v i e =
    ⊎_elim (λ h. ap (place_in (u ∷ older)) (sym h.1) ∙ (place_last u older ∙ h.0))
    (λ h. place_before u older i (number_below older v i h) ∙ number_placed older v i h) (number_cases u older v i e)

module _ (floor : ℕ) (s : Store) where
  pub place_numbered : (older : List ℕ) (i : ℕ) → PartsFirst floor s older → i < length older → number_in older (place_in older i) ≡ Some i
  place_numbered [] i first l = absurd (omega arith)
  place_numbered (v ∷ older) i first l =
      ⊎_elim
      (λ k. ap (number_in (v ∷ older)) (place_before v older i k)
      ∙ number_stays v older (place_in older i) i first.0.new (place_numbered older i first.1 k))
      (λ h. let e : i ≡ length older = omega (arith, h, l) in
      ap (λ j. number_in (v ∷ older) (place_in (v ∷ older) j)) e ∙ (ap (number_in (v ∷ older)) (place_last v older) ∙ (number_last v older ∙ ap Some (sym e))))
      (cases_lt i (length older))

  pub listed_follow : (older : List ℕ) (v i : ℕ) → PartsFirst floor s older → number_in older v ≡ Some i → (v < length s) × IsDeep floor s v
  listed_follow [] v i first e = absurd (cc)
  listed_follow (u ∷ older) v i first e =
      ⊎_elim (λ h. (subst (λ x. x < length s) h.0 first.0.inside, subst (IsDeep floor s) h.0 first.0.deep)) (λ h. listed_follow older v i first.1 h)
      (number_cases u older v i e)

-- ---- ends of chains

module _ (s : Store) where
  follow_same : (σ : Values) (f : ℕ → ℕ) (v : ℕ) → ((w : ℕ) → σ.types w ≡ σ.types (f w)) → (c : Cell) → Says σ (σ.types v) c → σ.types v ≡ σ.types (follow f v c)
  follow_same σ f v g Open h = refl
  follow_same σ f v g (Bound w) h = h ∙ g w
  follow_same σ f v g (Built b ws) h = refl
  follow_same σ f v g (Row fs end) h = refl
  follow_same σ f v g (Constant r) h = refl

  end_in_same : (σ : Values) → Fit σ s → (n v : ℕ) → σ.types v ≡ σ.types (end_in n s v)
  unfolding end_in
  end_in_same σ f zero v = refl
  end_in_same σ f (suc n) v = follow_same σ (end_in n s) v (end_in_same σ f n) (slot_at s v).cell (f.each v).cell

  pub end_same : (v : ℕ) → SameIn s v (end_of s v)
  unfolding end_of
  end_same v = record { same = λ σ f. end_in_same σ f (suc v) v }

  module _ (whole : IsStore s) where
    follow_inside : (f : ℕ → ℕ) (v : ℕ) → v < length s → ((w : ℕ) → w < length s → f w < length s) → (c : Cell) → All (λ w. w < length s) (parts_of c)
        → follow f v c < length s
    follow_inside f v l g Open h = l
    follow_inside f v l g (Bound w) h = g w (All-head (λ w. w < length s) w [] h)
    follow_inside f v l g (Built b ws) h = l
    follow_inside f v l g (Row fs end) h = l
    follow_inside f v l g (Constant r) h = l

    end_in_inside : (n v : ℕ) → v < length s → end_in n s v < length s
    unfolding end_in
    end_in_inside zero v l = l
    end_in_inside (suc n) v l = follow_inside (end_in n s) v l (end_in_inside n) (slot_at s v).cell (whole.each v l).inside

    pub end_inside : (v : ℕ) → v < length s → end_of s v < length s
    unfolding end_of
    end_inside v l = end_in_inside (suc v) v l
