-- A walk over the variables that a variable leads to.
use Rattle.std.proofs.Common.{◌≡◌, ℕ, ◌<◌, List, [], ◌∷◌, ◌++◌, length, map, Bool, true, false, cond, Option, Some, None, nat_eq, inl, inr, ⊎_elim, refl, sym, ap, ◌∙◌, subst, arith}
use Rattle.std.specs.Prelude.{◌⊎◌}
use Rattle.std.specs.List.{AllByRecursion}
use Rattle.std.proofs.lemmas.Bool.{eqb-true, eq-eqb, false≢true}
use Rattle.type_store.specs.Store.{Store, slot_at}
use Rattle.type_store.specs.Shape.{IsStore, parts_of}
use Rattle.type_store.specs.Steps.{is_bound}
use Rattle.type_schemes.specs.declared.order.Task.{Task}
use Rattle.type_schemes.specs.declared.order.Task.TheVariants.{Enter, Leave}
use Rattle.type_schemes.specs.Ends.{end_of, IsDeep}
use Rattle.type_schemes.specs.Order.{number_in, IsListed, IsReady, PartsFirst}
use Rattle.type_schemes.specs.Walk.{In, target, entered, Waits, MayLeave, Stacked, IsOpen, Ranks, Walks}
use Rattle.type_schemes.proofs.Ends.{end_rank, ranks_of}

all_map : {X : Type 0} (P Q : X → Type 0) → ((x : X) → P x → Q x) → (xs : List X) → AllByRecursion P xs → AllByRecursion Q xs
all_map P Q f [] h = tt
all_map P Q f (x ∷ xs) h = (f x h.0, all_map P Q f xs h.1)

-- ---- numbers

more_listed : (v : ℕ) (older : List ℕ) (x : ℕ) → IsListed older x → IsListed (v ∷ older) x
more_listed v older x h = go (nat_eq v x)
  where
    go : (b : Bool) → (i : ℕ) × (cond b (Some (length older)) (number_in older x) ≡ Some i)
    go true = (length older, refl)
    go false = h

last_listed : (v : ℕ) (older : List ℕ) → IsListed (v ∷ older) v
last_listed v older = (length older, ap (λ b. cond b (Some (length older)) (number_in older v)) (eq-eqb v v refl))

listed_before : (v : ℕ) (older : List ℕ) (x : ℕ) → IsListed (v ∷ older) x → (v ≡ x) ⊎ IsListed older x
listed_before v older x h = go (nat_eq v x) refl h.1
  where
    go : (b : Bool) → nat_eq v x ≡ b → cond b (Some (length older)) (number_in older x) ≡ Some h.0 → (v ≡ x) ⊎ IsListed older x
    go true e i = inl (eqb-true v x e)
    go false e i = inr (h.0, i)

still_new : (v : ℕ) (older : List ℕ) (x : ℕ) → (v ≡ x → ⊥) → number_in older x ≡ None → number_in (v ∷ older) x ≡ None
still_new v older x n e = go (nat_eq v x) refl
  where
    go : (b : Bool) → nat_eq v x ≡ b → cond b (Some (length older)) (number_in older x) ≡ None
    go true f = absurd (n (eqb-true v x f))
    go false f = e

new_or_listed : (older : List ℕ) (x : ℕ) → (IsListed older x → ⊥) → number_in older x ≡ None
new_or_listed older x h = go (number_in older x) refl
  where
    go : (o : Option ℕ) → number_in older x ≡ o → o ≡ None
    go None e = refl
    go (Some i) e = absurd (h (i, e))

-- ---- tasks

module _ (floor : ℕ) (s : Store) (r : Ranks s) where
  abbrev rank : ℕ → ℕ
  rank = r.rank

  module _ (older older' : List ℕ) where
    one_more : (t : ℕ) (A B : List ℕ) → ((u : ℕ) → IsDeep floor s u → IsListed older u ⊎ In A u → IsListed older' u ⊎ In B u)
        → (u : ℕ) → IsDeep floor s u → IsListed older u ⊎ In (t ∷ A) u → IsListed older' u ⊎ In (t ∷ B) u
    one_more t A B wait u d (inl h) = ⊎_elim (λ x. inl x) (λ x. inr (inr x)) (wait u d (inl h))
    one_more t A B wait u d (inr (inl e)) = inr (inl e)
    one_more t A B wait u d (inr (inr h)) = ⊎_elim (λ x. inl x) (λ x. inr (inr x)) (wait u d (inr h))

    -- other variables are listed, and other tasks stand above
    restack : (stack : List Task) (A B : List ℕ)
        → ((u : ℕ) → IsDeep floor s u → IsListed older u ⊎ In A u → IsListed older' u ⊎ In B u)
        → ((y : ℕ) → AllByRecursion (λ u. rank u < rank y) A → AllByRecursion (λ u. rank u < rank y) B)
        → ((y : ℕ) → number_in older y ≡ None → AllByRecursion (λ u. rank u < rank y) A → number_in older' y ≡ None)
        → Stacked rank floor s older A stack → Stacked rank floor s older' B stack
    restack [] A B wait lower new h = tt
    restack (Enter w ∷ stack) A B wait lower new h = (
      h.0,
      restack stack (end_of s w ∷ A) (end_of s w ∷ B) (one_more (end_of s w) A B wait) (λ y k. (k.0, lower y k.1)) (λ y n k. new y n k.1) h.1,
    )
    restack (Leave v ∷ stack) A B wait lower new h = (
      record {
        new = new v h.0.new h.0.higher;
        inside = h.0.inside;
        deep = h.0.deep;
        end = h.0.end;
        parts =
            all_map (Waits floor s older A) (Waits floor s older' B) (λ w k d. wait (end_of s w) d (k d)) (parts_of (slot_at s v).cell) h.0.parts;
        higher = lower v h.0.higher;
      },
      restack stack (v ∷ A) (v ∷ B) (one_more v A B wait) (λ y k. (k.0, lower y k.1)) (λ y n k. new y n k.1) h.1,
    )

  -- what waits to be left does not stand above itself
  off_above : (older : List ℕ) (stack : List Task) (A : List ℕ) (v : ℕ) → In A v → Stacked rank floor s older A stack → IsOpen stack v → ⊥
  off_above older [] A v i h o = o
  off_above older (Enter w ∷ stack) A v i h o = off_above older stack (end_of s w ∷ A) v (inr i) h.1 o
  off_above older (Leave y ∷ stack) A v i h (inl e) = below A i h.0.higher
    where
      below : (A : List ℕ) → In A v → AllByRecursion (λ u. rank u < rank y) A → ⊥
      below [] i k = i
      below (a ∷ as_) (inl f) k = let x = ap rank f in let z = ap rank e in omega (arith, x, z, k.0)
      below (a ∷ as_) (inr i) k = below as_ i k.1
  off_above older (Leave y ∷ stack) A v i h (inr o) = off_above older stack (y ∷ A) v (inr i) h.1 o

  ends : List ℕ → List ℕ
  ends ps = map (end_of s) ps

  entered_stacked : (older : List ℕ) (ps A : List ℕ) (stack : List Task) → AllByRecursion (λ p. p < length s) ps
      → Stacked rank floor s older (ends ps ++ A) stack → Stacked rank floor s older A (entered ps stack)
  unfolding ends
  entered_stacked older [] A stack i h = h
  entered_stacked older (p ∷ ps) A stack i h = entered_stacked older ps A (Enter p ∷ stack) i.1 (i.0, h)

  -- ---- a variable is listed

  leave_first : (older : List ℕ) (v : ℕ) → MayLeave rank floor s older [] v → PartsFirst floor s older → PartsFirst floor s (v ∷ older)
  leave_first older v m first = (
    record {
      new = m.new;
      inside = m.inside;
      deep = m.deep;
      end = m.end;
      parts =
          all_map (Waits floor s older []) (IsReady floor s older) (λ w k d. ⊎_elim (λ x. x) (λ x. absurd x) (k d)) (parts_of (slot_at s v).cell) m.parts;
    },
    first,
  )

  leave_stacked : (older : List ℕ) (v : ℕ) (stack : List Task) → Stacked rank floor s older (v ∷ []) stack → Stacked rank floor s (v ∷ older) [] stack
  leave_stacked older v stack h =
      restack older (v ∷ older) stack (v ∷ []) []
      (λ u d h. ⊎_elim (λ x. inl (more_listed v older u x)) (λ i. ⊎_elim (λ e. inl (subst (IsListed (v ∷ older)) e (last_listed v older))) (λ x. absurd x) i) h)
      (λ y k. tt) (λ y n k. still_new v older y (λ e. let x = ap rank e in omega (arith, x, k.0)) n) h

open_entered : (ps : List ℕ) (stack : List Task) (x : ℕ) → IsOpen (entered ps stack) x → IsOpen stack x
open_entered [] stack x h = h
open_entered (p ∷ ps) stack x h = open_entered ps (Enter p ∷ stack) x h

entered_open : (ps : List ℕ) (stack : List Task) (x : ℕ) → IsOpen stack x → IsOpen (entered ps stack) x
entered_open [] stack x h = h
entered_open (p ∷ ps) stack x h = entered_open ps (Enter p ∷ stack) x h

entered_in : (s : Store) (ps : List ℕ) (stack : List Task) (x : ℕ) → In (map (target s) stack) x → In (map (target s) (entered ps stack)) x
entered_in s [] stack x h = h
entered_in s (p ∷ ps) stack x h = entered_in s ps (Enter p ∷ stack) x (inr h)

-- ---- the steps of a walk

module _ (floor : ℕ) (s : Store) (start : ℕ) (older : List ℕ) (stack : List Task) (seen : ℕ → Bool) where
  -- one that waited to be left is listed
  pub left : (v : ℕ) → Walks floor s start older (Leave v ∷ stack) seen → Walks floor s start (v ∷ older) stack seen
  left v w = record {
    ranks = w.ranks;
    first = leave_first floor s w.ranks older v w.stacked.0 w.first;
    stacked = leave_stacked floor s w.ranks older v stack w.stacked.1;
    known = λ x h. ⊎_elim (λ i. inl (more_listed v older x i))
        (λ o. ⊎_elim (λ e. inl (subst (IsListed (v ∷ older)) e (last_listed v older))) (λ i. inr i) o) (w.known x h);
    listed = λ x h. ⊎_elim (λ e. w.opened x (inl e)) (λ i. w.listed x i) (listed_before v older x h);
    opened = λ x o. w.opened x (inr o);
    begins = λ d. ⊎_elim (λ i. inl (more_listed v older (end_of s start) i))
        (λ o. ⊎_elim (λ e. inl (subst (IsListed (v ∷ older)) e (last_listed v older))) (λ i. inr i) o) (w.begins d);
  }

  module _ (v : ℕ) (walks : Walks floor s start older (Enter v ∷ stack) seen) where
    abbrev at : ℕ
    at = end_of s v

    -- less deep, or listed: nothing is to be done
    module _ (done : IsDeep floor s at → IsListed older at) where
      settle : (above : List ℕ) (u : ℕ) → IsDeep floor s u → IsListed older u ⊎ In (at ∷ above) u → IsListed older u ⊎ In above u
      settle above u d (inl i) = inl i
      settle above u d (inr (inl e)) = inl (subst (IsListed older) e (done (subst (IsDeep floor s) (sym e) d)))
      settle above u d (inr (inr i)) = inr i

      pub passed : Walks floor s start older stack seen
      passed = record {
        ranks = walks.ranks;
        first = walks.first;
        stacked =
            restack floor s walks.ranks older older stack (at ∷ []) [] (settle []) (λ y k. tt) (λ y n k. n) walks.stacked.1;
        known = walks.known;
        listed = walks.listed;
        opened = walks.opened;
        begins = λ d. settle (map (target s) stack) (end_of s start) d (walks.begins d);
      }

    -- one that was entered before is listed
    pub known_listed : seen at ≡ true → IsListed older at
    known_listed e =
        ⊎_elim (λ i. i) (λ o. absurd (off_above floor s walks.ranks older stack (at ∷ []) at (inl refl) walks.stacked.1 o)) (walks.known at e)

    -- a new one waits to be left
    module _ (seen' : ℕ → Bool) (new : seen at ≡ false) (more : (q : ℕ) → seen' q ≡ cond (nat_eq at q) true (seen q)) (deep : IsDeep floor s at)
        (free : is_bound (slot_at s at).cell ≡ false) (inside : at < length s)
        (parts_inside : AllByRecursion (λ p. p < length s) (parts_of (slot_at s at).cell)) where
      abbrev parts : List ℕ
      parts = parts_of (slot_at s at).cell

      abbrev above : List ℕ
      above = ends floor s walks.ranks parts ++ []

      rank_all : (xs ys : List ℕ) → AllByRecursion (λ w. walks.ranks.rank w < walks.ranks.rank at) xs
          → AllByRecursion (λ w. walks.ranks.rank w < walks.ranks.rank at) (ends floor s walks.ranks xs ++ [])
      unfolding ends
      rank_all [] ys h = tt
      rank_all (x ∷ xs) ys h = (let e = end_rank s walks.ranks x in omega (arith, e, h.0), rank_all xs ys h.1)

      wait_all : (xs : List ℕ) (B : List ℕ) → ((u : ℕ) → In (ends floor s walks.ranks xs ++ []) u → In B u) → AllByRecursion (Waits floor s older B) xs
      unfolding ends
      wait_all [] B f = tt
      wait_all (x ∷ xs) B f = (λ d. inr (f (end_of s x) (inl refl)), wait_all xs B (λ u i. f u (inr i)))

      stays_new : number_in older at ≡ None
      stays_new = new_or_listed older at (λ h. false≢true (sym new ∙ walks.listed at h))

      may : MayLeave walks.ranks.rank floor s older above at
      may = record {
        new = stays_new;
        inside = inside;
        deep = deep;
        end = free;
        parts = wait_all parts above (λ u i. i);
        higher = rank_all parts [] (walks.ranks.each at);
      }

      lower : (y : ℕ) (xs : List ℕ) → walks.ranks.rank at < walks.ranks.rank y → AllByRecursion (λ u. walks.ranks.rank u < walks.ranks.rank at) xs
          → AllByRecursion (λ u. walks.ranks.rank u < walks.ranks.rank y) xs
      lower y xs l h =
          all_map (λ u. walks.ranks.rank u < walks.ranks.rank at) (λ u. walks.ranks.rank u < walks.ranks.rank y) (λ u k. omega (arith, k, l)) xs h

      below : Stacked walks.ranks.rank floor s older (at ∷ above) stack
      below =
          restack floor s walks.ranks older older stack (at ∷ []) (at ∷ above)
          (λ u d h. ⊎_elim (λ x. inl x) (λ i. ⊎_elim (λ e. inr (inl e)) (λ x. absurd x) i) h)
          (λ y k. (k.0, lower y above k.0 (rank_all parts [] (walks.ranks.each at)))) (λ y n k. n) walks.stacked.1

      seen_more : (x : ℕ) → seen x ≡ true → seen' x ≡ true
      seen_more x h = more x ∙ go (nat_eq at x)
        where
          go : (b : Bool) → cond b true (seen x) ≡ true
          go true = refl
          go false = h

      seen_at : seen' at ≡ true
      seen_at = more at ∙ ap (λ b. cond b true (seen at)) (eq-eqb at at refl)

      seen_before : (x : ℕ) → seen' x ≡ true → (at ≡ x) ⊎ (seen x ≡ true)
      seen_before x h = go (nat_eq at x) refl
        where
          go : (b : Bool) → nat_eq at x ≡ b → (at ≡ x) ⊎ (seen x ≡ true)
          go true e = inl (eqb-true at x e)
          go false e = inr (ap (λ b. cond b true (seen x)) (sym e) ∙ (sym (more x) ∙ h))

      pub went_in : Walks floor s start older (entered parts (Leave at ∷ stack)) seen'
      went_in = record {
        ranks = walks.ranks;
        first = walks.first;
        stacked = entered_stacked floor s walks.ranks older parts [] (Leave at ∷ stack) parts_inside (may, below);
        known = λ x h. ⊎_elim (λ e. inr (entered_open parts (Leave at ∷ stack) x (inl e)))
            (λ k. ⊎_elim (λ i. inl i) (λ o. inr (entered_open parts (Leave at ∷ stack) x (inr o))) (walks.known x k)) (seen_before x h);
        listed = λ x h. seen_more x (walks.listed x h);
        opened = λ x h. ⊎_elim (λ e. subst (λ y. seen' y ≡ true) e seen_at) (λ o. seen_more x (walks.opened x o)) (open_entered parts (Leave at ∷ stack) x h);
        begins = λ d. ⊎_elim (λ i. inl i) (λ i. inr (entered_in s parts (Leave at ∷ stack) (end_of s start) i)) (walks.begins d);
      }

-- ---- at the start and at the end

pub at_start : (floor : ℕ) (s : Store) (start : ℕ) (seen : ℕ → Bool) → IsStore s → start < length s → ((x : ℕ) → seen x ≡ false)
    → Walks floor s start [] (Enter start ∷ []) seen
at_start floor s start seen whole l none = record {
  ranks = ranks_of s whole;
  first = tt;
  stacked = (l, tt);
  known = λ x h. absurd (false≢true (sym (none x) ∙ h));
  listed = λ x h. absurd (let e = h.1 in cc);
  opened = λ x h. absurd h;
  begins = λ d. inr (inl refl);
}

pub at_end : (floor : ℕ) (s : Store) (start : ℕ) (older : List ℕ) (seen : ℕ → Bool) → Walks floor s start older [] seen → IsReady floor s older start
at_end floor s start older seen w d = ⊎_elim (λ i. i) (λ x. absurd x) (w.begins d)

-- the same variables were entered
pub same_seen : (floor : ℕ) (s : Store) (start : ℕ) (older : List ℕ) (stack : List Task) (seen seen' : ℕ → Bool) → ((q : ℕ) → seen' q ≡ seen q)
    → Walks floor s start older stack seen → Walks floor s start older stack seen'
same_seen floor s start older stack seen seen' e w = record {
  ranks = w.ranks;
  first = w.first;
  stacked = w.stacked;
  known = λ x h. w.known x (sym (e x) ∙ h);
  listed = λ x h. e x ∙ w.listed x h;
  opened = λ x o. e x ∙ w.opened x o;
  begins = w.begins;
}
