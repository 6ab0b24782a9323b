-- Values of modules, one after another.
use Rattle.std.proofs.Common.{◌≡◌, ℕ, zero, suc, ◌<◌, ◌≤◌, List, [], ◌∷◌, ◌++◌, length, get_or, refl, sym, ap}
use Rattle.std.proofs.Common.{◌∙◌, subst, arith, ◌⊎◌, inl, inr}
use Rattle.std.specs.Prelude.{Option, Some, None, slice_get}
use Rattle.std.specs.List.{AllByRecursion}
use Rattle.std.proofs.lemmas.Bool.{cases_lt}
use Rattle.std.proofs.lemmas.List.Elements.{filter_map-append}
use Rattle.std.proofs.lemmas.Option.{slice_get_past, slice_get_within}
use Rattle.std.specs.declared.alloc.Global.{Global}
use Rattle.std.specs.declared.vec.Vec.{Vec}
use Rattle.decl_groups.specs.Groups.{list_at, plain}
use Rattle.import_graph.specs.Fold.{Graph, IsOrdered, values_at, AreMade, Folds, IsFunction}

module _ {V : Type 0} where
  -- ---- lists of values

  pub at_more : (values : List V) (js ks : List ℕ)
      → values_at values (js ++ ks) ≡ values_at values js ++ values_at values ks
  at_more values js ks = filter_map-append (slice_get values) js ks

  -- two lists that agree at these places
  pub at_same : (values others : List V) (js : List ℕ)
      → AllByRecursion (λ j. slice_get values j ≡ slice_get others j) js
      → values_at values js ≡ values_at others js
  at_same values others [] h = refl
  at_same values others (j ∷ js) h = rw (h.0, at_same values others js h.1)

  get_within : (xs ys : List V) (j : ℕ) → j < length xs → slice_get (xs ++ ys) j ≡ slice_get xs j
  get_within [] ys j h = absurd (omega arith)
  get_within (x ∷ xs) ys zero h = refl
  get_within (x ∷ xs) ys (suc j) h = get_within xs ys j (omega arith)

  all_within : (xs ys : List V) (n : ℕ) (js : List ℕ) → n ≤ length xs → AllByRecursion (λ j. j < n) js
      → AllByRecursion (λ j. slice_get (xs ++ ys) j ≡ slice_get xs j) js
  all_within xs ys n [] le h = tt
  all_within xs ys n (j ∷ js) le h =
      let first : j < n = h.0 in
      (get_within xs ys j (omega (arith, first)), all_within xs ys n js le h.1)

  none_past : (xs : List V) (n : ℕ) → slice_get xs n ≡ None → n < length xs → ⊥
  none_past [] n e lt = omega (arith, lt)
  none_past (x ∷ xs) zero e lt = cc
  none_past (x ∷ xs) (suc n) e lt = none_past xs n e (omega (arith, lt))

  snoc_cases : (xs : List V) (v : V) (i : ℕ) (w : V) → slice_get (xs ++ v ∷ []) i ≡ Some w
      → (slice_get xs i ≡ Some w) ⊎ ((i ≡ length xs) × (w ≡ v))
  snoc_cases [] v zero w h = inr (refl, cc)
  snoc_cases [] v (suc i) w h = absurd (cc)
  snoc_cases (x ∷ xs) v zero w h = inl h
  snoc_cases (x ∷ xs) v (suc i) w h =
      elim (snoc_cases xs v i w h) [ inl a ↦ inl a | inr b ↦ inr (ap suc b.0, b.1) ]

  same_lists : (xs ys : List V) → ((i : ℕ) → slice_get xs i ≡ slice_get ys i) → xs ≡ ys
  same_lists [] [] h = refl
  same_lists [] (y ∷ ys) h = let e : slice_get [] zero ≡ Some y = h zero in absurd (cc)
  same_lists (x ∷ xs) [] h = let e : Some x ≡ slice_get [] zero = h zero in absurd (cc)
  same_lists (x ∷ xs) (y ∷ ys) h =
      let e : Some x ≡ Some y = h zero in
      let first : x ≡ y = cc in
      let rest : xs ≡ ys = same_lists xs ys (λ i. h (suc i)) in cc

  -- ---- one module more

  module _ (Makes : ℕ → List V → V → Type 0) (graph : Graph) (ordered : IsOrdered graph) where
    pub made_more : (values : List V) (v : V) (n : ℕ) → length values ≡ n → AreMade Makes graph values
        → Makes n (values_at values (list_at graph n)) v → AreMade Makes graph (values ++ v ∷ [])
    made_more values v n e h m i w is =
        elim (snoc_cases values v i w is) [
          | inl a ↦
              let within : i < length values = slice_get_within values i w a in
              subst (λ vs. Makes i vs w)
              (sym (at_same (values ++ v ∷ []) values (list_at graph i)
              (all_within values (v ∷ []) i (list_at graph i) (omega (arith, within)) (ordered i))))
              (h i w a)
          | inr b ↦
              let here : i ≡ n = b.0 ∙ e in
              subst (λ k. Makes k (values_at (values ++ v ∷ []) (list_at graph k)) w) (sym here)
              (subst (λ u. Makes n (values_at (values ++ v ∷ []) (list_at graph n)) u) (sym b.1)
              (subst (λ vs. Makes n vs v)
              (sym (at_same (values ++ v ∷ []) values (list_at graph n)
              (all_within values (v ∷ []) n (list_at graph n) (omega (arith, e)) (ordered n))))
              m))
        ]

    -- ---- one list

    module _ (is_function : IsFunction Makes) (values others : List V) (a : Folds Makes graph values)
        (b : Folds Makes graph others) where
      all_same : (n : ℕ) (js : List ℕ) → ((i : ℕ) → i < n → slice_get values i ≡ slice_get others i)
          → AllByRecursion (λ j. j < n) js → AllByRecursion (λ j. slice_get values j ≡ slice_get others j) js
      all_same n [] h k = tt
      all_same n (j ∷ js) h k = (h j k.0, all_same n js h k.1)

      both : (n : ℕ) → ((i : ℕ) → i < n → slice_get values i ≡ slice_get others i) → (o p : Option V)
          → slice_get values n ≡ o → slice_get others n ≡ p → n < length graph → o ≡ p
      both n h None p e f lt = absurd (none_past values n e (omega (arith, a.each, lt)))
      both n h (Some v) None e f lt = absurd (none_past others n f (omega (arith, b.each, lt)))
      both n h (Some v) (Some w) e f lt =
          ap Some
          (is_function n (values_at values (list_at graph n)) v w (a.made n v e)
          (subst (λ vs. Makes n vs w)
          (sym (at_same values others (list_at graph n) (all_same n (list_at graph n) h (ordered n)))) (b.made n w f)))

      same_at : (n : ℕ) → ((i : ℕ) → i < n → slice_get values i ≡ slice_get others i)
          → slice_get values n ≡ slice_get others n
      same_at n h =
          elim (cases_lt n (length graph)) [
            | inl lt ↦ both n h (slice_get values n) (slice_get others n) refl refl lt
            | inr ge ↦
                slice_get_past values n (omega (arith, a.each, ge)) ∙ sym
                (slice_get_past others n (omega (arith, b.each, ge)))
          ]

      same_below : (n i : ℕ) → i < n → slice_get values i ≡ slice_get others i
      same_below zero i lt = absurd (omega (arith, lt))
      same_below (suc n) i lt =
          elim (cases_lt i n) [
            | inl below ↦ same_below n i below
            | inr ge ↦
                let here : n ≡ i = omega (arith, lt, ge) in
                subst (λ k. slice_get values k ≡ slice_get others k) here (same_at n (same_below n))
          ]

      pub folds_once : values ≡ others
      folds_once = same_lists values others (λ i. same_below (suc i) i (omega arith))

-- the list at a place of vectors
pub plain_at : (graph : List (Vec ℕ Global)) (n : ℕ) (row : Vec ℕ Global) → n < length graph → row ≡ get_or graph n row
    → list_at (plain graph) n ≡ row.items
plain_at [] n row lt e = absurd (omega (arith, lt))
plain_at (x ∷ xs) zero row lt e = ap (λ (r : Vec ℕ Global). r.items) (sym e)
plain_at (x ∷ xs) (suc n) row lt e = plain_at xs n row (omega (arith, lt)) e
