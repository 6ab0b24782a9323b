-- The order in which variables appear, where each has another number.
use Rattle.std.proofs.Common.{◌≡◌, ℕ, ◌+◌, List, [], ◌∷◌, ◌++◌, map, Bool, true, false, cond, refl, sym, ap, ◌∙◌}
use Rattle.std.specs.Prelude.{◌||◌, not, nat_eq}
use Rattle.std.specs.List.{AllByRecursion, list_any, position_or_len}
use Rattle.std.proofs.lemmas.List.{map-append}
use Rattle.std.proofs.lemmas.Bool.{eqb-true, eq-eqb}
use Rattle.elm_type.specs.Types.{ElmType, ElmTypes, Fields, End, Closed, Over, Made, Record, NoType, MoreType, NoField}
use Rattle.elm_type.specs.Types.{MoreField, variables, variables_all, variables_fields, end_variables, renamed}
use Rattle.elm_type.specs.Types.{renamed_all}
use Rattle.elm_type.specs.Types.{renamed_fields, renamed_end, Leaf, Free, Fixed}
use Rattle.elm_type.specs.Schemes.{noted, in_order}
use Rattle.type_items.proofs.Matching.{all_first, all_second, all_both}

-- ---- variables of a type with other variables

mutual
  pub variables_renamed : {X Y : Type 0} (f : X → Y) (t : ElmType X) → variables (renamed f t) ≡ map f (variables t)
  variables_renamed f (Made h ts) = variables_all_renamed f ts
  variables_renamed f (Record fs Closed) = variables_fields_renamed f fs
  variables_renamed f (Record fs (Over x)) = ap (λ vs. f x ∷ vs) (variables_fields_renamed f fs)

  variables_all_renamed : {X Y : Type 0} (f : X → Y) (ts : ElmTypes X) → variables_all (renamed_all f ts) ≡ map f (variables_all ts)
  variables_all_renamed f NoType = refl
  variables_all_renamed f (MoreType t ts) =
      ap (λ vs. vs ++ variables_all (renamed_all f ts)) (variables_renamed f t)
      ∙ (ap (λ vs. map f (variables t) ++ vs) (variables_all_renamed f ts) ∙ sym (map-append f (variables t) (variables_all ts)))

  variables_fields_renamed : {X Y : Type 0} (f : X → Y) (fs : Fields X) → variables_fields (renamed_fields f fs) ≡ map f (variables_fields fs)
  variables_fields_renamed f NoField = refl
  variables_fields_renamed f (MoreField k t fs) =
      ap (λ vs. vs ++ variables_fields (renamed_fields f fs)) (variables_renamed f t)
      ∙ (ap (λ vs. map f (variables t) ++ vs) (variables_fields_renamed f fs) ∙ sym (map-append f (variables t) (variables_fields fs)))

-- what keeps each variable keeps the type
module _ {X : Type 0} (f : X → X) where
  ends_kept : (end : End X) → AllByRecursion (λ x. f x ≡ x) (end_variables end) → renamed_end f end ≡ end
  ends_kept Closed h = refl
  ends_kept (Over x) h = ap Over h.0

  mutual
    pub kept : (t : ElmType X) → AllByRecursion (λ x. f x ≡ x) (variables t) → renamed f t ≡ t
    kept (Made h ts) a = ap (Made h) (all_kept ts a)
    kept (Record fs end) a =
        ap (λ e. Record (renamed_fields f fs) e) (ends_kept end (all_first (λ x. f x ≡ x) (end_variables end) (variables_fields fs) a))
        ∙ ap (λ gs. Record gs end) (fields_kept fs (all_second (λ x. f x ≡ x) (end_variables end) (variables_fields fs) a))

    all_kept : (ts : ElmTypes X) → AllByRecursion (λ x. f x ≡ x) (variables_all ts) → renamed_all f ts ≡ ts
    all_kept NoType a = refl
    all_kept (MoreType t ts) a =
        ap (λ u. MoreType u (renamed_all f ts)) (kept t (all_first (λ x. f x ≡ x) (variables t) (variables_all ts) a))
        ∙ ap (MoreType t) (all_kept ts (all_second (λ x. f x ≡ x) (variables t) (variables_all ts) a))

    fields_kept : (fs : Fields X) → AllByRecursion (λ x. f x ≡ x) (variables_fields fs) → renamed_fields f fs ≡ fs
    fields_kept NoField a = refl
    fields_kept (MoreField k t fs) a =
        ap (λ u. MoreField k u (renamed_fields f fs)) (kept t (all_first (λ x. f x ≡ x) (variables t) (variables_fields fs) a))
        ∙ ap (MoreField k t) (fields_kept fs (all_second (λ x. f x ≡ x) (variables t) (variables_fields fs) a))

  -- and what keeps a list keeps each of its items
  pub each_kept : (xs : List X) → map f xs ≡ xs → AllByRecursion (λ x. f x ≡ x) xs
  each_kept [] e = tt
  each_kept (x ∷ xs) e =
      let head : f x ≡ x = cc in
      let rest : map f xs ≡ xs = cc in
      (head, each_kept xs rest)

-- ---- what holds of variables holds of their numbers in order

abbrev pub OfLeaf : (ℕ → Type 0) → Leaf ℕ → Type 0
OfLeaf P (Free i) = P i
OfLeaf P (Fixed r) = Unit {0}

module _ (P : ℕ → Type 0) where
  chosen_all : (b : Bool) (xs ys : List ℕ) → AllByRecursion P xs → AllByRecursion P ys → AllByRecursion P (cond b xs ys)
  chosen_all true xs ys h k = h
  chosen_all false xs ys h k = k

  pub all_in_order : (order : List ℕ) (ls : List (Leaf ℕ)) → AllByRecursion P order → AllByRecursion (OfLeaf P) ls → AllByRecursion P (in_order order ls)
  all_in_order order [] h k = h
  all_in_order order (Free i ∷ ls) h k =
      all_in_order (noted order i) ls
      (chosen_all (list_any (nat_eq i) order) order (order ++ i ∷ []) h (all_both P order (i ∷ []) h (k.0, tt))) k.1
  all_in_order order (Fixed r ∷ ls) h k = all_in_order order ls h k.1

-- ---- other numbers, where no two become one

module _ (f : ℕ → ℕ) (P : ℕ → Type 0) (apart : (i j : ℕ) → P i → P j → f i ≡ f j → i ≡ j) where
  abbrev pub leaf_map : Leaf ℕ → Leaf ℕ
  leaf_map (Free i) = Free (f i)
  leaf_map (Fixed r) = Fixed r

  tested : (i j : ℕ) (b c : Bool) → nat_eq (f i) (f j) ≡ b → nat_eq i j ≡ c → P i → P j → b ≡ c
  tested i j true true d e p q = refl
  tested i j false false d e p q = refl
  tested i j true false d e p q =
      let same : i ≡ j = apart i j p q (eqb-true (f i) (f j) d) in
      absurd (let w : true ≡ false = sym (eq-eqb i j same) ∙ e in cc)
  tested i j false true d e p q =
      let same : f i ≡ f j = ap f (eqb-true i j e) in
      absurd (let w : true ≡ false = sym (eq-eqb (f i) (f j) same) ∙ d in cc)

  same_test : (i j : ℕ) → P i → P j → nat_eq (f i) (f j) ≡ nat_eq i j
  same_test i j p q = tested i j (nat_eq (f i) (f j)) (nat_eq i j) refl refl p q

  any_same : (i : ℕ) (order : List ℕ) → P i → AllByRecursion P order → list_any (nat_eq (f i)) (map f order) ≡ list_any (nat_eq i) order
  any_same i [] p h = refl
  any_same i (j ∷ js) p h =
      ap (λ b. b || list_any (nat_eq (f i)) (map f js)) (same_test i j p h.0)
      ∙ ap (λ b. nat_eq i j || b) (any_same i js p h.1)

  mapped_choice : (b : Bool) (order : List ℕ) (i : ℕ) → cond b (map f order) (map f order ++ f i ∷ []) ≡ map f (cond b order (order ++ i ∷ []))
  mapped_choice true order i = refl
  mapped_choice false order i = sym (map-append f order (i ∷ []))

  noted_same : (i : ℕ) (order : List ℕ) → P i → AllByRecursion P order → noted (map f order) (f i) ≡ map f (noted order i)
  noted_same i order p h =
      ap (λ b. cond b (map f order) (map f order ++ f i ∷ [])) (any_same i order p h)
      ∙ mapped_choice (list_any (nat_eq i) order) order i

  pub order_same : (order : List ℕ) (ls : List (Leaf ℕ)) → AllByRecursion P order → AllByRecursion (OfLeaf P) ls
      → in_order (map f order) (map leaf_map ls) ≡ map f (in_order order ls)
  order_same order [] h k = refl
  order_same order (Free i ∷ ls) h k =
      ap (λ o. in_order o (map leaf_map ls)) (noted_same i order k.0 h)
      ∙ order_same (noted order i) ls
      (chosen_all P (list_any (nat_eq i) order) order (order ++ i ∷ []) h (all_both P order (i ∷ []) h (k.0, tt))) k.1
  order_same order (Fixed r ∷ ls) h k = order_same order ls h k.1

  pub position_same : (i : ℕ) (order : List ℕ) → P i → AllByRecursion P order
      → position_or_len (nat_eq (f i)) (map f order) ≡ position_or_len (nat_eq i) order
  position_same i [] p h = refl
  position_same i (j ∷ js) p h =
      ap (λ b. cond (not b) (1 + position_or_len (nat_eq (f i)) (map f js)) 0) (same_test i j p h.0)
      ∙ ap (λ n. cond (not (nat_eq i j)) (1 + n) 0) (position_same i js p h.1)
