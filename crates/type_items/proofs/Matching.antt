-- Types of which each becomes the other where its variables stand for some types: they are the same but for the names of
-- their variables.
use Rattle.std.proofs.Common.{◌≡◌, ℕ, ◌+◌, ◌-◌, ◌<◌, List, [], ◌∷◌, ◌++◌, length, true, refl, sym, ap, ◌∙◌, arith}
use Rattle.std.specs.List.{AllByRecursion}
use Rattle.elm_type.specs.Types.{ElmType, ElmTypes, Fields, End, Closed, Over, Made, Record, NoType, MoreType, NoField}
use Rattle.elm_type.specs.Types.{MoreField, count_fields, variable, variables, variables_all, variables_fields}
use Rattle.elm_type.specs.Types.{end_variables}
use Rattle.elm_type.specs.Types.{renamed, renamed_all, renamed_fields, renamed_end, Rigid, Leaf, Free, Fixed, Kind}
use Rattle.elm_type.specs.Classes.{Ground}
use Rattle.elm_type.specs.Rows.{at_end, substitute_all, substitute_fields, rise, ordered, ordered_all}
use Rattle.elm_type.specs.Rows.{ordered_fields, insert_all}
use Rattle.elm_type.specs.Ground.{leaf_value, value}
use Rattle.type_items.proofs.Fresh.{fresh, Low, number_of_fresh}
use Rattle.type_items.proofs.Rows.{first_true, second_true, count_put, put_ordered, count_renamed, count_all}
use Rattle.type_items.proofs.Rows.{none_counted}
use Rattle.type_items.proofs.Rows.{extended}

pub all_first : {X : Type 0} (P : X → Type 0) (xs ys : List X) → AllByRecursion P (xs ++ ys) → AllByRecursion P xs
all_first P [] ys h = tt
all_first P (x ∷ xs) ys h = (h.0, all_first P xs ys h.1)

pub all_second : {X : Type 0} (P : X → Type 0) (xs ys : List X) → AllByRecursion P (xs ++ ys) → AllByRecursion P ys
all_second P [] ys h = h
all_second P (x ∷ xs) ys h = all_second P xs ys h.1

pub all_both : {X : Type 0} (P : X → Type 0) (xs ys : List X) → AllByRecursion P xs → AllByRecursion P ys → AllByRecursion P (xs ++ ys)
all_both P [] ys h k = k
all_both P (x ∷ xs) ys h k = (h.0, all_both P xs ys h.1 k)

-- the variables stand for their constants
abbrev pub leaf_constant : ℕ → List Kind → Leaf ℕ → Rigid
leaf_constant n kinds (Free i) = fresh n kinds i
leaf_constant n kinds (Fixed r) = r

abbrev pub number_in : ℕ → Ground → ℕ
number_in n (Record NoField (Over r)) = length r.place - n
number_in n _ = 0

-- the variable whose constant it is
abbrev pub turned : ℕ → (ℕ → Ground) → Leaf ℕ → Leaf ℕ
turned n c (Free i) = Free (number_in n (c i))
turned n c (Fixed r) = Fixed r

-- no short constant is one of these
not_fresh : (n : ℕ) (kinds : List Kind) (i : ℕ) (r : Rigid) → length r.place < n → r ≡ fresh n kinds i → ⊥
not_fresh n kinds i r low e =
    let l : length r.place ≡ n + i = ap (λ q. length q.place) e ∙ number_of_fresh n kinds i in omega (arith, low, l)

module _ (n : ℕ) (ks js : List Kind) (c d : ℕ → Ground) where
  -- variable i of the second type stands for the constant of a variable of the first, whose variable stands for that of i
  abbrev pub Paired : Leaf ℕ → Type 0
  Paired (Free i) = (c i ≡ variable (fresh n ks (number_in n (c i)))) × (d (number_in n (c i)) ≡ variable (fresh n js i))
  Paired (Fixed r) = Unit {0}

  paired_variables : (i j : ℕ) → c i ≡ variable (fresh n ks j) → d j ≡ variable (fresh n js i)
      → (Free j ≡ turned n c (Free i)) × Paired (Free i)
  paired_variables i j e f =
      let l : length (fresh n ks j).place ≡ n + j = number_of_fresh n ks j in
      let m : number_in n (c i) ≡ j = ap (number_in n) e ∙ (ap (λ k. k - n) l ∙ omega arith) in
      (ap Free (sym m), (e ∙ ap (λ k. variable (fresh n ks k)) (sym m), ap d m ∙ f))

  ends : (x y : End (Leaf ℕ)) → AllByRecursion (Low n) (end_variables x) → AllByRecursion (Low n) (end_variables y)
      → at_end (leaf_value c) y ≡ Record NoField (renamed_end (leaf_constant n ks) x)
      → at_end (leaf_value d) x ≡ Record NoField (renamed_end (leaf_constant n js) y)
      → (x ≡ renamed_end (turned n c) y) × AllByRecursion Paired (end_variables y)
  ends Closed Closed lx ly e f = (refl, tt)
  ends Closed (Over l) lx ly e f = absurd cc
  ends (Over l) Closed lx ly e f = absurd cc
  ends (Over (Fixed r)) (Over (Fixed q)) lx ly e f = (let s : q ≡ r = cc in ap (λ k. Over (Fixed k)) (sym s), (tt, tt))
  ends (Over (Free j)) (Over (Fixed q)) lx ly e f = absurd (let s : q ≡ fresh n ks j = cc in not_fresh n ks j q ly.0 s)
  ends (Over (Fixed r)) (Over (Free i)) lx ly e f = absurd (let s : r ≡ fresh n js i = cc in not_fresh n js i r lx.0 s)
  ends (Over (Free j)) (Over (Free i)) lx ly e f =
      let h = paired_variables i j e f in (ap Over h.0, (h.1, tt))

  mutual
    pub match : (t u : ElmType (Leaf ℕ)) → AllByRecursion (Low n) (variables t) → AllByRecursion (Low n) (variables u)
        → ordered t ≡ true → ordered u ≡ true → value c u ≡ renamed (leaf_constant n ks) t → value d t ≡ renamed (leaf_constant n js) u
        → (t ≡ renamed (turned n c) u) × AllByRecursion Paired (variables u)
    match (Made h ts) (Made g us) lt lu ot ou e f =
        let same : g ≡ h = cc in
        let pe : substitute_all (leaf_value c) us ≡ renamed_all (leaf_constant n ks) ts = cc in
        let pf : substitute_all (leaf_value d) ts ≡ renamed_all (leaf_constant n js) us = cc in
        let r = match_all ts us lt lu ot ou pe pf in
        (ap (λ k. Made k ts) (sym same) ∙ ap (Made g) r.0, r.1)
    match (Made h ts) (Record fs y) lt lu ot ou e f = absurd cc
    match (Record gs x) (Made h us) lt lu ot ou e f = absurd cc
    match (Record gs x) (Record fs y) lt lu ot ou e f =
        let p = extended (substitute_fields (leaf_value c) fs) (at_end (leaf_value c) y) (renamed_fields (leaf_constant n ks) gs) (renamed_end (leaf_constant n ks) x) e in
        let q = extended (substitute_fields (leaf_value d) gs) (at_end (leaf_value d) x) (renamed_fields (leaf_constant n js) fs) (renamed_end (leaf_constant n js) y) f in
        let a : count_fields fs + count_fields p.rest ≡ count_fields gs =
        ap (λ k. k + count_fields p.rest) (sym (count_put (leaf_value c) fs))
        ∙ (sym (count_all (substitute_fields (leaf_value c) fs) p.rest) ∙ (ap count_fields p.all ∙ count_renamed (leaf_constant n ks) gs)) in
        let b : count_fields gs + count_fields q.rest ≡ count_fields fs =
        ap (λ k. k + count_fields q.rest) (sym (count_put (leaf_value d) gs))
        ∙ (sym (count_all (substitute_fields (leaf_value d) gs) q.rest) ∙ (ap count_fields q.all ∙ count_renamed (leaf_constant n js) fs)) in
        let np : p.rest ≡ NoField = none_counted p.rest (omega (arith, a, b)) in
        let nq : q.rest ≡ NoField = none_counted q.rest (omega (arith, a, b)) in
        let fe : substitute_fields (leaf_value c) fs ≡ renamed_fields (leaf_constant n ks) gs =
        sym (put_ordered (leaf_value c) fs (first_true (rise fs) _ ou)) ∙ (ap (insert_all (substitute_fields (leaf_value c) fs)) (sym np) ∙ p.all) in
        let ff : substitute_fields (leaf_value d) gs ≡ renamed_fields (leaf_constant n js) fs =
        sym (put_ordered (leaf_value d) gs (first_true (rise gs) _ ot)) ∙ (ap (insert_all (substitute_fields (leaf_value d) gs)) (sym nq) ∙ q.all) in
        let r = match_fields gs fs (all_second (Low n) (end_variables x) (variables_fields gs) lt) (all_second (Low n) (end_variables y) (variables_fields fs) lu)
        (second_true (rise gs) _ ot) (second_true (rise fs) _ ou) fe ff in
        let s = ends x y (all_first (Low n) (end_variables x) (variables_fields gs) lt) (all_first (Low n) (end_variables y) (variables_fields fs) lu)
        (p.from ∙ ap (λ hs. Record hs (renamed_end (leaf_constant n ks) x)) np) (q.from ∙ ap (λ hs. Record hs (renamed_end (leaf_constant n js) y)) nq) in
        (ap (λ hs. Record hs x) r.0 ∙ ap (Record (renamed_fields (turned n c) fs)) s.0, all_both Paired (end_variables y) (variables_fields fs) s.1 r.1)

    match_all : (ts us : ElmTypes (Leaf ℕ)) → AllByRecursion (Low n) (variables_all ts) → AllByRecursion (Low n) (variables_all us)
        → ordered_all ts ≡ true → ordered_all us ≡ true → substitute_all (leaf_value c) us ≡ renamed_all (leaf_constant n ks) ts
        → substitute_all (leaf_value d) ts ≡ renamed_all (leaf_constant n js) us
        → (ts ≡ renamed_all (turned n c) us) × AllByRecursion Paired (variables_all us)
    match_all NoType NoType lt lu ot ou e f = (refl, tt)
    match_all NoType (MoreType u us) lt lu ot ou e f = absurd cc
    match_all (MoreType t ts) NoType lt lu ot ou e f = absurd cc
    match_all (MoreType t ts) (MoreType u us) lt lu ot ou e f =
        let he : value c u ≡ renamed (leaf_constant n ks) t = cc in
        let hf : value d t ≡ renamed (leaf_constant n js) u = cc in
        let pe : substitute_all (leaf_value c) us ≡ renamed_all (leaf_constant n ks) ts = cc in
        let pf : substitute_all (leaf_value d) ts ≡ renamed_all (leaf_constant n js) us = cc in
        let r = match t u (all_first (Low n) (variables t) (variables_all ts) lt) (all_first (Low n) (variables u) (variables_all us) lu)
        (first_true (ordered t) _ ot) (first_true (ordered u) _ ou) he hf in
        let s = match_all ts us (all_second (Low n) (variables t) (variables_all ts) lt) (all_second (Low n) (variables u) (variables_all us) lu)
        (second_true (ordered t) _ ot) (second_true (ordered u) _ ou) pe pf in
        (ap (λ k. MoreType k ts) r.0 ∙ ap (MoreType (renamed (turned n c) u)) s.0, all_both Paired (variables u) (variables_all us) r.1 s.1)

    match_fields : (gs fs : Fields (Leaf ℕ)) → AllByRecursion (Low n) (variables_fields gs) → AllByRecursion (Low n) (variables_fields fs)
        → ordered_fields gs ≡ true → ordered_fields fs ≡ true → substitute_fields (leaf_value c) fs ≡ renamed_fields (leaf_constant n ks) gs
        → substitute_fields (leaf_value d) gs ≡ renamed_fields (leaf_constant n js) fs
        → (gs ≡ renamed_fields (turned n c) fs) × AllByRecursion Paired (variables_fields fs)
    match_fields NoField NoField lt lu ot ou e f = (refl, tt)
    match_fields NoField (MoreField k u fs) lt lu ot ou e f = absurd cc
    match_fields (MoreField k t gs) NoField lt lu ot ou e f = absurd cc
    match_fields (MoreField j t gs) (MoreField k u fs) lt lu ot ou e f =
        let same : k ≡ j = cc in
        let he : value c u ≡ renamed (leaf_constant n ks) t = cc in
        let hf : value d t ≡ renamed (leaf_constant n js) u = cc in
        let pe : substitute_fields (leaf_value c) fs ≡ renamed_fields (leaf_constant n ks) gs = cc in
        let pf : substitute_fields (leaf_value d) gs ≡ renamed_fields (leaf_constant n js) fs = cc in
        let r = match t u (all_first (Low n) (variables t) (variables_fields gs) lt) (all_first (Low n) (variables u) (variables_fields fs) lu)
        (first_true (ordered t) _ ot) (first_true (ordered u) _ ou) he hf in
        let s = match_fields gs fs (all_second (Low n) (variables t) (variables_fields gs) lt) (all_second (Low n) (variables u) (variables_fields fs) lu)
        (second_true (ordered t) _ ot) (second_true (ordered u) _ ou) pe pf in (
          ap (λ i. MoreField i t gs) (sym same) ∙ (ap (λ i. MoreField k i gs) r.0 ∙ ap (MoreField k (renamed (turned n c) u)) s.0),
          all_both Paired (variables u) (variables_fields fs) r.1 s.1,
        )
