-- The fields of two rows, by their names.
use Rattle.std.proofs.Common.{◌≡◌, ℕ, zero, suc, ◌+◌, ◌<◌, ◌≤◌, List, [], ◌∷◌, ◌++◌, length, get_or, drop, map, true, false, None, Less, Equal, Greater, refl, sym, ap, ◌∙◌, subst, arith, All}
use Rattle.std.specs.Prelude.{◌||◌}
use Rattle.std.specs.Str.{bytes_eq}
use Rattle.std.specs.Ordering.{is_eq, is_lt, nat_cmp, ordering_reverse}
use Rattle.std.specs.Cmp.Lexicographic.{slice_cmp}
use Rattle.std.proofs.lemmas.Cmp.{nat_list_cmp_total}
use Rattle.std.proofs.lemmas.Map.Text.{is_eq-slice_cmp}
use Rattle.std.proofs.lemmas.List.{append_assoc, append-nil, drop_more, drop_all, get_or-map, length-map, map_push}
use Rattle.std.proofs.lemmas.List.Elements.{All-head, All-tail, All-cons, All-nil, All-weaker}
use Rattle.elm_type.specs.Types.{Name}
use Rattle.elm_type.specs.Rows.{name_lt}
use Rattle.elm_type.specs.Ground.{contains}
use Rattle.type_store.specs.Store.{FieldSlot, field_names}
use Rattle.type_store.specs.Shape.{Ascending, NoneIn}
use Rattle.type_store.specs.Steps.{Interleaves, Neither, First, Second, Merged, Merges, Split, Turned}
use Rattle.type_store.specs.declared.split.Turn.TheVariants.{InFirst, InSecond, InBoth}
use Rattle.type_store.specs.declared.slot.FieldSlot as stored
use Rattle.type_store.specs.View.{field_view}
use Rattle.type_store.proofs.Names.{lt_trans, lt_apart, not_equal_swap, same_name, equal_itself}
use Rattle.type_store.proofs.RowsMeet.{or_right}

abbrev Above : Name → List Name → Type 0
Above x ys = All (λ y. name_lt x y ≡ true) ys

-- ---- parts of a row in order

first_of : (P : Name → Type 0) (fs gs ms : List FieldSlot) → Interleaves fs gs ms → All P (field_names ms) → All P (field_names fs)
first_of P fs gs ms Neither a = a
first_of P fs gs ms (First f us vs ws i) a = All-cons P f.0 (field_names us) (All-head P f.0 (field_names ws) a) (first_of P us vs ws i (All-tail P f.0 (field_names ws) a))
first_of P fs gs ms (Second g us vs ws i) a = first_of P us vs ws i (All-tail P g.0 (field_names ws) a)

second_of : (P : Name → Type 0) (fs gs ms : List FieldSlot) → Interleaves fs gs ms → All P (field_names ms) → All P (field_names gs)
second_of P fs gs ms Neither a = a
second_of P fs gs ms (First f us vs ws i) a = second_of P us vs ws i (All-tail P f.0 (field_names ws) a)
second_of P fs gs ms (Second g us vs ws i) a = All-cons P g.0 (field_names vs) (All-head P g.0 (field_names ws) a) (second_of P us vs ws i (All-tail P g.0 (field_names ws) a))

first_rises : (fs gs ms : List FieldSlot) → Interleaves fs gs ms → Ascending (field_names ms) → Ascending (field_names fs)
first_rises fs gs ms Neither a = tt
first_rises fs gs ms (First f us vs ws i) a = (first_of (λ y. name_lt f.0 y ≡ true) us vs ws i a.0, first_rises us vs ws i a.1)
first_rises fs gs ms (Second g us vs ws i) a = first_rises us vs ws i a.1

second_rises : (fs gs ms : List FieldSlot) → Interleaves fs gs ms → Ascending (field_names ms) → Ascending (field_names gs)
second_rises fs gs ms Neither a = tt
second_rises fs gs ms (First f us vs ws i) a = second_rises us vs ws i a.1
second_rises fs gs ms (Second g us vs ws i) a = (second_of (λ y. name_lt g.0 y ≡ true) us vs ws i a.0, second_rises us vs ws i a.1)

-- a name below all of a list is not in it
not_above : (x : Name) (ys : List Name) → Above x ys → contains x ys ≡ false
not_above x [] a = refl
not_above x (y ∷ ys) a = ap (λ b. b || contains x ys) (lt_apart x y (All-head (λ z. name_lt x z ≡ true) y ys a)) ∙ not_above x ys (All-tail (λ z. name_lt x z ≡ true) y ys a)

-- names above one are not that one
more_none : (xs : List Name) (y : Name) (ys : List Name) → Above y xs → NoneIn xs ys → NoneIn xs (y ∷ ys)
more_none [] y ys a n = All-nil (λ z. contains z (y ∷ ys) ≡ false)
more_none (x ∷ xs) y ys a n =
    All-cons (λ z. contains z (y ∷ ys) ≡ false) x xs
    (ap (λ b. b || contains x ys) (not_equal_swap y x (lt_apart y x (All-head (λ z. name_lt y z ≡ true) x xs a))) ∙ All-head (λ z. contains z ys ≡ false) x xs n)
    (more_none xs y ys (All-tail (λ z. name_lt y z ≡ true) x xs a) (All-tail (λ z. contains z ys ≡ false) x xs n))

pub parts_apart : (fs gs ms : List FieldSlot) → Interleaves fs gs ms → Ascending (field_names ms) → NoneIn (field_names fs) (field_names gs)
parts_apart fs gs ms Neither a = All-nil (λ z. contains z [] ≡ false)
parts_apart fs gs ms (First f us vs ws i) a =
    All-cons (λ z. contains z (field_names vs) ≡ false) f.0 (field_names us) (not_above f.0 (field_names vs) (second_of (λ y. name_lt f.0 y ≡ true) us vs ws i a.0)) (parts_apart us vs ws i a.1)
parts_apart fs gs ms (Second g us vs ws i) a = more_none (field_names us) g.0 (field_names vs) (first_of (λ y. name_lt g.0 y ≡ true) us vs ws i a.0) (parts_apart us vs ws i a.1)

-- ---- two rows, name by name

pub data Splitting : List FieldSlot → List FieldSlot → List FieldSlot → List FieldSlot → List FieldSlot → List FieldSlot → Type 0 where
  Done : Splitting [] [] [] [] [] []
  OnFirst : (f : FieldSlot) (A B ca cb L R : List FieldSlot) → Above f.0 (field_names B) → Splitting A B ca cb L R → Splitting (f ∷ A) B ca cb (f ∷ L) R
  OnSecond : (g : FieldSlot) (A B ca cb L R : List FieldSlot) → Above g.0 (field_names A) → Splitting A B ca cb L R → Splitting A (g ∷ B) ca cb L (g ∷ R)
  OnBoth : (f g : FieldSlot) (A B ca cb L R : List FieldSlot) → f.0 ≡ g.0 → Splitting A B ca cb L R → Splitting (f ∷ A) (g ∷ B) (f ∷ ca) (g ∷ cb) L R

split_first : (A B ca cb L R : List FieldSlot) → Splitting A B ca cb L R → Interleaves ca L A
split_first A B ca cb L R Done = Neither
split_first A B ca cb L R (OnFirst f X Y xa xb M N a s) = Second f xa M X (split_first X Y xa xb M N s)
split_first A B ca cb L R (OnSecond g X Y xa xb M N a s) = split_first X Y xa xb M N s
split_first A B ca cb L R (OnBoth f g X Y xa xb M N e s) = First f xa M X (split_first X Y xa xb M N s)

split_second : (A B ca cb L R : List FieldSlot) → Splitting A B ca cb L R → Interleaves cb R B
split_second A B ca cb L R Done = Neither
split_second A B ca cb L R (OnFirst f X Y xa xb M N a s) = split_second X Y xa xb M N s
split_second A B ca cb L R (OnSecond g X Y xa xb M N a s) = Second g xb N Y (split_second X Y xa xb M N s)
split_second A B ca cb L R (OnBoth f g X Y xa xb M N e s) = First g xb N Y (split_second X Y xa xb M N s)

split_names : (A B ca cb L R : List FieldSlot) → Splitting A B ca cb L R → field_names ca ≡ field_names cb
split_names A B ca cb L R Done = refl
split_names A B ca cb L R (OnFirst f X Y xa xb M N a s) = split_names X Y xa xb M N s
split_names A B ca cb L R (OnSecond g X Y xa xb M N a s) = split_names X Y xa xb M N s
split_names A B ca cb L R (OnBoth f g X Y xa xb M N e s) = ap (λ x. x ∷ field_names xa) e ∙ ap (λ xs. g.0 ∷ xs) (split_names X Y xa xb M N s)

split_apart : (A B ca cb L R : List FieldSlot) → Splitting A B ca cb L R → NoneIn (field_names L) (field_names R)
split_apart A B ca cb L R Done = All-nil (λ z. contains z [] ≡ false)
split_apart A B ca cb L R (OnFirst f X Y xa xb M N a s) =
    All-cons (λ z. contains z (field_names N) ≡ false) f.0 (field_names M) (not_above f.0 (field_names N) (second_of (λ y. name_lt f.0 y ≡ true) xb N Y (split_second X Y xa xb M N s) a)) (split_apart X Y xa xb M N s)
split_apart A B ca cb L R (OnSecond g X Y xa xb M N a s) =
    more_none (field_names M) g.0 (field_names N) (second_of (λ y. name_lt g.0 y ≡ true) xa M X (split_first X Y xa xb M N s) a) (split_apart X Y xa xb M N s)
split_apart A B ca cb L R (OnBoth f g X Y xa xb M N e s) = split_apart X Y xa xb M N s

pub split_is : (A B ca cb L R : List FieldSlot) → Ascending (field_names A) → Ascending (field_names B) → Splitting A B ca cb L R → Split A B ca cb L R
split_is A B ca cb L R a b s =
    let i = split_first A B ca cb L R s in
    let j = split_second A B ca cb L R s in
    record {
      first = record { fields = i; apart = parts_apart ca L A i a };
      second = record { fields = j; apart = parts_apart cb R B j b };
      names = split_names A B ca cb L R s;
      apart = split_apart A B ca cb L R s;
      both_rise = first_rises ca L A i a;
      left_rises = second_rises ca L A i a;
      right_rises = second_rises cb R B j b;
    }

-- ---- from places on

-- what is left goes after what there is
pub record Sofar (A B : List FieldSlot) (i j : ℕ) (ca cb L R : List FieldSlot) : Type 0 where
  pub rest : (xa xb M N : List FieldSlot) → Splitting (drop i A) (drop j B) xa xb M N → Splitting A B (ca ++ xa) (cb ++ xb) (L ++ M) (R ++ N)

pub so_far_none : (A B : List FieldSlot) → Sofar A B 0 0 [] [] [] []
so_far_none A B = record { rest = λ xa xb M N s. s }

pub so_far_all : (A B : List FieldSlot) (i j : ℕ) (ca cb L R : List FieldSlot) → length A ≤ i → length B ≤ j → Sofar A B i j ca cb L R → Splitting A B ca cb L R
so_far_all A B i j ca cb L R a b s =
    let t : Splitting (drop i A) (drop j B) [] [] [] [] = subst (λ X. Splitting X (drop j B) [] [] [] []) (sym (drop_all i A a)) (subst (λ Y. Splitting [] Y [] [] [] []) (sym (drop_all j B b)) Done) in
    let r = s.rest [] [] [] [] t in
    subst (λ X. Splitting A B X cb L R) (append-nil ca) (subst (λ X. Splitting A B (ca ++ []) X L R) (append-nil cb) (subst (λ X. Splitting A B (ca ++ []) (cb ++ []) X R) (append-nil L) (subst (λ X. Splitting A B (ca ++ []) (cb ++ []) (L ++ []) X) (append-nil R) r)))

pub so_far_first : (A B : List FieldSlot) (i j : ℕ) (ca cb L R : List FieldSlot) (f : FieldSlot) → drop i A ≡ f ∷ drop (i + 1) A → Turned InFirst (drop i A) (drop j B) → Sofar A B i j ca cb L R → Sofar A B (i + 1) j ca cb (L ++ f ∷ []) R
so_far_first A B i j ca cb L R f e t s = record {
  rest = λ xa xb M N r. (
      let u : Turned InFirst (f ∷ drop (i + 1) A) (drop j B) = subst (λ X. Turned InFirst X (drop j B)) e t in
      let w : Splitting (drop i A) (drop j B) xa xb (f ∷ M) N = subst (λ X. Splitting X (drop j B) xa xb (f ∷ M) N) (sym e) (OnFirst f (drop (i + 1) A) (drop j B) xa xb M N u r) in
      subst (λ X. Splitting A B (ca ++ xa) (cb ++ xb) X (R ++ N)) (sym (append_assoc L (f ∷ []) M)) (s.rest xa xb (f ∷ M) N w));
}

pub so_far_second : (A B : List FieldSlot) (i j : ℕ) (ca cb L R : List FieldSlot) (g : FieldSlot) → drop j B ≡ g ∷ drop (j + 1) B → Turned InSecond (drop i A) (drop j B) → Sofar A B i j ca cb L R → Sofar A B i (j + 1) ca cb L (R ++ g ∷ [])
so_far_second A B i j ca cb L R g e t s = record {
  rest = λ xa xb M N r. (
      let u : Turned InSecond (drop i A) (g ∷ drop (j + 1) B) = subst (λ X. Turned InSecond (drop i A) X) e t in
      let w : Splitting (drop i A) (drop j B) xa xb M (g ∷ N) = subst (λ X. Splitting (drop i A) X xa xb M (g ∷ N)) (sym e) (OnSecond g (drop i A) (drop (j + 1) B) xa xb M N u r) in
      subst (λ X. Splitting A B (ca ++ xa) (cb ++ xb) (L ++ M) X) (sym (append_assoc R (g ∷ []) N)) (s.rest xa xb M (g ∷ N) w));
}

pub so_far_both : (A B : List FieldSlot) (i j : ℕ) (ca cb L R : List FieldSlot) (f g : FieldSlot) → drop i A ≡ f ∷ drop (i + 1) A → drop j B ≡ g ∷ drop (j + 1) B → Turned InBoth (drop i A) (drop j B)
    → Sofar A B i j ca cb L R → Sofar A B (i + 1) (j + 1) (ca ++ f ∷ []) (cb ++ g ∷ []) L R
so_far_both A B i j ca cb L R f g e h t s = record {
  rest = λ xa xb M N r. (
      let u : f.0 ≡ g.0 = subst (λ X. Turned InBoth X (g ∷ drop (j + 1) B)) e (subst (λ X. Turned InBoth (drop i A) X) h t) in
      let w : Splitting (drop i A) (drop j B) (f ∷ xa) (g ∷ xb) M N = subst (λ X. Splitting X (drop j B) (f ∷ xa) (g ∷ xb) M N) (sym e)
      (subst (λ X. Splitting (f ∷ drop (i + 1) A) X (f ∷ xa) (g ∷ xb) M N) (sym h) (OnBoth f g (drop (i + 1) A) (drop (j + 1) B) xa xb M N u r)) in
      subst (λ X. Splitting A B X ((cb ++ g ∷ []) ++ xb) (L ++ M) (R ++ N)) (sym (append_assoc ca (f ∷ []) xa)) (subst (λ X. Splitting A B (ca ++ (f ∷ xa)) X (L ++ M) (R ++ N)) (sym (append_assoc cb (g ∷ []) xb)) (s.rest (f ∷ xa) (g ∷ xb) M N w)));
}

-- ---- as the program reads them

pub drop_view : (fs : List stored.FieldSlot) (i : ℕ) (d : stored.FieldSlot) → i < length fs → drop i (map field_view fs) ≡ field_view (get_or fs i d) ∷ drop (i + 1) (map field_view fs)
drop_view fs i d l =
    let m : i < length (map field_view fs) = omega (arith, length-map fs field_view) in
    drop_more (map field_view fs) i (field_view d) m ∙ ap (λ x. x ∷ drop (i + 1) (map field_view fs)) (get_or-map field_view fs i d (field_view d) l)

rises_from : (fs : List FieldSlot) (i : ℕ) → Ascending (field_names fs) → Ascending (field_names (drop i fs))
rises_from fs zero a = a
rises_from [] (suc i) a = a
rises_from (f ∷ fs) (suc i) a = rises_from fs i a.1

above_rest : (x y : Name) (ys : List Name) → name_lt x y ≡ true → Above y ys → Above x (y ∷ ys)
above_rest x y ys l a = All-cons (λ z. name_lt x z ≡ true) y ys l (All-weaker (λ z. name_lt y z ≡ true) (λ z. name_lt x z ≡ true) (λ z h. lt_trans x y z l h) ys a)

module _ (fs gs : List stored.FieldSlot) (i j : ℕ) (d e : stored.FieldSlot) (rf : Ascending (field_names (map field_view fs))) (rg : Ascending (field_names (map field_view gs))) where
  abbrev A : List FieldSlot
  A = map field_view fs

  abbrev B : List FieldSlot
  B = map field_view gs

  pub turned_less : i < length fs → j < length gs → slice_cmp nat_cmp (get_or fs i d).name (get_or gs j e).name ≡ Less → Turned InFirst (drop i A) (drop j B)
  turned_less l m o =
      let rest : Ascending (field_names (field_view (get_or gs j e) ∷ drop (j + 1) B)) = subst (λ X. Ascending (field_names X)) (drop_view gs j e m) (rises_from B j rg) in
      subst (λ X. Turned InFirst X (drop j B)) (sym (drop_view fs i d l)) (subst (λ X. Turned InFirst (field_view (get_or fs i d) ∷ drop (i + 1) A) X) (sym (drop_view gs j e m))
      (above_rest (get_or fs i d).name (get_or gs j e).name (field_names (drop (j + 1) B)) (ap is_lt o) rest.0))

  pub turned_greater : i < length fs → j < length gs → slice_cmp nat_cmp (get_or fs i d).name (get_or gs j e).name ≡ Greater → Turned InSecond (drop i A) (drop j B)
  turned_greater l m o =
      let rest : Ascending (field_names (field_view (get_or fs i d) ∷ drop (i + 1) A)) = subst (λ X. Ascending (field_names X)) (drop_view fs i d l) (rises_from A i rf) in
      let back : name_lt (get_or gs j e).name (get_or fs i d).name ≡ true = ap is_lt (nat_list_cmp_total.antisymm (get_or gs j e).name (get_or fs i d).name ∙ ap ordering_reverse o) in
      subst (λ X. Turned InSecond X (drop j B)) (sym (drop_view fs i d l)) (subst (λ X. Turned InSecond (field_view (get_or fs i d) ∷ drop (i + 1) A) X) (sym (drop_view gs j e m))
      (above_rest (get_or gs j e).name (get_or fs i d).name (field_names (drop (i + 1) A)) back rest.0))

  pub turned_equal : i < length fs → j < length gs → slice_cmp nat_cmp (get_or fs i d).name (get_or gs j e).name ≡ Equal → Turned InBoth (drop i A) (drop j B)
  turned_equal l m o =
      let same : (get_or fs i d).name ≡ (get_or gs j e).name = same_name (get_or fs i d).name (get_or gs j e).name (sym (is_eq-slice_cmp (get_or fs i d).name (get_or gs j e).name) ∙ ap is_eq o) in
      subst (λ X. Turned InBoth X (drop j B)) (sym (drop_view fs i d l)) (subst (λ X. Turned InBoth (field_view (get_or fs i d) ∷ drop (i + 1) A) X) (sym (drop_view gs j e m)) same)

  pub turned_no_second : i < length fs → length gs ≤ j → Turned InFirst (drop i A) (drop j B)
  turned_no_second l m =
      let none : drop j B ≡ [] = drop_all j B (omega (arith, length-map gs field_view)) in
      subst (λ X. Turned InFirst X (drop j B)) (sym (drop_view fs i d l)) (subst (λ X. Turned InFirst (field_view (get_or fs i d) ∷ drop (i + 1) A) X) (sym none) (All-nil (λ y. name_lt (get_or fs i d).name y ≡ true)))

  pub turned_no_first : length fs ≤ i → j < length gs → Turned InSecond (drop i A) (drop j B)
  turned_no_first l m =
      let none : drop i A ≡ [] = drop_all i A (omega (arith, length-map fs field_view)) in
      subst (λ X. Turned InSecond X (drop j B)) (sym none) (subst (λ X. Turned InSecond [] X) (sym (drop_view gs j e m)) (All-nil (λ y. name_lt (get_or gs j e).name y ≡ true)))

-- ---- what is next is there

pub first_inside : (fs : List stored.FieldSlot) (i : ℕ) (Y : List FieldSlot) → Turned InFirst (drop i (map field_view fs)) Y → i < length fs
first_inside [] zero Y t = absurd t
first_inside [] (suc i) Y t = absurd t
first_inside (f ∷ fs) zero Y t = omega arith
first_inside (f ∷ fs) (suc i) Y t = let h = first_inside fs i Y t in omega (arith, h)

pub second_inside : (gs : List stored.FieldSlot) (j : ℕ) (X : List FieldSlot) → Turned InSecond X (drop j (map field_view gs)) → j < length gs
second_inside [] zero X t = absurd t
second_inside [] (suc j) X t = absurd t
second_inside (g ∷ gs) zero X t = omega arith
second_inside (g ∷ gs) (suc j) X t = let h = second_inside gs j X t in omega (arith, h)

pub both_inside_first : (fs : List stored.FieldSlot) (i : ℕ) (Y : List FieldSlot) → Turned InBoth (drop i (map field_view fs)) Y → i < length fs
both_inside_first [] zero Y t = absurd t
both_inside_first [] (suc i) Y t = absurd t
both_inside_first (f ∷ fs) zero Y t = omega arith
both_inside_first (f ∷ fs) (suc i) Y t = let h = both_inside_first fs i Y t in omega (arith, h)

pub both_inside_second : (gs : List stored.FieldSlot) (j : ℕ) (X : List FieldSlot) → Turned InBoth X (drop j (map field_view gs)) → j < length gs
both_inside_second gs j [] t = absurd t
both_inside_second [] zero (x ∷ X) t = absurd t
both_inside_second [] (suc j) (x ∷ X) t = absurd t
both_inside_second (g ∷ gs) zero (x ∷ X) t = omega arith
both_inside_second (g ∷ gs) (suc j) (x ∷ X) t = let h = both_inside_second gs j (x ∷ X) t in omega (arith, h)

-- ---- what is pushed

pushed_view : (ms es : List stored.FieldSlot) (x : stored.FieldSlot) (f : FieldSlot) → field_view x ≡ f → es ≡ ms ++ x ∷ [] → map field_view ms ++ f ∷ [] ≡ map field_view es
pushed_view ms es x f e w = sym (ap (map field_view) w ∙ (map_push field_view ms x ∙ ap (λ y. map field_view ms ++ y ∷ []) e))

module _ (fs gs : List stored.FieldSlot) (i j : ℕ) (xs ys ms ns : List stored.FieldSlot)
    (s : Sofar (map field_view fs) (map field_view gs) i j (map field_view xs) (map field_view ys) (map field_view ms) (map field_view ns)) where
  pub push_first : (es : List stored.FieldSlot) (x d : stored.FieldSlot) → Turned InFirst (drop i (map field_view fs)) (drop j (map field_view gs)) → field_view x ≡ field_view (get_or fs i d) → es ≡ ms ++ x ∷ []
      → Sofar (map field_view fs) (map field_view gs) (i + 1) j (map field_view xs) (map field_view ys) (map field_view es) (map field_view ns)
  push_first es x d t e w =
      subst (λ X. Sofar (map field_view fs) (map field_view gs) (i + 1) j (map field_view xs) (map field_view ys) X (map field_view ns)) (pushed_view ms es x (field_view (get_or fs i d)) e w)
      (so_far_first (map field_view fs) (map field_view gs) i j (map field_view xs) (map field_view ys) (map field_view ms) (map field_view ns) (field_view (get_or fs i d))
      (drop_view fs i d (first_inside fs i (drop j (map field_view gs)) t)) t s)

  pub push_second : (es : List stored.FieldSlot) (x d : stored.FieldSlot) → Turned InSecond (drop i (map field_view fs)) (drop j (map field_view gs)) → field_view x ≡ field_view (get_or gs j d) → es ≡ ns ++ x ∷ []
      → Sofar (map field_view fs) (map field_view gs) i (j + 1) (map field_view xs) (map field_view ys) (map field_view ms) (map field_view es)
  push_second es x d t e w =
      subst (λ X. Sofar (map field_view fs) (map field_view gs) i (j + 1) (map field_view xs) (map field_view ys) (map field_view ms) X) (pushed_view ns es x (field_view (get_or gs j d)) e w)
      (so_far_second (map field_view fs) (map field_view gs) i j (map field_view xs) (map field_view ys) (map field_view ms) (map field_view ns) (field_view (get_or gs j d))
      (drop_view gs j d (second_inside gs j (drop i (map field_view fs)) t)) t s)

  pub push_both : (es hs : List stored.FieldSlot) (x y d c : stored.FieldSlot) → Turned InBoth (drop i (map field_view fs)) (drop j (map field_view gs)) → field_view x ≡ field_view (get_or fs i d) → field_view y ≡ field_view (get_or gs j c)
      → es ≡ xs ++ x ∷ [] → hs ≡ ys ++ y ∷ []
      → Sofar (map field_view fs) (map field_view gs) (i + 1) (j + 1) (map field_view es) (map field_view hs) (map field_view ms) (map field_view ns)
  push_both es hs x y d c t e h w v =
      subst (λ X. Sofar (map field_view fs) (map field_view gs) (i + 1) (j + 1) X (map field_view hs) (map field_view ms) (map field_view ns)) (pushed_view xs es x (field_view (get_or fs i d)) e w)
      (subst (λ X. Sofar (map field_view fs) (map field_view gs) (i + 1) (j + 1) (map field_view xs ++ field_view (get_or fs i d) ∷ []) X (map field_view ms) (map field_view ns)) (pushed_view ys hs y (field_view (get_or gs j c)) h v)
      (so_far_both (map field_view fs) (map field_view gs) i j (map field_view xs) (map field_view ys) (map field_view ms) (map field_view ns) (field_view (get_or fs i d)) (field_view (get_or gs j c))
      (drop_view fs i d (both_inside_first fs i (drop j (map field_view gs)) t)) (drop_view gs j c (both_inside_second gs j (drop i (map field_view fs)) t)) t s))

-- ---- two rows in one

pub data Merging : List FieldSlot → List FieldSlot → List FieldSlot → Type 0 where
  NoMore : Merging [] [] []
  OfFirst : (f : FieldSlot) (A B ms : List FieldSlot) → Above f.0 (field_names B) → Merging A B ms → Merging (f ∷ A) B (f ∷ ms)
  OfSecond : (g : FieldSlot) (A B ms : List FieldSlot) → Above g.0 (field_names A) → Merging A B ms → Merging A (g ∷ B) (g ∷ ms)

merging_fields : (A B ms : List FieldSlot) → Merging A B ms → Interleaves A B ms
merging_fields A B ms NoMore = Neither
merging_fields A B ms (OfFirst f X Y ws a s) = First f X Y ws (merging_fields X Y ws s)
merging_fields A B ms (OfSecond g X Y ws a s) = Second g X Y ws (merging_fields X Y ws s)

above_both : (x : Name) (fs gs ms : List FieldSlot) → Interleaves fs gs ms → Above x (field_names fs) → Above x (field_names gs) → Above x (field_names ms)
above_both x fs gs ms Neither a b = a
above_both x fs gs ms (First f us vs ws i) a b =
    All-cons (λ y. name_lt x y ≡ true) f.0 (field_names ws) (All-head (λ y. name_lt x y ≡ true) f.0 (field_names us) a) (above_both x us vs ws i (All-tail (λ y. name_lt x y ≡ true) f.0 (field_names us) a) b)
above_both x fs gs ms (Second g us vs ws i) a b =
    All-cons (λ y. name_lt x y ≡ true) g.0 (field_names ws) (All-head (λ y. name_lt x y ≡ true) g.0 (field_names vs) b) (above_both x us vs ws i a (All-tail (λ y. name_lt x y ≡ true) g.0 (field_names vs) b))

merging_rises : (A B ms : List FieldSlot) → Ascending (field_names A) → Ascending (field_names B) → Merging A B ms → Ascending (field_names ms)
merging_rises A B ms a b NoMore = tt
merging_rises A B ms a b (OfFirst f X Y ws h s) = (above_both f.0 X Y ws (merging_fields X Y ws s) a.0 h, merging_rises X Y ws a.1 b s)
merging_rises A B ms a b (OfSecond g X Y ws h s) = (above_both g.0 X Y ws (merging_fields X Y ws s) h b.0, merging_rises X Y ws a b.1 s)

pub merge_is : (A B ms : List FieldSlot) → Ascending (field_names A) → Ascending (field_names B) → Merging A B ms → Merged A B ms × Ascending (field_names ms)
merge_is A B ms a b s =
    let i = merging_fields A B ms s in
    let r = merging_rises A B ms a b s in
    (record { fields = i; apart = parts_apart A B ms i r }, r)

pub record Merging_on (A B : List FieldSlot) (i j : ℕ) (ms : List FieldSlot) : Type 0 where
  pub rest : (ws : List FieldSlot) → Merging (drop i A) (drop j B) ws → Merging A B (ms ++ ws)

pub merging_none : (A B : List FieldSlot) → Merging_on A B 0 0 []
merging_none A B = record { rest = λ ws s. s }

pub merging_all : (A B : List FieldSlot) (i j : ℕ) (ms : List FieldSlot) → length A ≤ i → length B ≤ j → Merging_on A B i j ms → Merging A B ms
merging_all A B i j ms a b s =
    let t : Merging (drop i A) (drop j B) [] = subst (λ X. Merging X (drop j B) []) (sym (drop_all i A a)) (subst (λ Y. Merging [] Y []) (sym (drop_all j B b)) NoMore) in
    subst (λ X. Merging A B X) (append-nil ms) (s.rest [] t)

module _ (fs gs : List stored.FieldSlot) (i j : ℕ) (ms : List stored.FieldSlot) (s : Merging_on (map field_view fs) (map field_view gs) i j (map field_view ms)) where
  pub merge_first : (es : List stored.FieldSlot) (x d : stored.FieldSlot) → Turned InFirst (drop i (map field_view fs)) (drop j (map field_view gs)) → field_view x ≡ field_view (get_or fs i d) → es ≡ ms ++ x ∷ []
      → Merging_on (map field_view fs) (map field_view gs) (i + 1) j (map field_view es)
  merge_first es x d t e w = record {
    rest = λ ws r. (
        let A = map field_view fs in
        let B = map field_view gs in
        let f = field_view (get_or fs i d) in
        let q : drop i A ≡ f ∷ drop (i + 1) A = drop_view fs i d (first_inside fs i (drop j B) t) in
        let u : Turned InFirst (f ∷ drop (i + 1) A) (drop j B) = subst (λ X. Turned InFirst X (drop j B)) q t in
        let v : Merging (drop i A) (drop j B) (f ∷ ws) = subst (λ X. Merging X (drop j B) (f ∷ ws)) (sym q) (OfFirst f (drop (i + 1) A) (drop j B) ws u r) in
        subst (λ X. Merging A B X) (sym (append_assoc (map field_view ms) (f ∷ []) ws) ∙ ap (λ X. X ++ ws) (pushed_view ms es x f e w)) (s.rest (f ∷ ws) v));
  }

  pub merge_second : (es : List stored.FieldSlot) (x d : stored.FieldSlot) → Turned InSecond (drop i (map field_view fs)) (drop j (map field_view gs)) → field_view x ≡ field_view (get_or gs j d) → es ≡ ms ++ x ∷ []
      → Merging_on (map field_view fs) (map field_view gs) i (j + 1) (map field_view es)
  merge_second es x d t e w = record {
    rest = λ ws r. (
        let A = map field_view fs in
        let B = map field_view gs in
        let g = field_view (get_or gs j d) in
        let q : drop j B ≡ g ∷ drop (j + 1) B = drop_view gs j d (second_inside gs j (drop i A) t) in
        let u : Turned InSecond (drop i A) (g ∷ drop (j + 1) B) = subst (λ X. Turned InSecond (drop i A) X) q t in
        let v : Merging (drop i A) (drop j B) (g ∷ ws) = subst (λ X. Merging (drop i A) X (g ∷ ws)) (sym q) (OfSecond g (drop i A) (drop (j + 1) B) ws u r) in
        subst (λ X. Merging A B X) (sym (append_assoc (map field_view ms) (g ∷ []) ws) ∙ ap (λ X. X ++ ws) (pushed_view ms es x g e w)) (s.rest (g ∷ ws) v));
  }

-- ---- a name that both have

in_dropped : (x : Name) (fs : List FieldSlot) (i : ℕ) → contains x (field_names (drop i fs)) ≡ true → contains x (field_names fs) ≡ true
in_dropped x fs zero h = h
in_dropped x [] (suc i) h = h
in_dropped x (f ∷ fs) (suc i) h = or_right (bytes_eq x f.0) (contains x (field_names fs)) (in_dropped x fs i h)

pub both_have : (fs gs : List stored.FieldSlot) (i j : ℕ) (d e : stored.FieldSlot) → Turned InBoth (drop i (map field_view fs)) (drop j (map field_view gs)) → Merges (map field_view fs) (map field_view gs) None
both_have fs gs i j d e t =
    let A = map field_view fs in
    let B = map field_view gs in
    let p : drop i A ≡ field_view (get_or fs i d) ∷ drop (i + 1) A = drop_view fs i d (both_inside_first fs i (drop j B) t) in
    let q : drop j B ≡ field_view (get_or gs j e) ∷ drop (j + 1) B = drop_view gs j e (both_inside_second gs j (drop i A) t) in
    let same : (get_or fs i d).name ≡ (get_or gs j e).name = subst (λ X. Turned InBoth X (field_view (get_or gs j e) ∷ drop (j + 1) B)) p (subst (λ X. Turned InBoth (drop i A) X) q t) in
    let x = (get_or fs i d).name in
    let a : contains x (field_names (drop i A)) ≡ true = ap (λ X. contains x (field_names X)) p ∙ ap (λ b. b || contains x (field_names (drop (i + 1) A))) (equal_itself x) in
    let b : contains x (field_names (drop j B)) ≡ true = ap (λ X. contains x (field_names X)) q ∙ ap (λ c. c || contains x (field_names (drop (j + 1) B))) (ap (bytes_eq x) (sym same) ∙ equal_itself x) in
    (x, in_dropped x A i a, in_dropped x B j b)
