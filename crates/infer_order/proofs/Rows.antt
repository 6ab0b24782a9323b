-- What definitions use, by a table of their names and as it is defined.
use Rattle.std.proofs.Common.{◌≡◌, ℕ, zero, suc, ◌+◌, ◌<◌, List, [], ◌∷◌, ◌++◌, length, map, filter, flat_map}
use Rattle.std.proofs.Common.{Bool, true, false, cond, refl, sym, ap, ◌∙◌, subst, arith, ⊎_elim, get_or}
use Rattle.std.specs.Prelude.{◌&&◌, ◌||◌, ◌==◌, is_none, if◌then◌else◌, All}
use Rattle.std.specs.List.{list_any, enumerate_from}
use Rattle.std.specs.declared.alloc.Global.{Global}
use Rattle.std.specs.declared.vec.Vec.{Vec}
use Rattle.std.proofs.lemmas.Bool.{eqb-true}
use Rattle.std.proofs.lemmas.List.{length-map}
use Rattle.std.proofs.lemmas.List.Elements.{All-nil, All-cons, Contains-get_or}
use Rattle.std.proofs.lemmas.List.Folds.{list_any-append}
use Rattle.std.proofs.Math.Bool.{or-false}
use Rattle.decl_groups.specs.Groups.{plain, list_at, IsOrder}
use Rattle.decl_groups.specs.InOrder.{is_in, ordered_groups, AreWithin, IsTheOrder}
use Rattle.decl_groups.proofs.Reaching.{is_use, use_is, or_cases, both}
use Rattle.elm_canon.specs.Names.{same_ref}
use Rattle.elm_canon.specs.declared.reference.Ref.{Ref}
use Rattle.elm_canon.specs.declared.reference.Ref.TheVariants.{Local, Top}
use Rattle.elm_canon.specs.Proper.{among}
use Rattle.type_items.specs.Definitions.{Definition, is_inferred_for, used_places, all_uses}
use Rattle.infer_order.specs.Owners.{Numbers, put, put_all, put_from, nothing}
use Rattle.infer_order.proofs.Owning.{same_back, pair_back, put_same}
use Rattle.infer_order.proofs.Grouping.{order_on}

-- ---- tests

ref_back : (x y : Ref) → same_ref x y ≡ same_ref y x
ref_back (Local x) (Local y) = same_back x y
ref_back (Local x) (Top n y) = refl
ref_back (Top m x) (Local y) = refl
ref_back (Top m x) (Top n y) = pair_back m n x y

or_assoc : (a b c : Bool) → ((a || b) || c) ≡ (a || (b || c))
or_assoc true b c = refl
or_assoc false b c = refl

is_in_more : (j n : ℕ) (xs : List ℕ) → is_in j (xs ++ n ∷ []) ≡ (is_in j xs || (j == n))
is_in_more j n xs = list_any-append (λ k. j == k) xs (n ∷ []) ∙ ap (λ b. is_in j xs || b) (or-false (j == n))

-- ---- the table

put_case : (j n : ℕ) (xs : List ℕ) (b : Bool)
    → is_in j (if b then xs ++ n ∷ [] else xs) ≡ (is_in j xs || (b && (j == n)))
put_case j n xs true = is_in_more j n xs
put_case j n xs false = sym (or-false (is_in j xs))

tautology : (a s e r : Bool) → ((a || (s && e)) || (r && e)) ≡ (a || ((if s then true else r) && e))
tautology true s e r = refl
tautology false true true r = refl
tautology false true false true = refl
tautology false true false false = refl
tautology false false e r = refl

put_all_in : (j n : ℕ) (xs : List Ref) (of : Numbers) (y : Ref)
    → is_in j (put_all xs n of y) ≡ (is_in j (of y) || (among y xs && (j == n)))
put_all_in j n [] of y = sym (or-false (is_in j (of y)))
put_all_in j n (x ∷ xs) of y =
    put_all_in j n xs (put x n of) y
    ∙ ap (λ b. b || (among y xs && (j == n))) (put_case j n (of y) (same_ref y x))
    ∙ tautology (is_in j (of y)) (same_ref y x) (j == n) (among y xs)

-- the definition of the number j has no annotation, and the name
abbrev owned : ℕ → ℕ → List Definition → Ref → Bool
owned j i [] y = false
owned j i (d ∷ ds) y = (is_none d.annotation && (among y d.names && (j == i))) || owned j (i + 1) ds y

one_put : (j i : ℕ) (d : Definition) (of : Numbers) (y : Ref) (b : Bool)
    → is_in j ((if b then put_all d.names i of else of) y) ≡ (is_in j (of y) || (b && (among y d.names && (j == i))))
one_put j i d of y true = put_all_in j i d.names of y
one_put j i d of y false = sym (or-false (is_in j (of y)))

pub from_in : (j i : ℕ) (ds : List Definition) (of : Numbers) (y : Ref)
    → is_in j (put_from i ds of y) ≡ (is_in j (of y) || owned j i ds y)
from_in j i [] of y = sym (or-false (is_in j (of y)))
from_in j i (d ∷ ds) of y =
    let one = is_none d.annotation && (among y d.names && (j == i)) in
    from_in j (i + 1) ds (if is_none d.annotation then put_all d.names i of else of) y
    ∙ ap (λ b. b || owned j (i + 1) ds y) (one_put j i d of y (is_none d.annotation))
    ∙ or_assoc (is_in j (of y)) one (owned j (i + 1) ds y)

-- ---- uses

flat_in : (j : ℕ) (of : Numbers) (used : List Ref) → is_in j (flat_map of used) ≡ list_any (λ y. is_in j (of y)) used
flat_in j of [] = refl
flat_in j of (y ∷ ys) =
    list_any-append (λ k. j == k) (of y) (flat_map of ys) ∙ ap (λ b. is_in j (of y) || b) (flat_in j of ys)

-- the definition of the number j has no annotation, and a name that is used
abbrev used_at : ℕ → ℕ → List Definition → List Ref → Bool
used_at j i [] used = false
used_at j i (d ∷ ds) used = (is_inferred_for used d && (j == i)) || used_at j (i + 1) ds used

place_case : (j i : ℕ) (d : Definition) (rest : List (ℕ × Definition)) (b : Bool)
    → is_in j (map (λ (p : ℕ × Definition). p.0) (cond b ((i, d) ∷ rest) rest)) ≡
    ((b && (j == i)) || is_in j (map (λ (p : ℕ × Definition). p.0) rest))
place_case j i d rest true = refl
place_case j i d rest false = refl

places_in : (j i : ℕ) (ds : List Definition) (used : List Ref)
    → is_in j (map (λ (p : ℕ × Definition). p.0)
    (filter (λ (p : ℕ × Definition). is_inferred_for used p.1) (enumerate_from i ds))) ≡ used_at j i ds used
places_in j i [] used = refl
places_in j i (d ∷ ds) used =
    place_case j i d (filter (λ (p : ℕ × Definition). is_inferred_for used p.1) (enumerate_from (i + 1) ds))
    (is_inferred_for used d)
    ∙ ap (λ b. (is_inferred_for used d && (j == i)) || b) (places_in j (i + 1) ds used)

any_or : {X : Type 0} (f g : X → Bool) (xs : List X) → list_any (λ x. f x || g x) xs ≡ (list_any f xs || list_any g xs)
any_or f g [] = refl
any_or f g (x ∷ xs) = ap (λ b. (f x || g x) || b) (any_or f g xs) ∙ shuffle (f x) (g x) (list_any f xs) (list_any g xs)
  where
    shuffle : (a b c d : Bool) → ((a || b) || (c || d)) ≡ ((a || c) || (b || d))
    shuffle true b c d = refl
    shuffle false true true d = refl
    shuffle false true false d = refl
    shuffle false false c d = refl

any_none : {X : Type 0} (xs : List X) → list_any (λ x. false) xs ≡ false
any_none [] = refl
any_none (x ∷ xs) = any_none xs

any_and : {X : Type 0} (a e : Bool) (f : X → Bool) (xs : List X)
    → list_any (λ x. a && (f x && e)) xs ≡ ((a && list_any f xs) && e)
any_and true true f xs = go f xs
  where
    and_true : (b : Bool) → (b && true) ≡ b
    and_true true = refl
    and_true false = refl

    go : {X : Type 0} (f : X → Bool) (xs : List X) → list_any (λ x. f x && true) xs ≡ (list_any f xs && true)
    go f [] = refl
    go f (x ∷ xs) =
        ap (λ b. (f x && true) || b) (go f xs ∙ and_true (list_any f xs)) ∙ ap (λ b. b || list_any f xs)
        (and_true (f x)) ∙ sym (and_true (f x || list_any f xs))
any_and true false f xs = none f xs ∙ sym (and_false (list_any f xs))
  where
    and_false : (b : Bool) → (b && false) ≡ false
    and_false true = refl
    and_false false = refl

    none : {X : Type 0} (f : X → Bool) (xs : List X) → list_any (λ x. f x && false) xs ≡ false
    none f [] = refl
    none f (x ∷ xs) = ap (λ b. b || list_any (λ y. f y && false) xs) (and_false (f x)) ∙ none f xs
any_and false e f xs = any_none xs

among_any : (u : Ref) (ns : List Ref) → among u ns ≡ list_any (λ x. same_ref x u) ns
among_any u [] = refl
among_any u (n ∷ ns) =
    case (same_ref u n) (among u ns) ∙ ap (λ b. b || among u ns) (ref_back u n) ∙ ap (λ b. same_ref n u || b)
    (among_any u ns)
  where
    case : (b c : Bool) → (if b then true else c) ≡ (b || c)
    case true c = refl
    case false c = refl

any_swaps : (ns used : List Ref) → list_any (λ y. among y ns) used ≡ list_any (λ x. among x used) ns
any_swaps ns [] = sym (any_none ns)
any_swaps ns (u ∷ us) =
    ap (λ b. among u ns || b) (any_swaps ns us)
    ∙ ap (λ b. b || list_any (λ x. among x us) ns) (among_any u ns)
    ∙ sym (any_or (λ x. same_ref x u) (λ x. among x us) ns)
    ∙ any_same ns
  where
    case : (b c : Bool) → (b || c) ≡ (if b then true else c)
    case true c = refl
    case false c = refl

    any_same : (xs : List Ref) → list_any (λ x. same_ref x u || among x us) xs ≡ list_any (λ x. among x (u ∷ us)) xs
    any_same [] = refl
    any_same (x ∷ xs) =
        ap (λ b. b || list_any (λ z. same_ref z u || among z us) xs) (case (same_ref x u) (among x us)) ∙ ap
        (λ b. among x (u ∷ us) || b) (any_same xs)

any_owned : (j i : ℕ) (ds : List Definition) (used : List Ref)
    → list_any (λ y. owned j i ds y) used ≡ used_at j i ds used
any_owned j i [] used = any_none used
any_owned j i (d ∷ ds) used =
    any_or (λ y. is_none d.annotation && (among y d.names && (j == i))) (λ y. owned j (i + 1) ds y) used
    ∙ ap (λ b. b || list_any (λ y. owned j (i + 1) ds y) used)
    (any_and (is_none d.annotation) (j == i) (λ y. among y d.names) used)
    ∙ ap (λ b. ((is_none d.annotation && b) && (j == i)) || list_any (λ y. owned j (i + 1) ds y) used)
    (any_swaps d.names used)
    ∙ ap (λ b. (is_inferred_for used d && (j == i)) || b) (any_owned j (i + 1) ds used)

flat_same : (f g : Numbers) → ((y : Ref) → f y ≡ g y) → (ys : List Ref) → flat_map f ys ≡ flat_map g ys
flat_same f g e [] = refl
flat_same f g e (y ∷ ys) = ap (λ l. l ++ flat_map f ys) (e y) ∙ ap (λ l. g y ++ l) (flat_same f g e ys)

-- by the table a definition uses what it is said to use
pub row_in : (of : Numbers) (ds : List Definition) → ((y : Ref) → of y ≡ put_from 0 ds nothing y) → (j : ℕ)
    (used : List Ref)
    → is_in j (flat_map of used) ≡ is_in j (used_places ds used)
row_in of ds e j used =
    ap (is_in j) (flat_same of (put_from 0 ds nothing) e used)
    ∙ flat_in j (put_from 0 ds nothing) used
    ∙ any_from used
    ∙ any_owned j 0 ds used ∙ sym (places_in j 0 ds used)
  where
    any_from : (ys : List Ref) → list_any (λ y. is_in j (put_from 0 ds nothing y)) ys ≡ list_any (λ y. owned j 0 ds y)
        ys
    any_from [] = refl
    any_from (y ∷ ys) =
        ap (λ b. b || list_any (λ z. is_in j (put_from 0 ds nothing z)) ys) (from_in j 0 ds nothing y) ∙ ap
        (λ b. owned j 0 ds y || b) (any_from ys)

used_below : (j i : ℕ) (ds : List Definition) (used : List Ref) → used_at j i ds used ≡ true → j < i + length ds
used_below j i [] used e = absurd cc
used_below j i (d ∷ ds) used e =
    ⊎_elim
    (λ f. let same : j ≡ i = eqb-true j i (both (is_inferred_for used d) (j == i) f).1 in omega arith)
    (λ f. let l = used_below j (i + 1) ds used f in omega arith)
    (or_cases (is_inferred_for used d && (j == i)) (used_at j (i + 1) ds used) e)

pub places_below : (ds : List Definition) (used : List Ref) (j : ℕ) → is_in j (used_places ds used) ≡ true
    → j < length ds
places_below ds used j e = let l = used_below j 0 ds used (sym (places_in j 0 ds used) ∙ e) in omega arith

-- ---- rows of them

pub same_rows : {X : Type 0} (f g : X → List ℕ) (j : ℕ) → ((x : X) → is_in j (f x) ≡ is_in j (g x)) → (xs : List X)
    (i : ℕ)
    → is_in j (list_at (map f xs) i) ≡ is_in j (list_at (map g xs) i)
same_rows f g j e [] i = refl
same_rows f g j e (x ∷ xs) zero = e x
same_rows f g j e (x ∷ xs) (suc i) = same_rows f g j e xs i

pub rows_below : {X : Type 0} (f : X → List ℕ) (n : ℕ) → ((x : X) (j : ℕ) → is_in j (f x) ≡ true → j < n)
    → (xs : List X) (i j : ℕ) → is_in j (list_at (map f xs) i) ≡ true → j < n
rows_below f n e [] i j h = absurd cc
rows_below f n e (x ∷ xs) zero j h = e x j h
rows_below f n e (x ∷ xs) (suc i) j h = rows_below f n e xs i j h

-- ---- one definition more

put_all_same : (xs : List Ref) (n : ℕ) (f g : Numbers) → ((y : Ref) → f y ≡ g y) → (y : Ref)
    → put_all xs n f y ≡ put_all xs n g y
put_all_same [] n f g e y = e y
put_all_same (x ∷ xs) n f g e y = put_all_same xs n (put x n f) (put x n g) (λ z. put_same x n f g z (e z)) y

pub one_same : (b : Bool) (xs : List Ref) (n : ℕ) (f g : Numbers) → ((y : Ref) → f y ≡ g y) → (y : Ref)
    → (if b then put_all xs n f else f) y ≡ (if b then put_all xs n g else g) y
one_same true xs n f g e y = put_all_same xs n f g e y
one_same false xs n f g e y = e y

pub from_more : (i j : ℕ) (ds : List Definition) (d : Definition) (of : Numbers) (y : Ref) → i + length ds ≡ j
    → put_from i (ds ++ d ∷ []) of y ≡ (if is_none d.annotation then put_all d.names j (put_from i ds of) else put_from
    i ds of) y
from_more i j [] d of y e =
    let same : i ≡ j = omega arith in
    ap (λ n. (if is_none d.annotation then put_all d.names n of else of) y) same
from_more i j (x ∷ xs) d of y e =
    from_more (i + 1) j xs d (if is_none x.annotation then put_all x.names i of else of) y (omega arith)

-- ---- the order of the groups

pub length_rows : {X : Type 0} (f : X → List ℕ) (rows : List (List ℕ)) (xs : List X) → rows ≡ map f xs
    → length rows ≡ length xs
length_rows f rows xs e = ap length e ∙ length-map xs f

all_in : (n : ℕ) (xs : List ℕ) → ((j : ℕ) → is_in j xs ≡ true → j < n) → All (λ j. j < n) xs
all_in n xs h k d l = h (get_or xs k d) (use_is [] (get_or xs k d) xs (Contains-get_or xs k d l))

pub rows_inside : {X : Type 0} (f : X → List ℕ) (n : ℕ) → ((x : X) (j : ℕ) → is_in j (f x) ≡ true → j < n)
    → (rows : List (Vec ℕ Global)) (xs : List X)
    → plain rows ≡ map f xs → All (λ (row : Vec ℕ Global). All (λ j. j < n) row.items) rows
rows_inside f n h [] xs e = All-nil (λ (row : Vec ℕ Global). All (λ j. j < n) row.items)
rows_inside f n h (r ∷ rs) [] e = absurd cc
rows_inside f n h (r ∷ rs) (x ∷ xs) e =
    let first : r.items ≡ f x = cc in
    let rest : plain rs ≡ map f xs = cc in
    All-cons (λ (row : Vec ℕ Global). All (λ j. j < n) row.items) r rs
    (subst (All (λ j. j < n)) (sym first) (all_in n (f x) (h x))) (rows_inside f n h rs xs rest)

module _ (of : Numbers) (ds : List Definition) (table : (y : Ref) → of y ≡ put_from 0 ds nothing y) where
  pub row_below : (d : Definition) (j : ℕ) → is_in j (flat_map of d.uses) ≡ true → j < length ds
  row_below d j e = places_below ds d.uses j (sym (row_in of ds table j d.uses) ∙ e)

  within : AreWithin (all_uses ds)
  within i j u =
      let l = rows_below (λ (d : Definition). used_places ds d.uses) (length ds) (λ d k e. places_below ds d.uses k e)
      ds i j (use_is [] j (list_at (all_uses ds) i) u) in
      omega (arith, l, length-map ds (λ (d : Definition). used_places ds d.uses))

  module _ (rows found : List (List ℕ)) (is : rows ≡ map (λ d. flat_map of d.uses) ds) where
    same : (i j : ℕ) → is_in j (list_at rows i) ≡ is_in j (list_at (all_uses ds) i)
    same i j =
        ap (λ l. is_in j (list_at l i)) is
        ∙ same_rows (λ (d : Definition). flat_map of d.uses) (λ (d : Definition). used_places ds d.uses) j
        (λ d. row_in of ds table j d.uses) ds i

    pub groups_are : IsTheOrder (all_uses ds) → IsOrder rows [] found → found ≡ ordered_groups (all_uses ds)
    groups_are law order =
        sym (law within found (order_on rows (all_uses ds) found
        (length_rows (λ (d : Definition). flat_map of d.uses) rows ds is ∙ sym
        (length-map ds (λ (d : Definition). used_places ds d.uses)))
        (λ i j u. is_use [] j (list_at (all_uses ds) i) (sym (same i j) ∙ use_is [] j (list_at rows i) u))
        (λ i j u. is_use [] j (list_at rows i) (same i j ∙ use_is [] j (list_at (all_uses ds) i) u)) order))
