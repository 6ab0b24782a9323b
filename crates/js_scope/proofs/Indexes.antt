-- What the index of names has after a change.
use Rattle.std.proofs.Common.{◌≡◌, ℕ, List, Bool, true, false, Ordering, Less, Equal, Greater, Option, Some, refl, sym}
use Rattle.std.proofs.Common.{ap, ◌∙◌, Bor, arith}
use Rattle.std.specs.Prelude.{if◌then◌else◌, cond, ◌&&◌, unwrap_or, nat_eq}
use Rattle.std.specs.Ordering.{is_eq, ordering_then, nat_cmp}
use Rattle.std.specs.Cmp.Lexicographic.{slice_cmp}
use Rattle.std.specs.Str.{bytes_eq}
use Rattle.std.specs.BTreeMap as tree
use Rattle.std.proofs.lemmas.Map.Text.{btree_map_updates_str, is_eq-slice_cmp}
use Rattle.std.proofs.lemmas.Bool.Decides.{nat_tests}
use Rattle.js_tree.specs.Tree.{Name, Top, Local, Made, same_name}
use Rattle.js_scope.specs.declared.index.Index.{Index}
use Rattle.js_scope.specs.Places.{with_place}
use Rattle.js_scope.specs.Index.{place_in}
use Rattle.js_scope.proofs.Names.{either_way, all}

-- the first of two comparisons that differs
both_equal : (a b : Ordering) → is_eq (ordering_then a b) ≡ (is_eq a && is_eq b)
both_equal Less b = refl
both_equal Equal b = refl
both_equal Greater b = refl

abbrev at : List ℕ → Bor (List ℕ)
at x = record { ref_ptr = (0, 0); now = x }

chosen : (b : Bool) (p : ℕ) (o : Option ℕ) → unwrap_or (cond b (Some p) o) 0 ≡ (if b then p else unwrap_or o 0)
chosen true p o = refl
chosen false p o = refl

-- with another place of a name of a module
pub top_updated : (m x : List ℕ) (i j : Index) (p : ℕ)
    → tree.UpdatesBy (λ x y. ordering_then (slice_cmp nat_cmp x.0.now y.0.now) (slice_cmp nat_cmp x.1.now y.1.now)) (λ k. ordering_then (slice_cmp nat_cmp m k.0.now) (slice_cmp nat_cmp x k.1.now)) i.tops j.tops (Some p)
    → i.locals ≡ j.locals → i.made ≡ j.made
    → place_in j ≡ with_place (Top m x) p (place_in i)
top_updated m x i j p h l e = all each
  where
    test : (n z : List ℕ) → is_eq (ordering_then (slice_cmp nat_cmp m n) (slice_cmp nat_cmp x z)) ≡ same_name (Top n z) (Top m x)
    test n z =
        both_equal (slice_cmp nat_cmp m n) (slice_cmp nat_cmp x z)
        ∙ (ap (λ b. b && is_eq (slice_cmp nat_cmp x z)) (is_eq-slice_cmp m n) ∙ (ap (λ b. bytes_eq m n && b) (is_eq-slice_cmp x z) ∙ either_way (Top m x) (Top n z)))

    each : (y : Name) → place_in j y ≡ with_place (Top m x) p (place_in i) y
    each (Top n z) =
        ap (λ o. unwrap_or o 0) (h.0 (at n, at z))
        ∙ (chosen (is_eq (ordering_then (slice_cmp nat_cmp m n) (slice_cmp nat_cmp x z))) p _ ∙ ap (λ b. if b then p else place_in i (Top n z)) (test n z))
    each (Local z) = ap (λ t. unwrap_or (tree.get_by (λ k. slice_cmp nat_cmp z k.now) t) 0) (sym l)
    each (Made d) = ap (λ t. unwrap_or (tree.get_by (λ k. nat_cmp d k) t) 0) (sym e)

-- of a local name
pub local_updated : (x : List ℕ) (i j : Index) (p : ℕ)
    → tree.UpdatesBy (λ x y. slice_cmp nat_cmp x.now y.now) (λ k. slice_cmp nat_cmp x k.now) i.locals j.locals (Some p)
    → i.tops ≡ j.tops → i.made ≡ j.made
    → place_in j ≡ with_place (Local x) p (place_in i)
local_updated x i j p h t e = all each
  where
    each : (y : Name) → place_in j y ≡ with_place (Local x) p (place_in i) y
    each (Local z) =
        ap (λ o. unwrap_or o 0) (btree_map_updates_str x i.locals j.locals (Some p) h z)
        ∙ (chosen (bytes_eq x z) p _ ∙ ap (λ b. if b then p else place_in i (Local z)) (either_way (Local x) (Local z)))
    each (Top n z) = ap (λ m. unwrap_or (tree.get_by (λ k. ordering_then (slice_cmp nat_cmp n k.0.now) (slice_cmp nat_cmp z k.1.now)) m) 0) (sym t)
    each (Made d) = ap (λ m. unwrap_or (tree.get_by (λ k. nat_cmp d k) m) 0) (sym e)

-- of a name that was made
pub made_updated : (n : ℕ) (i j : Index) (p : ℕ)
    → tree.UpdatesBy nat_cmp (λ k. nat_cmp n k) i.made j.made (Some p)
    → i.tops ≡ j.tops → i.locals ≡ j.locals
    → place_in j ≡ with_place (Made n) p (place_in i)
made_updated n i j p h t l = all each
  where
    test : (a b : ℕ) → is_eq (nat_cmp a b) ≡ nat_eq b a
    test a b = grind (arith, nat_tests)

    each : (y : Name) → place_in j y ≡ with_place (Made n) p (place_in i) y
    each (Made d) =
        ap (λ o. unwrap_or o 0) (h.0 d) ∙ (chosen (is_eq (nat_cmp n d)) p _ ∙ ap (λ b. if b then p else place_in i (Made d)) (test n d))
    each (Top m z) = ap (λ a. unwrap_or (tree.get_by (λ k. ordering_then (slice_cmp nat_cmp m k.0.now) (slice_cmp nat_cmp z k.1.now)) a) 0) (sym t)
    each (Local z) = ap (λ a. unwrap_or (tree.get_by (λ k. slice_cmp nat_cmp z k.now) a) 0) (sym l)
