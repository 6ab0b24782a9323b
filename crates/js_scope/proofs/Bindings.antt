-- The names that are bound, as they are kept: what a name more, a name less and a mark change.
use Rattle.std.proofs.Common.{◌≡◌, ℕ, zero, suc, ◌+◌, ◌-◌, ◌<◌, ◌≤◌, List, [], ◌∷◌, ◌++◌, length, Bool, true, false}
use Rattle.std.proofs.Common.{refl, sym, ap, ◌∙◌, arith, set, get_or, subst}
use Rattle.std.specs.Prelude.{if◌then◌else◌, nat_eq, nat_le, nat_lt, not, ◌&&◌}
use Rattle.std.proofs.lemmas.Bool.{le-leb, lt-leb, lt-ltb, le-ltb, eq-eqb, ne_eqb}
use Rattle.std.proofs.lemmas.Bool.Decides.{nat_tests}
use Rattle.js_tree.specs.Tree.{Name, same_name}
use Rattle.js_tree.specs.Postorder.{name_view}
use Rattle.js_scope.specs.declared.index.Index.{Index}
use Rattle.js_scope.specs.declared.scopes.Binding.{Binding}
use Rattle.js_scope.specs.declared.scopes.Marks.{Marks}
use Rattle.js_scope.specs.Walk.{Bound, is_found, is_own, after_read, after_assigned, first_bound, is_settled}
use Rattle.js_scope.specs.Places.{with_place, place_of}
use Rattle.js_scope.specs.Index.{place_in}
use Rattle.js_scope.specs.Scopes.{names_on, bound_on, Hides, IsIndexed, innermost_settled, outer}
use Rattle.js_scope.proofs.Names.{one_name, all}

abbrev pub name_of : Binding → Name
name_of b = name_view b.name.now

abbrev pub made : Binding → Marks → Bound
made b m = record { name = name_of b; assigned = m.assigned; captured = m.captured }

abbrev pub names_of : List Bound → List Name
names_of [] = []
names_of (b ∷ bound) = b.name ∷ names_of bound

length-names_of : (bound : List Bound) → length (names_of bound) ≡ length bound
length-names_of [] = refl
length-names_of (b ∷ bound) = ap suc (length-names_of bound)

fewer : {a b : ℕ} → suc a ≡ suc b → a ≡ b
fewer h = omega (arith, h)

pub names_of_bound : (bs : List Binding) (ms : List Marks) (bound : List Bound) → length ms ≡ length bs → names_of (bound_on bs ms bound) ≡ names_on bs (names_of bound)
names_of_bound [] ms bound h = refl
names_of_bound (b ∷ bs) [] bound h = absurd (omega (arith, h))
names_of_bound (b ∷ bs) (m ∷ ms) bound h = names_of_bound bs ms (made b m ∷ bound) (fewer h)

pub length-names_on : (bs : List Binding) (names : List Name) → length (names_on bs names) ≡ length bs + length names
length-names_on [] names = omega arith
length-names_on (b ∷ bs) names = let h = length-names_on bs (name_of b ∷ names) in omega arith

pub length-bound_on : (bs : List Binding) (ms : List Marks) → length ms ≡ length bs → length (bound_on bs ms []) ≡ length bs
length-bound_on bs ms h =
    let a = length-names_of (bound_on bs ms []) in
    let b = ap length (names_of_bound bs ms [] h) in
    let d = length-names_on bs [] in omega arith

-- a name more
pub names_push : (bs : List Binding) (b : Binding) (names : List Name) → names_on (bs ++ b ∷ []) names ≡ name_of b ∷ names_on bs names
names_push [] b names = refl
names_push (a ∷ bs) b names = names_push bs b (name_of a ∷ names)

pub bound_push : (bs : List Binding) (b : Binding) (ms : List Marks) (m : Marks) (bound : List Bound) → length ms ≡ length bs
    → bound_on (bs ++ b ∷ []) (ms ++ m ∷ []) bound ≡ made b m ∷ bound_on bs ms bound
bound_push [] b [] m bound h = refl
bound_push [] b (n ∷ ms) m bound h = absurd (omega (arith, h))
bound_push (a ∷ bs) b [] m bound h = absurd (omega (arith, h))
bound_push (a ∷ bs) b (n ∷ ms) m bound h = bound_push bs b ms m (made a n ∷ bound) (fewer h)

hides_push : (bs : List Binding) (b : Binding) (names : List Name) → Hides bs names → b.before ≡ place_of (names_on bs names) (name_of b) → Hides (bs ++ b ∷ []) names
hides_push [] b names h e = (e, tt)
hides_push (a ∷ bs) b names h e = (h.0, hides_push bs b (name_of a ∷ names) h.1 e)

hides_pop : (bs : List Binding) (b : Binding) (names : List Name) → Hides (bs ++ b ∷ []) names → Hides bs names × (b.before ≡ place_of (names_on bs names) (name_of b))
hides_pop [] b names h = (tt, h.0)
hides_pop (a ∷ bs) b names h = let w = hides_pop bs b (name_of a ∷ names) h.1 in ((h.0, w.0), w.1)

length-more : {A : Type 0} (xs : List A) (x : A) → length (xs ++ x ∷ []) ≡ suc (length xs)
length-more [] x = refl
length-more (y ∷ xs) x = ap suc (length-more xs x)

pub indexed_push : (bs : List Binding) (ms : List Marks) (i j : Index) (b : Binding) (m : Marks) → IsIndexed bs ms i → b.before ≡ place_in i (name_of b)
    → place_in j ≡ with_place (name_of b) (length bs + 1) (place_in i) → IsIndexed (bs ++ b ∷ []) (ms ++ m ∷ []) j
indexed_push bs ms i j b m h before e = record {
  marked = let p = length-more bs b in let q = length-more ms m in let r = h.marked in omega arith;
  places = e ∙ (all (λ y. by_length y) ∙ ap place_of (sym (names_push bs b [])));
  hides = hides_push bs b [] h.hides (before ∙ ap (λ f. f (name_of b)) h.places);
}
  where
    by_length : (y : Name) → with_place (name_of b) (length bs + 1) (place_in i) y ≡ place_of (name_of b ∷ names_on bs []) y
    by_length y =
        ap (λ n. if same_name y (name_of b) then n else place_in i y) (let l = length-names_on bs [] in omega arith)
        ∙ ap (λ f. if same_name y (name_of b) then suc (length (names_on bs [])) else f y) h.places

-- a name less
back : (t : Bool) (x y : Name) (n k : ℕ) (names : List Name) → (t ≡ true → y ≡ x) → n ≡ place_of names x → (if t then n else (if t then k else place_of names y)) ≡ place_of names y
back true x y n k names h e = e ∙ ap (place_of names) (sym (h refl))
back false x y n k names h e = refl

pub indexed_pop : (bs : List Binding) (ms : List Marks) (i j : Index) (b : Binding) (m : Marks) → IsIndexed (bs ++ b ∷ []) (ms ++ m ∷ []) i
    → place_in j ≡ with_place (name_of b) b.before (place_in i) → IsIndexed bs ms j
indexed_pop bs ms i j b m h e =
    let w = hides_pop bs b [] h.hides in
    record {
      marked = let p = length-more bs b in let q = length-more ms m in let r = h.marked in omega arith;
      places = e ∙ (ap (with_place (name_of b) b.before) (h.places ∙ ap place_of (names_push bs b []))
          ∙ all (λ y. back (same_name y (name_of b)) (name_of b) y b.before (suc (length (names_on bs []))) (names_on bs []) (λ t. one_name y (name_of b) t) w.1));
      hides = w.0;
    }

-- a mark of the name at a place
abbrev pub at_place : ℕ → (Bound → Bound) → List Bound → List Bound
at_place k f [] = []
at_place k f (b ∷ bound) = if nat_eq (suc (length bound)) k then f b ∷ bound else b ∷ at_place k f bound

not_here : (k : ℕ) (f : Bound → Bound) (b : Bound) (bound : List Bound) → k ≤ length bound → at_place k f (b ∷ bound) ≡ b ∷ at_place k f bound
not_here k f b bound h = ap (λ t. if t then f b ∷ bound else b ∷ at_place k f bound) (ne_eqb (suc (length bound)) k (λ e. omega arith))

here : (f : Bound → Bound) (b : Bound) (bound : List Bound) → at_place (suc (length bound)) f (b ∷ bound) ≡ f b ∷ bound
here f b bound = ap (λ t. if t then f b ∷ bound else b ∷ at_place (suc (length bound)) f bound) (eq-eqb (suc (length bound)) (suc (length bound)) refl)

nowhere : (f : Bound → Bound) (bound : List Bound) → at_place 0 f bound ≡ bound
nowhere f [] = refl
nowhere f (b ∷ bound) = not_here 0 f b bound (omega arith) ∙ ap (λ (bs : List Bound). b ∷ bs) (nowhere f bound)

further_out : (k : ℕ) (f : Bound → Bound) (bs : List Binding) (ms : List Marks) (bound : List Bound) → k ≤ length bound
    → at_place k f (bound_on bs ms bound) ≡ bound_on bs ms (at_place k f bound)
further_out k f [] ms bound h = refl
further_out k f (b ∷ bs) [] bound h = refl
further_out k f (b ∷ bs) (m ∷ ms) bound h =
    further_out k f bs ms (made b m ∷ bound) (omega arith) ∙ ap (λ (xs : List Bound). bound_on bs ms xs) (not_here k f (made b m) bound h)

pub mark_at : (f : Bound → Bound) (g : Marks → Marks) (d : Marks) → ((b : Binding) (m : Marks) → made b (g m) ≡ f (made b m))
    → (bs : List Binding) (ms : List Marks) (p : ℕ) (bound : List Bound) → length ms ≡ length bs → p < length ms
    → bound_on bs (set ms p (g (get_or ms p d))) bound ≡ at_place (suc (p + length bound)) f (bound_on bs ms bound)
mark_at f g d e bs [] p bound h l = absurd (omega (arith, l))
mark_at f g d e [] (m ∷ ms) p bound h l = absurd (omega (arith, h))
mark_at f g d e (b ∷ bs) (m ∷ ms) zero bound h l =
    ap (λ x. bound_on bs ms (x ∷ bound)) (e b m)
    ∙ (ap (λ (xs : List Bound). bound_on bs ms xs) (sym (here f (made b m) bound))
    ∙ (sym (further_out (suc (length bound)) f bs ms (made b m ∷ bound) (omega arith))
    ∙ ap (λ k. at_place (suc k) f (bound_on bs ms (made b m ∷ bound))) (omega arith)))
mark_at f g d e (b ∷ bs) (m ∷ ms) (suc p) bound h l =
    mark_at f g d e bs ms p (made b m ∷ bound) (fewer h) (omega arith) ∙ ap (λ k. at_place (suc k) f (bound_on bs ms (made b m ∷ bound))) (omega arith)

-- places tell
pub place_within : (names : List Name) (x : Name) → place_of names x ≤ length names
place_within [] x = omega arith
place_within (y ∷ names) x = by_test (same_name x y) (place_within names x)
  where
    by_test : (t : Bool) → place_of names x ≤ length names → (if t then suc (length names) else place_of names x) ≤ suc (length names)
    by_test true h = omega arith
    by_test false h = omega arith

pub found_at : (x : Name) (bound : List Bound) → is_found x bound ≡ nat_lt 0 (place_of (names_of bound) x)
found_at x [] = refl
found_at x (b ∷ bound) = by_test (same_name x b.name) (found_at x bound)
  where
    by_test : (t : Bool) → is_found x bound ≡ nat_lt 0 (place_of (names_of bound) x)
        → (if t then true else is_found x bound) ≡ nat_lt 0 (if t then suc (length (names_of bound)) else place_of (names_of bound) x)
    by_test true h = sym (lt-ltb 0 (suc (length (names_of bound))) (omega arith))
    by_test false h = h

same_start : (start n k : ℕ) → k ≡ n → nat_le start n ≡ nat_lt start (suc k)
same_start start n k e = grind (arith, nat_tests, e)

pub own_at : (x : Name) (start : ℕ) (bound : List Bound) → is_own x start bound ≡ nat_lt start (place_of (names_of bound) x)
own_at x start [] = sym (le-ltb start 0 (omega arith))
own_at x start (b ∷ bound) = by_test (same_name x b.name) (own_at x start bound)
  where
    by_test : (t : Bool) → is_own x start bound ≡ nat_lt start (place_of (names_of bound) x)
        → (if t then nat_le start (length bound) else is_own x start bound) ≡ nat_lt start (if t then suc (length (names_of bound)) else place_of (names_of bound) x)
    by_test true h = same_start start (length bound) (length (names_of bound)) (length-names_of bound)
    by_test false h = h

abbrev pub captured : Bound → Bound
captured b = record b { captured = true }

abbrev pub assigned : Bound → Bound
assigned b = record b { assigned = true }

others_before : (t : Bool) (b : Bound) (xs ys zs : List Bound) → zs ≡ b ∷ ys → b ∷ (if t then xs else ys) ≡ (if t then b ∷ xs else zs)
others_before true b xs ys zs e = refl
others_before false b xs ys zs e = sym e

the_same : (t : Bool) (bound : List Bound) → bound ≡ (if t then bound else bound)
the_same true bound = refl
the_same false bound = refl

read_by : (t : Bool) (start : ℕ) (x : Name) (b : Bound) (bound : List Bound)
    → after_read x start bound ≡ (if nat_lt start (place_of (names_of bound) x) then bound else at_place (place_of (names_of bound) x) captured bound)
    → (if t then (if nat_le start (length bound) then b ∷ bound else captured b ∷ bound) else b ∷ after_read x start bound)
    ≡ (if nat_lt start (if t then suc (length (names_of bound)) else place_of (names_of bound) x) then b ∷ bound else at_place (if t then suc (length (names_of bound)) else place_of (names_of bound) x) captured (b ∷ bound))
read_by true start x b bound h =
    let n = length-names_of bound in
    ap (λ t. if t then b ∷ bound else captured b ∷ bound) (same_start start (length bound) (length (names_of bound)) n)
    ∙ ap (λ (xs : List Bound). if nat_lt start (suc (length (names_of bound))) then b ∷ bound else xs) (sym (ap (λ m. at_place (suc m) captured (b ∷ bound)) n ∙ here captured b bound))
read_by false start x b bound h =
    let k = place_of (names_of bound) x in
    let n = length-names_of bound in
    let w = place_within (names_of bound) x in
    ap (λ (xs : List Bound). b ∷ xs) h ∙ others_before (nat_lt start k) b bound (at_place k captured bound) (at_place k captured (b ∷ bound)) (not_here k captured b bound (omega arith))

pub read_at : (x : Name) (start : ℕ) (bound : List Bound)
    → after_read x start bound ≡ (if nat_lt start (place_of (names_of bound) x) then bound else at_place (place_of (names_of bound) x) captured bound)
read_at x start [] = the_same (nat_lt start 0) []
read_at x start (b ∷ bound) = read_by (same_name x b.name) start x b bound (read_at x start bound)

others_after : (t : Bool) (b : Bound) (xs ys zs : List Bound) → zs ≡ b ∷ xs → b ∷ (if t then xs else ys) ≡ (if t then zs else b ∷ ys)
others_after true b xs ys zs e = sym e
others_after false b xs ys zs e = refl

assigned_by : (t : Bool) (start : ℕ) (x : Name) (b : Bound) (bound : List Bound)
    → after_assigned x start bound ≡ (if nat_lt start (place_of (names_of bound) x) then at_place (place_of (names_of bound) x) assigned bound else bound)
    → (if t then (if nat_le start (length bound) then assigned b ∷ bound else b ∷ bound) else b ∷ after_assigned x start bound)
    ≡ (if nat_lt start (if t then suc (length (names_of bound)) else place_of (names_of bound) x) then at_place (if t then suc (length (names_of bound)) else place_of (names_of bound) x) assigned (b ∷ bound) else b ∷ bound)
assigned_by true start x b bound h =
    let n = length-names_of bound in
    ap (λ t. if t then assigned b ∷ bound else b ∷ bound) (same_start start (length bound) (length (names_of bound)) n)
    ∙ ap (λ (xs : List Bound). if nat_lt start (suc (length (names_of bound))) then xs else b ∷ bound) (sym (ap (λ m. at_place (suc m) assigned (b ∷ bound)) n ∙ here assigned b bound))
assigned_by false start x b bound h =
    let k = place_of (names_of bound) x in
    let n = length-names_of bound in
    let w = place_within (names_of bound) x in
    ap (λ (xs : List Bound). b ∷ xs) h ∙ others_after (nat_lt start k) b (at_place k assigned bound) bound (at_place k assigned (b ∷ bound)) (not_here k assigned b bound (omega arith))

pub assigned_at : (x : Name) (start : ℕ) (bound : List Bound)
    → after_assigned x start bound ≡ (if nat_lt start (place_of (names_of bound) x) then at_place (place_of (names_of bound) x) assigned bound else bound)
assigned_at x start [] = the_same (nat_lt start 0) []
assigned_at x start (b ∷ bound) = assigned_by (same_name x b.name) start x b bound (assigned_at x start bound)

-- the same by the index
place_told : (bs : List Binding) (ms : List Marks) (i : Index) (x : Name) (k : ℕ) → IsIndexed bs ms i → k ≡ place_in i x → place_of (names_of (bound_on bs ms [])) x ≡ k
place_told bs ms i x k h e = ap (λ (names : List Name). place_of names x) (names_of_bound bs ms [] h.marked) ∙ (ap (λ f. f x) (sym h.places) ∙ sym e)

pub place_inside : (bs : List Binding) (ms : List Marks) (i : Index) (x : Name) (k : ℕ) → IsIndexed bs ms i → k ≡ place_in i x → k ≤ length ms
place_inside bs ms i x k h e =
    let a = place_told bs ms i x k h e in
    let b = place_within (names_of (bound_on bs ms [])) x in
    let d = length-names_of (bound_on bs ms []) in
    let l = length-bound_on bs ms h.marked in
    let r = h.marked in omega arith

pub found_is : (bs : List Binding) (ms : List Marks) (i : Index) (x : Name) (k : ℕ) → IsIndexed bs ms i → k ≡ place_in i x → is_found x (bound_on bs ms []) ≡ nat_lt 0 k
found_is bs ms i x k h e = found_at x (bound_on bs ms []) ∙ ap (λ n. nat_lt 0 n) (place_told bs ms i x k h e)

pub own_is : (bs : List Binding) (ms : List Marks) (i : Index) (x : Name) (start k : ℕ) → IsIndexed bs ms i → k ≡ place_in i x → is_own x start (bound_on bs ms []) ≡ nat_lt start k
own_is bs ms i x start k h e = own_at x start (bound_on bs ms []) ∙ ap (λ n. nat_lt start n) (place_told bs ms i x k h e)

read_is : (bs : List Binding) (ms : List Marks) (i : Index) (x : Name) (start k : ℕ) → IsIndexed bs ms i → k ≡ place_in i x
    → after_read x start (bound_on bs ms []) ≡ (if nat_lt start k then bound_on bs ms [] else at_place k captured (bound_on bs ms []))
read_is bs ms i x start k h e =
    let bound = bound_on bs ms [] in
    read_at x start bound ∙ ap (λ n. if nat_lt start n then bound else at_place n captured bound) (place_told bs ms i x k h e)

pub read_none : (bs : List Binding) (ms : List Marks) (i : Index) (x : Name) (start k : ℕ) → IsIndexed bs ms i → k ≡ place_in i x → k ≡ 0
    → bound_on bs ms [] ≡ after_read x start (bound_on bs ms [])
read_none bs ms i x start k h e z =
    let bound = bound_on bs ms [] in
    sym (read_is bs ms i x start k h e ∙ (ap (λ n. if nat_lt start n then bound else at_place n captured bound) z ∙ (ap (λ t. if t then bound else at_place 0 captured bound) (le-ltb start 0 (omega arith)) ∙ nowhere captured bound)))

pub read_own : (bs : List Binding) (ms : List Marks) (i : Index) (x : Name) (start k : ℕ) → IsIndexed bs ms i → k ≡ place_in i x → start < k
    → bound_on bs ms [] ≡ after_read x start (bound_on bs ms [])
read_own bs ms i x start k h e z =
    let bound = bound_on bs ms [] in
    sym (read_is bs ms i x start k h e ∙ ap (λ t. if t then bound else at_place k captured bound) (lt-ltb start k z))

pub read_far : (bs : List Binding) (ms : List Marks) (i : Index) (x : Name) (start k : ℕ) (m d : Marks) → IsIndexed bs ms i → k ≡ place_in i x → k ≤ start → 0 < k → m ≡ get_or ms (k - 1) d
    → bound_on bs (set ms (k - 1) (record { assigned = m.assigned; captured = true })) [] ≡ after_read x start (bound_on bs ms [])
read_far bs ms i x start k m d h e z o w =
    let bound = bound_on bs ms [] in
    let inside = place_inside bs ms i x k h e in
    ap (λ n. bound_on bs (set ms (k - 1) (record n { captured = true })) []) w
    ∙ (mark_at captured (λ m. record m { captured = true }) d (λ b m. refl) bs ms (k - 1) [] h.marked (omega arith)
    ∙ (ap (λ n. at_place n captured bound) (omega arith) ∙ sym (read_is bs ms i x start k h e ∙ ap (λ t. if t then bound else at_place k captured bound) (le-ltb start k z))))

assigned_is : (bs : List Binding) (ms : List Marks) (i : Index) (x : Name) (start k : ℕ) → IsIndexed bs ms i → k ≡ place_in i x
    → after_assigned x start (bound_on bs ms []) ≡ (if nat_lt start k then at_place k assigned (bound_on bs ms []) else bound_on bs ms [])
assigned_is bs ms i x start k h e =
    let bound = bound_on bs ms [] in
    assigned_at x start bound ∙ ap (λ n. if nat_lt start n then at_place n assigned bound else bound) (place_told bs ms i x k h e)

pub assigned_none : (bs : List Binding) (ms : List Marks) (i : Index) (x : Name) (start k : ℕ) → IsIndexed bs ms i → k ≡ place_in i x → k ≤ start
    → bound_on bs ms [] ≡ after_assigned x start (bound_on bs ms [])
assigned_none bs ms i x start k h e z =
    let bound = bound_on bs ms [] in
    sym (assigned_is bs ms i x start k h e ∙ ap (λ t. if t then at_place k assigned bound else bound) (le-ltb start k z))

pub assigned_own : (bs : List Binding) (ms : List Marks) (i : Index) (x : Name) (start k : ℕ) (m d : Marks) → IsIndexed bs ms i → k ≡ place_in i x → start < k → m ≡ get_or ms (k - 1) d
    → bound_on bs (set ms (k - 1) (record { assigned = true; captured = m.captured })) [] ≡ after_assigned x start (bound_on bs ms [])
assigned_own bs ms i x start k m d h e z w =
    let bound = bound_on bs ms [] in
    let inside = place_inside bs ms i x k h e in
    ap (λ n. bound_on bs (set ms (k - 1) (record n { assigned = true })) []) w
    ∙ (mark_at assigned (λ m. record m { assigned = true }) d (λ b m. refl) bs ms (k - 1) [] h.marked (omega arith)
    ∙ (ap (λ n. at_place n assigned bound) (omega arith) ∙ sym (assigned_is bs ms i x start k h e ∙ ap (λ t. if t then at_place k assigned bound else bound) (lt-ltb start k z))))

-- a name that is not bound any more
pub settled_more : (n : ℕ) (bound : List Bound) → n < length bound → is_settled n bound ≡ (innermost_settled bound && is_settled n (outer bound))
settled_more n [] h = absurd (omega (arith, h))
settled_more n (b ∷ bound) h = ap (λ t. if t then not (b.assigned && b.captured) && is_settled n bound else true) (le-leb n (length bound) (omega arith))

pub first_more : (n : ℕ) (bound : List Bound) → n < length bound → first_bound n bound ≡ first_bound n (outer bound)
first_more n [] h = absurd (omega (arith, h))
first_more n (b ∷ bound) h = ap (λ t. if t then first_bound n bound else b ∷ bound) (le-leb n (length bound) (omega arith))

pub settled_end : (n : ℕ) (bound : List Bound) → length bound ≤ n → is_settled n bound ≡ true
settled_end n [] h = refl
settled_end n (b ∷ bound) h = ap (λ t. if t then not (b.assigned && b.captured) && is_settled n bound else true) (lt-leb n (length bound) (omega arith))

-- nothing that counts has changed
pub indexed_same : (bs cs : List Binding) (ms ns : List Marks) (i j : Index) → IsIndexed bs ms i → cs ≡ bs → ns ≡ ms → place_in j ≡ place_in i → IsIndexed cs ns j
indexed_same bs cs ms ns i j h p q r = record {
  marked = ap length q ∙ (h.marked ∙ ap length (sym p));
  places = r ∙ (h.places ∙ ap (λ xs. place_of (names_on xs [])) (sym p));
  hides = subst (λ xs. Hides xs []) (sym p) h.hides;
}

-- the last one
at_end : {A : Type 0} (xs : List A) (x d : A) → get_or (xs ++ x ∷ []) (length xs) d ≡ x
at_end [] x d = refl
at_end (y ∷ xs) x d = at_end xs x d

pub last_one : {A : Type 0} (xs ys : List A) (x z : A) → ys ≡ xs ++ x ∷ [] → z ≡ get_or ys (length ys - 1) z → z ≡ x
last_one xs ys x z e h =
    let l : length ys - 1 ≡ length xs = let a = ap length e in let b = length-more xs x in omega arith in
    h ∙ (ap (λ n. get_or ys n z) l ∙ (ap (λ zs. get_or zs (length xs) z) e ∙ at_end xs x z))

pub marked_pop : (bs cs : List Binding) (ms ns : List Marks) (i : Index) (b : Binding) (m : Marks) → IsIndexed cs ns i → cs ≡ bs ++ b ∷ [] → ns ≡ ms ++ m ∷ [] → length ms ≡ length bs
marked_pop bs cs ms ns i b m h p q =
    let u = ap length p in let v = ap length q in let p = length-more bs b in let q = length-more ms m in let r = h.marked in omega arith

pub bound_pop : (bs cs : List Binding) (ms ns : List Marks) (i : Index) (b : Binding) (m : Marks) → IsIndexed cs ns i → cs ≡ bs ++ b ∷ [] → ns ≡ ms ++ m ∷ []
    → bound_on cs ns [] ≡ made b m ∷ bound_on bs ms []
bound_pop bs cs ms ns i b m h p q =
    ap (λ xs. bound_on xs ns []) p ∙ (ap (λ xs. bound_on (bs ++ b ∷ []) xs []) q ∙ bound_push bs b ms m [] (marked_pop bs cs ms ns i b m h p q))
