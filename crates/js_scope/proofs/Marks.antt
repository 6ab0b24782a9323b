-- The marks of assignment that a walk leaves: those of the names that are assigned, in the function at hand.
use Rattle.std.proofs.Common.{◌≡◌, ◌≤◌, ℕ, suc, List, [], ◌∷◌, length, Bool, true, false, refl, ap, sym, ◌∙◌, arith}
use Rattle.std.specs.Prelude.{◌&&◌, ◌||◌, not, nat_le, if◌then◌else◌}
use Rattle.std.proofs.lemmas.Bool.{le-leb, lt-leb}
use Rattle.js_tree.specs.Tree.{Name, same_name}
use Rattle.js_scope.specs.Uses.{Uses, Nothing, Reads, Assigns, Both, Block, Function}
use Rattle.js_scope.specs.Walk.{Bound, with_names, after_read, after_assigned, first_bound, after}
use Rattle.js_scope.proofs.Names.{one_name, ifs, either_way, all, and-true, and-false, or-false}

-- one of the names
abbrev pub among : Name → List Name → Bool
among x [] = false
among x (y ∷ names) = if same_name x y then true else among x names

-- the name is assigned, in no function nested in the uses
abbrev pub is_assigned : Uses → Name → Bool
is_assigned Nothing x = false
is_assigned (Reads y) x = false
is_assigned (Assigns y) x = same_name x y
is_assigned (Both u v) x = is_assigned u x || is_assigned v x
is_assigned (Block names u) x = not (among x names) && is_assigned u x
is_assigned (Function names u) x = false

-- but for this name, and for these
abbrev pub without : Name → (Name → Bool) → Name → Bool
without y f x = not (same_name x y) && f x

abbrev pub without_all : List Name → (Name → Bool) → Name → Bool
without_all [] f = f
without_all (y ∷ names) f = without_all names (without y f)

-- names with their marks of assignment, the innermost first
abbrev pub Marked : Type 0
Marked = List (Name × Bool)

abbrev pub marked : List Bound → Marked
marked [] = []
marked (b ∷ bound) = (b.name, b.assigned) ∷ marked bound

abbrev pub unmarked : List Name → Marked → Marked
unmarked [] ms = ms
unmarked (x ∷ names) ms = (x, false) ∷ unmarked names ms

-- with the marks of these names where they are innermost, in the function at hand
abbrev pub marks : (Name → Bool) → ℕ → Marked → Marked
marks f start [] = []
marks f start (m ∷ ms) = (m.0, (m.1 || nat_le start (length ms) && f m.0)) ∷ marks (without m.0 f) start ms

-- how many there are
pub length-marks : (f : Name → Bool) (start : ℕ) (ms : Marked) → length (marks f start ms) ≡ length ms
length-marks f start [] = refl
length-marks f start (m ∷ ms) = ap suc (length-marks (without m.0 f) start ms)

pub length-marked : (bound : List Bound) → length (marked bound) ≡ length bound
length-marked [] = refl
length-marked (b ∷ bound) = ap suc (length-marked bound)

pub longer : (names : List Name) (ms : Marked) → length ms ≤ length (unmarked names ms)
longer [] ms = omega arith
longer (x ∷ names) ms = let h = longer names ms in omega arith

pub longer_bound : (names : List Name) (bound : List Bound) → length bound ≤ length (with_names names bound)
longer_bound [] bound = omega arith
longer_bound (x ∷ names) bound = let h = longer_bound names bound in omega arith

pub marked_names : (names : List Name) (bound : List Bound) → marked (with_names names bound) ≡ unmarked names (marked bound)
marked_names [] bound = refl
marked_names (x ∷ names) bound = ap (λ (ms : Marked). (x, false) ∷ ms) (marked_names names bound)

-- no marks
never : Name → Bool
never x = false

without_never : (y : Name) → without y (λ x. false) ≡ (λ x. false)
without_never y = all (λ x. and-false (not (same_name x y)))

left_as_it_is : (a b : Bool) → (a || b && false) ≡ a
left_as_it_is a b = ap (λ c. a || c) (and-false b) ∙ or-false a

pub no_marks : (start : ℕ) (ms : Marked) → marks (λ x. false) start ms ≡ ms
no_marks start [] = refl
no_marks start (m ∷ ms) =
    ap (λ a. (m.0, a) ∷ marks (without m.0 (λ x. false)) start ms) (left_as_it_is m.1 (nat_le start (length ms)))
    ∙ ap (λ (ns : Marked). m ∷ ns) (ap (λ f. marks f start ms) (without_never m.0) ∙ no_marks start ms)

-- all of them belong to functions round the one at hand
pub marks_round : (f : Name → Bool) (start : ℕ) (ms : Marked) → length ms ≤ start → marks f start ms ≡ ms
marks_round f start [] h = refl
marks_round f start (m ∷ ms) h =
    ap (λ a. (m.0, (m.1 || a && f m.0)) ∷ marks (without m.0 f) start ms) (lt-leb start (length ms) (omega arith))
    ∙ (ap (λ a. (m.0, a) ∷ marks (without m.0 f) start ms) (or-false m.1) ∙ ap (λ (ns : Marked). m ∷ ns) (marks_round (without m.0 f) start ms (omega arith)))

-- one after the other
or_parts : (a t b c : Bool) → ((a || t && b) || t && c) ≡ (a || t && (b || c))
or_parts true t b c = refl
or_parts false true b c = refl
or_parts false false b c = refl

both_without : (t a b : Bool) → (t && a || t && b) ≡ (t && (a || b))
both_without true a b = refl
both_without false a b = refl

pub marks_twice : (f g : Name → Bool) (start : ℕ) (ms : Marked) → marks f start (marks g start ms) ≡ marks (λ x. g x || f x) start ms
marks_twice f g start [] = refl
marks_twice f g start (m ∷ ms) =
    ap (λ n. (m.0, ((m.1 || nat_le start (length ms) && g m.0) || nat_le start n && f m.0)) ∷ marks (without m.0 f) start (marks (without m.0 g) start ms)) (length-marks (without m.0 g) start ms)
    ∙ (ap (λ a. (m.0, a) ∷ marks (without m.0 f) start (marks (without m.0 g) start ms)) (or_parts m.1 (nat_le start (length ms)) (g m.0) (f m.0))
    ∙ ap (λ (ns : Marked). (m.0, (m.1 || nat_le start (length ms) && (g m.0 || f m.0))) ∷ ns)
    (marks_twice (without m.0 f) (without m.0 g) start ms ∙ ap (λ h. marks h start ms) (all (λ x. both_without (not (same_name x m.0)) (g x) (f x)))))

-- once names are no longer bound
pub no_more : {A : Type 0} (n : ℕ) (xs : List A) → length xs ≤ n → first_bound n xs ≡ xs
no_more n [] h = refl
no_more n (x ∷ xs) h = ap (λ b. if b then first_bound n xs else x ∷ xs) (lt-leb n (length xs) (omega arith))

pub marks_below : (names : List Name) (f : Name → Bool) (start : ℕ) (ms : Marked)
    → first_bound (length ms) (marks f start (unmarked names ms)) ≡ marks (without_all names f) start ms
marks_below [] f start ms = no_more (length ms) (marks f start ms) (let e = length-marks f start ms in omega arith)
marks_below (x ∷ names) f start ms =
    let e = length-marks (without x f) start (unmarked names ms) in
    let h = longer names ms in
    ap (λ b. if b then first_bound (length ms) (marks (without x f) start (unmarked names ms)) else (x, (nat_le start (length (unmarked names ms)) && f x)) ∷ marks (without x f) start (unmarked names ms))
    (le-leb (length ms) (length (marks (without x f) start (unmarked names ms))) (omega arith))
    ∙ marks_below names (without x f) start ms

first_by : (t : Bool) (n : ℕ) (b : Bound) (bound : List Bound) → marked (first_bound n bound) ≡ first_bound n (marked bound)
    → marked (if t then first_bound n bound else b ∷ bound) ≡ (if t then first_bound n (marked bound) else (b.name, b.assigned) ∷ marked bound)
first_by true n b bound h = h
first_by false n b bound h = refl

pub marked_first : (n : ℕ) (bound : List Bound) → marked (first_bound n bound) ≡ first_bound n (marked bound)
marked_first n [] = refl
marked_first n (b ∷ bound) =
    first_by (nat_le n (length bound)) n b bound (marked_first n bound)
    ∙ ap (λ k. if nat_le n k then first_bound n (marked bound) else (b.name, b.assigned) ∷ marked bound) (sym (length-marked bound))

without_each : (names : List Name) (f : Name → Bool) (x : Name) → without_all names f x ≡ (not (among x names) && f x)
without_each [] f x = refl
without_each (y ∷ names) f x = without_each names (without y f) x ∙ by_test (same_name x y) (among x names) (f x)
  where
    by_test : (t a b : Bool) → (not a && (not t && b)) ≡ (not (if t then true else a) && b)
    by_test true a b = and-false (not a)
    by_test false a b = refl

-- a name that is read keeps its mark
pub marked_read : (x : Name) (start : ℕ) (bound : List Bound) → marked (after_read x start bound) ≡ marked bound
marked_read x start [] = refl
marked_read x start (b ∷ bound) =
    ifs (λ c. marked c ≡ (b.name, b.assigned) ∷ marked bound) (same_name x b.name)
    (λ _. ifs (λ c. marked c ≡ (b.name, b.assigned) ∷ marked bound) (nat_le start (length bound)) (λ _. refl) (λ _. refl))
    (λ _. ap (λ (ms : Marked). (b.name, b.assigned) ∷ ms) (marked_read x start bound))

-- a name that is assigned has its mark
pub marked_own : (t : Bool) (b : Bound) (bound : List Bound) → marked (if t then record b { assigned = true } ∷ bound else b ∷ bound) ≡ (b.name, (b.assigned || t)) ∷ marked bound
marked_own true b bound = ap (λ a. (b.name, a) ∷ marked bound) (by_mark b.assigned)
  where
    by_mark : (a : Bool) → true ≡ (a || true)
    by_mark true = refl
    by_mark false = refl
marked_own false b bound = ap (λ a. (b.name, a) ∷ marked bound) (sym (or-false b.assigned))

only_here : (x y : Name) → same_name x y ≡ true → without y (λ z. same_name z x) ≡ (λ z. false)
only_here x y e = all (λ z. ap (λ w. not (same_name z w) && same_name z x) (sym (one_name x y e)) ∙ not_both (same_name z x))
  where
    not_both : (t : Bool) → (not t && t) ≡ false
    not_both true = refl
    not_both false = refl

not_here : (x y : Name) → same_name x y ≡ false → (λ z. same_name z x) ≡ without y (λ z. same_name z x)
not_here x y e = all (λ z. by_test z (same_name z x) refl)
  where
    by_test : (z : Name) (t : Bool) → same_name z x ≡ t → t ≡ (not (same_name z y) && t)
    by_test z true h = sym (ap (λ w. not (same_name w y) && true) (one_name z x h) ∙ ap (λ t. not t && true) e)
    by_test z false h = sym (and-false (not (same_name z y)))

assigned_by : (x : Name) (start : ℕ) (b : Bound) (bound : List Bound) (t : Bool) → same_name x b.name ≡ t
    → marked (after_assigned x start bound) ≡ marks (λ y. same_name y x) start (marked bound)
    → marked (if t then (if nat_le start (length bound) then record b { assigned = true } ∷ bound else b ∷ bound) else b ∷ after_assigned x start bound)
    ≡ (b.name, (b.assigned || nat_le start (length bound) && same_name b.name x)) ∷ marks (without b.name (λ y. same_name y x)) start (marked bound)
assigned_by x start b bound true e h =
    let own = nat_le start (length bound) in
    let same : same_name b.name x ≡ true = either_way b.name x ∙ e in
    marked_own own b bound
    ∙ (ap (λ t. (b.name, (b.assigned || t)) ∷ marked bound) (sym (and-true own) ∙ ap (λ t. own && t) (sym same))
    ∙ ap (λ (ms : Marked). (b.name, (b.assigned || own && same_name b.name x)) ∷ ms) (sym (ap (λ f. marks f start (marked bound)) (only_here x b.name e) ∙ no_marks start (marked bound))))
assigned_by x start b bound false e h =
    let own = nat_le start (length bound) in
    let other : same_name b.name x ≡ false = either_way b.name x ∙ e in
    ap (λ t. (b.name, t) ∷ marked (after_assigned x start bound)) (sym (ap (λ t. b.assigned || own && t) other ∙ left_as_it_is b.assigned own))
    ∙ ap (λ (ms : Marked). (b.name, (b.assigned || own && same_name b.name x)) ∷ ms) (h ∙ ap (λ f. marks f start (marked bound)) (not_here x b.name e))

pub marked_assigned : (x : Name) (start : ℕ) (bound : List Bound) → marked (after_assigned x start bound) ≡ marks (λ y. same_name y x) start (marked bound)
marked_assigned x start [] = refl
marked_assigned x start (b ∷ bound) =
    assigned_by x start b bound (same_name x b.name) refl (marked_assigned x start bound)
    ∙ ap (λ n. (b.name, (b.assigned || nat_le start n && same_name b.name x)) ∷ marks (without b.name (λ y. same_name y x)) start (marked bound)) (sym (length-marked bound))

-- the names that were bound before, after the uses of others in front of them
marked_below : (names : List Name) (f : Name → Bool) (start : ℕ) (bound inner : List Bound)
    → marked inner ≡ marks f start (marked (with_names names bound))
    → marked (first_bound (length bound) inner) ≡ marks (without_all names f) start (marked bound)
marked_below names f start bound inner h =
    marked_first (length bound) inner
    ∙ (ap (λ (ms : Marked). first_bound (length bound) ms) (h ∙ ap (marks f start) (marked_names names bound))
    ∙ (ap (λ n. first_bound n (marks f start (unmarked names (marked bound)))) (sym (length-marked bound)) ∙ marks_below names f start (marked bound)))

-- after uses
pub marked_after : (u : Uses) (start : ℕ) (bound : List Bound) → marked (after u start bound) ≡ marks (is_assigned u) start (marked bound)
marked_after Nothing start bound = sym (no_marks start (marked bound))
marked_after (Reads x) start bound = marked_read x start bound ∙ sym (no_marks start (marked bound))
marked_after (Assigns x) start bound = marked_assigned x start bound
marked_after (Both u v) start bound =
    marked_after v start (after u start bound) ∙ (ap (marks (is_assigned v) start) (marked_after u start bound) ∙ marks_twice (is_assigned v) (is_assigned u) start (marked bound))
marked_after (Block names u) start bound =
    marked_below names (is_assigned u) start bound (after u start (with_names names bound)) (marked_after u start (with_names names bound))
    ∙ ap (λ f. marks f start (marked bound)) (all (λ x. without_each names (is_assigned u) x))
marked_after (Function names u) start bound =
    let e = length-marked bound in
    marked_below names (is_assigned u) (length bound) bound (after u (length bound) (with_names names bound)) (marked_after u (length bound) (with_names names bound))
    ∙ (marks_round (without_all names (is_assigned u)) (length bound) (marked bound) (omega arith) ∙ sym (no_marks start (marked bound)))

-- as many names stay bound
pub length-after : (u : Uses) (start : ℕ) (bound : List Bound) → length (after u start bound) ≡ length bound
length-after u start bound =
    sym (length-marked (after u start bound)) ∙ (ap length (marked_after u start bound) ∙ (length-marks (is_assigned u) start (marked bound) ∙ length-marked bound))
