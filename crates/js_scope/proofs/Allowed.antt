-- A walk ends well exactly when each use is allowed by what the names are in their scopes.
use Rattle.std.proofs.Common.{◌≡◌, ◌≤◌, ℕ, List, [], ◌∷◌, length, Bool, true, false, refl, ap, sym, ◌∙◌, arith}
use Rattle.std.specs.Prelude.{◌&&◌, ◌||◌, not, nat_le, if◌then◌else◌}
use Rattle.std.proofs.lemmas.Bool.{le-leb, lt-leb}
use Rattle.js_tree.specs.Tree.{Name, same_name}
use Rattle.js_tree.specs.Subset.{Use, Fixed, Changing, Beyond, may_read, may_assign, Scope, use_of, nested, within}
use Rattle.js_scope.specs.Uses.{Uses, Nothing, Reads, Assigns, Both, Block, Function}
use Rattle.js_scope.specs.Walk.{Bound, with_names, is_found, is_own, after_read, after_assigned, first_bound}
use Rattle.js_scope.specs.Walk.{is_settled, after, is_fine}
use Rattle.js_scope.proofs.Names.{one_name, and_assoc, and-true, and-false}
use Rattle.js_scope.proofs.Marks.{is_assigned, without, Marked, marked, unmarked, marks, length-marks, length-marked}
use Rattle.js_scope.proofs.Marks.{longer, longer_bound, marked_names, marked_after, length-after}

-- names that uses bind, in their scope
abbrev pub with_scope : (Name → Bool) → List Name → Scope → Scope
with_scope f [] scope = scope
with_scope f (x ∷ names) scope = (x, (if f x then Changing else Fixed)) ∷ with_scope f names scope

-- each use is allowed in the scope
abbrev pub allowed : Uses → Scope → Bool
allowed Nothing scope = true
allowed (Reads x) scope = may_read (use_of x scope)
allowed (Assigns x) scope = may_assign (use_of x scope)
allowed (Both u v) scope = allowed u scope && allowed v scope
allowed (Block names u) scope = allowed u (with_scope (is_assigned u) names scope)
allowed (Function names u) scope = allowed u (with_scope (is_assigned u) names (within scope))

-- scopes that give each name the same use allow the same
with_scope_alike : (f : Name → Bool) (names : List Name) (s t : Scope) (x : Name) → use_of x s ≡ use_of x t → use_of x (with_scope f names s) ≡ use_of x (with_scope f names t)
with_scope_alike f [] s t x h = h
with_scope_alike f (y ∷ names) s t x h = ap (λ u. if same_name x y then (if f y then Changing else Fixed) else u) (with_scope_alike f names s t x h)

nested_by : (t : Bool) (u v w : Use) → w ≡ nested v → (if t then nested u else w) ≡ nested (if t then u else v)
nested_by true u v w h = refl
nested_by false u v w h = h

use_within : (x : Name) (s : Scope) → use_of x (within s) ≡ nested (use_of x s)
use_within x [] = refl
use_within x (b ∷ s) = nested_by (same_name x b.0) b.1 (use_of x s) (use_of x (within s)) (use_within x s)

pub allowed_alike : (u : Uses) (s t : Scope) → ((x : Name) → use_of x s ≡ use_of x t) → allowed u s ≡ allowed u t
allowed_alike Nothing s t h = refl
allowed_alike (Reads x) s t h = ap may_read (h x)
allowed_alike (Assigns x) s t h = ap may_assign (h x)
allowed_alike (Both u v) s t h = ap (λ b. b && allowed v s) (allowed_alike u s t h) ∙ ap (λ b. allowed u t && b) (allowed_alike v s t h)
allowed_alike (Block names u) s t h =
    allowed_alike u (with_scope (is_assigned u) names s) (with_scope (is_assigned u) names t) (λ x. with_scope_alike (is_assigned u) names s t x (h x))
allowed_alike (Function names u) s t h =
    allowed_alike u (with_scope (is_assigned u) names (within s)) (with_scope (is_assigned u) names (within t))
    (λ x. with_scope_alike (is_assigned u) names (within s) (within t) x (use_within x s ∙ (ap nested (h x) ∙ sym (use_within x t))))

-- Whether each name that is bound is assigned, as a list: the scope that it makes for the function at hand.
abbrev first : List Bool → Bool
first [] = false
first (a ∷ facts) = a

abbrev rest : List Bool → List Bool
rest [] = []
rest (a ∷ facts) = facts

abbrev the_use : Bool → Bool → Use
the_use own assigned = if assigned then (if own then Changing else Beyond) else Fixed

abbrev pub scope_of : ℕ → List Bool → Marked → Scope
scope_of start facts [] = []
scope_of start facts (m ∷ ms) = (m.0, the_use (nat_le start (length ms)) (first facts)) ∷ scope_of start (rest facts) ms

-- the marks so far agree with it
abbrev agrees : Bool → Bound → Bool
agrees assigned b = (not b.captured || not assigned) && (not b.assigned || assigned)

abbrev pub agree : List Bool → List Bound → Bool
agree facts [] = true
agree facts (b ∷ bound) = agrees (first facts) b && agree (rest facts) bound

-- the marks that are there, of the names that are bound beyond so many, before the others
abbrev decided : ℕ → Marked → List Bool → List Bool
decided n [] facts = facts
decided n (m ∷ ms) facts = if nat_le n (length ms) then m.1 ∷ decided n ms facts else facts

scope_marks : (f : Name → Bool) (at start : ℕ) (facts : List Bool) (ms : Marked) → scope_of start facts (marks f at ms) ≡ scope_of start facts ms
scope_marks f at start facts [] = refl
scope_marks f at start facts (m ∷ ms) =
    ap (λ n. (m.0, the_use (nat_le start n) (first facts)) ∷ scope_of start (rest facts) (marks (without m.0 f) at ms)) (length-marks (without m.0 f) at ms)
    ∙ ap (λ (s : Scope). (m.0, the_use (nat_le start (length ms)) (first facts)) ∷ s) (scope_marks (without m.0 f) at start (rest facts) ms)

-- the same scope from within a function nested in the one at hand
nested_use : (own assigned : Bool) → nested (the_use own assigned) ≡ the_use false assigned
nested_use true true = refl
nested_use false true = refl
nested_use true false = refl
nested_use false false = refl

scope_within : (n start : ℕ) (facts : List Bool) (ms : Marked) → length ms ≤ n → within (scope_of start facts ms) ≡ scope_of n facts ms
scope_within n start facts [] h = refl
scope_within n start facts (m ∷ ms) h =
    ap (λ u. (m.0, u) ∷ within (scope_of start (rest facts) ms)) (nested_use (nat_le start (length ms)) (first facts) ∙ ap (λ b. the_use b (first facts)) (sym (lt-leb n (length ms) (omega arith))))
    ∙ ap (λ (s : Scope). (m.0, the_use (nat_le n (length ms)) (first facts)) ∷ s) (scope_within n start (rest facts) ms (omega arith))

-- a name that is read
shift : (g a r f b : Bool) → (a && r) ≡ (f && b) → ((g && a) && r) ≡ (f && (g && b))
shift true a r f b h = h
shift false a r f b h = sym (and-false f)

read_here : (own assigned : Bool) (b : Bound) (bound : List Bound) (others : Bool)
    → ((agrees assigned b && others) && may_read (the_use own assigned)) ≡ (agrees assigned (if own then b else record b { captured = true }) && others)
read_here true true b bound others = and-true _
read_here true false b bound others = and-true _
read_here false true b bound others = and-false _
read_here false false b bound others = and-true _ ∙ ap (λ c. (c && (not b.assigned || false)) && others) (by_mark b.captured)
  where
    by_mark : (c : Bool) → (not c || true) ≡ true
    by_mark true = refl
    by_mark false = refl

read_by : (t own : Bool) (facts : List Bool) (b : Bound) (bound later : List Bound) (found : Bool) (u : Use)
    → (agree (rest facts) bound && may_read u) ≡ (found && agree (rest facts) later)
    → ((agrees (first facts) b && agree (rest facts) bound) && may_read (if t then the_use own (first facts) else u))
    ≡ ((if t then true else found) && agree facts (if t then (if own then b ∷ bound else record b { captured = true } ∷ bound) else b ∷ later))
read_by true true facts b bound later found u h = read_here true (first facts) b bound (agree (rest facts) bound)
read_by true false facts b bound later found u h = read_here false (first facts) b bound (agree (rest facts) bound)
read_by false own facts b bound later found u h = shift (agrees (first facts) b) (agree (rest facts) bound) (may_read u) found (agree (rest facts) later) h

pub read_fits : (x : Name) (start : ℕ) (facts : List Bool) (bound : List Bound)
    → (agree facts bound && may_read (use_of x (scope_of start facts (marked bound)))) ≡ (is_found x bound && agree facts (after_read x start bound))
read_fits x start facts [] = refl
read_fits x start facts (b ∷ bound) =
    ap (λ n. agree facts (b ∷ bound) && may_read (if same_name x b.name then the_use (nat_le start n) (first facts) else use_of x (scope_of start (rest facts) (marked bound)))) (length-marked bound)
    ∙ read_by (same_name x b.name) (nat_le start (length bound)) facts b bound (after_read x start bound) (is_found x bound) (use_of x (scope_of start (rest facts) (marked bound)))
    (read_fits x start (rest facts) bound)

-- a name that is assigned
assigned_here : (own assigned : Bool) (b : Bound) (others : Bool)
    → ((agrees assigned b && others) && may_assign (the_use own assigned)) ≡ (own && (agrees assigned (if own then record b { assigned = true } else b) && others))
assigned_here true true b others = and-true _ ∙ ap (λ c. ((not b.captured || false) && c) && others) (by_mark b.assigned)
  where
    by_mark : (c : Bool) → (not c || true) ≡ true
    by_mark true = refl
    by_mark false = refl
assigned_here true false b others = and-false _ ∙ sym (ap (λ c. c && others) (and-false (not b.captured || true)))
assigned_here false true b others = and-false _
assigned_here false false b others = and-false _

assigned_by : (t own : Bool) (facts : List Bool) (b : Bound) (bound later : List Bound) (found : Bool) (u : Use)
    → (agree (rest facts) bound && may_assign u) ≡ (found && agree (rest facts) later)
    → ((agrees (first facts) b && agree (rest facts) bound) && may_assign (if t then the_use own (first facts) else u))
    ≡ ((if t then own else found) && agree facts (if t then (if own then record b { assigned = true } ∷ bound else b ∷ bound) else b ∷ later))
assigned_by true true facts b bound later found u h = assigned_here true (first facts) b (agree (rest facts) bound)
assigned_by true false facts b bound later found u h = assigned_here false (first facts) b (agree (rest facts) bound)
assigned_by false own facts b bound later found u h = shift (agrees (first facts) b) (agree (rest facts) bound) (may_assign u) found (agree (rest facts) later) h

pub assigned_fits : (x : Name) (start : ℕ) (facts : List Bool) (bound : List Bound)
    → (agree facts bound && may_assign (use_of x (scope_of start facts (marked bound)))) ≡ (is_own x start bound && agree facts (after_assigned x start bound))
assigned_fits x start facts [] = refl
assigned_fits x start facts (b ∷ bound) =
    ap (λ n. agree facts (b ∷ bound) && may_assign (if same_name x b.name then the_use (nat_le start n) (first facts) else use_of x (scope_of start (rest facts) (marked bound)))) (length-marked bound)
    ∙ assigned_by (same_name x b.name) (nat_le start (length bound)) facts b bound (after_assigned x start bound) (is_own x start bound) (use_of x (scope_of start (rest facts) (marked bound)))
    (assigned_fits x start (rest facts) bound)

-- names that are bound now
decided_none : (n : ℕ) (ms : Marked) (facts : List Bool) → length ms ≤ n → decided n ms facts ≡ facts
decided_none n [] facts h = refl
decided_none n (m ∷ ms) facts h = ap (λ b. if b then m.1 ∷ decided n ms facts else facts) (lt-leb n (length ms) (omega arith))

more_decided : (x : Name) (f : Name → Bool) (names : List Name) (start : ℕ) (facts : List Bool) (ms : Marked)
    → decided (length ms) (marks f start (unmarked (x ∷ names) ms)) facts
    ≡ (nat_le start (length (unmarked names ms)) && f x) ∷ decided (length ms) (marks (without x f) start (unmarked names ms)) facts
more_decided x f names start facts ms =
    let e = length-marks (without x f) start (unmarked names ms) in
    let h = longer names ms in
    ap (λ b. if b then (nat_le start (length (unmarked names ms)) && f x) ∷ decided (length ms) (marks (without x f) start (unmarked names ms)) facts else facts)
    (le-leb (length ms) (length (marks (without x f) start (unmarked names ms))) (omega arith))

agree_names : (names : List Name) (f : Name → Bool) (start : ℕ) (facts : List Bool) (ms : Marked) (bound : List Bound)
    → agree (decided (length ms) (marks f start (unmarked names ms)) facts) (with_names names bound) ≡ agree facts bound
agree_names [] f start facts ms bound = ap (λ fs. agree fs bound) (decided_none (length ms) (marks f start ms) facts (let e = length-marks f start ms in omega arith))
agree_names (x ∷ names) f start facts ms bound =
    ap (λ fs. agree fs (with_names (x ∷ names) bound)) (more_decided x f names start facts ms) ∙ agree_names names (without x f) start facts ms bound

-- they have the uses that the marks tell in the end
told : (x y : Name) (f g : Name → Bool) (u : Use) → g x ≡ f x → (t : Bool) → same_name x y ≡ t
    → (if t then (if f y then Changing else Fixed) else u) ≡ (if t then (if g y then Changing else Fixed) else u)
told x y f g u h true e = ap (λ (b : Bool). if b then Changing else Fixed) (ap f (sym (one_name x y e)) ∙ (sym h ∙ ap g (one_name x y e)))
told x y f g u h false e = refl

else_by : (t : Bool) (u v w : Use) → (t ≡ false → v ≡ w) → (if t then u else v) ≡ (if t then u else w)
else_by true u v w h = refl
else_by false u v w h = h refl

names_fit : (names : List Name) (f g : Name → Bool) (start : ℕ) (facts : List Bool) (ms : Marked) (x : Name) → start ≤ length ms → g x ≡ f x
    → use_of x (with_scope f names (scope_of start facts ms)) ≡ use_of x (scope_of start (decided (length ms) (marks g start (unmarked names ms)) facts) (unmarked names ms))
names_fit [] f g start facts ms x h e =
    ap (λ fs. use_of x (scope_of start fs ms)) (sym (decided_none (length ms) (marks g start ms) facts (let l = length-marks g start ms in omega arith)))
names_fit (y ∷ names) f g start facts ms x h e =
    let inner = decided (length ms) (marks (without y g) start (unmarked names ms)) facts in
    let l = longer names ms in
    let own : nat_le start (length (unmarked names ms)) ≡ true = le-leb start (length (unmarked names ms)) (omega arith) in
    told x y f g (use_of x (with_scope f names (scope_of start facts ms))) e (same_name x y) refl
    ∙ (else_by (same_name x y) (if g y then Changing else Fixed) (use_of x (with_scope f names (scope_of start facts ms))) (use_of x (scope_of start inner (unmarked names ms)))
    (λ other. names_fit names f (without y g) start facts ms x h (ap (λ t. not t && g x) other ∙ e))
    ∙ (ap (λ t. if same_name x y then the_use t (t && g y) else use_of x (scope_of start inner (unmarked names ms))) (sym own)
    ∙ ap (λ fs. use_of x (scope_of start fs (unmarked (y ∷ names) ms))) (sym (more_decided y g names start facts ms))))

-- once the names are no longer bound
by_marks : (a c : Bool) → ((not c || not a) && (not a || a)) ≡ not (a && c)
by_marks true true = refl
by_marks true false = refl
by_marks false true = refl
by_marks false false = refl

settled_by : (t : Bool) (n : ℕ) (facts : List Bool) (b : Bound) (bound : List Bound)
    → agree (decided n (marked bound) facts) bound ≡ (is_settled n bound && agree facts (first_bound n bound))
    → agree (if t then b.assigned ∷ decided n (marked bound) facts else facts) (b ∷ bound)
    ≡ ((if t then not (b.assigned && b.captured) && is_settled n bound else true) && agree facts (if t then first_bound n bound else b ∷ bound))
settled_by true n facts b bound h =
    ap (λ c. c && agree (decided n (marked bound) facts) bound) (by_marks b.assigned b.captured)
    ∙ (ap (λ c. not (b.assigned && b.captured) && c) h ∙ sym (and_assoc (not (b.assigned && b.captured)) (is_settled n bound) (agree facts (first_bound n bound))))
settled_by false n facts b bound h = refl

pub settled_fits : (n : ℕ) (facts : List Bool) (bound : List Bound)
    → agree (decided n (marked bound) facts) bound ≡ (is_settled n bound && agree facts (first_bound n bound))
settled_fits n facts [] = refl
settled_fits n facts (b ∷ bound) =
    ap (λ k. agree (if nat_le n k then b.assigned ∷ decided n (marked bound) facts else facts) (b ∷ bound)) (length-marked bound)
    ∙ settled_by (nat_le n (length bound)) n facts b bound (settled_fits n facts bound)

-- what a block or a function uses, with the names that it binds
inside : (names : List Name) (u : Uses) (start : ℕ) (facts : List Bool) (bound : List Bound) → start ≤ length bound
    → ((fs : List Bool) → (agree fs (with_names names bound) && allowed u (scope_of start fs (marked (with_names names bound)))) ≡ (is_fine u start (with_names names bound) && agree fs (after u start (with_names names bound))))
    → (agree facts bound && allowed u (with_scope (is_assigned u) names (scope_of start facts (marked bound))))
    ≡ ((is_fine u start (with_names names bound) && is_settled (length bound) (after u start (with_names names bound))) && agree facts (first_bound (length bound) (after u start (with_names names bound))))
inside names u start facts bound h each =
    let inner = with_names names bound in
    let later = after u start inner in
    let ms = marked bound in
    let f = is_assigned u in
    let n : length ms ≡ length bound = length-marked bound in
    let fs = decided (length bound) (marked later) facts in
    let gs = decided (length ms) (marks f start (unmarked names ms)) facts in
    let same : gs ≡ fs =
    ap (λ k. decided k (marks f start (unmarked names ms)) facts) n ∙ ap (λ (xs : Marked). decided (length bound) xs facts) (sym (marked_after u start inner ∙ ap (marks f start) (marked_names names bound))) in
    ap (λ b. b && allowed u (with_scope f names (scope_of start facts ms))) (sym (agree_names names f start facts ms bound) ∙ ap (λ xs. agree xs inner) same)
    ∙ (ap (λ b. agree fs inner && b)
    (allowed_alike u (with_scope f names (scope_of start facts ms)) (scope_of start gs (unmarked names ms)) (λ x. names_fit names f f start facts ms x (omega arith) refl)
    ∙ (ap (λ xs. allowed u (scope_of start xs (unmarked names ms))) same ∙ ap (λ (xs : Marked). allowed u (scope_of start fs xs)) (sym (marked_names names bound))))
    ∙ (each fs
    ∙ (ap (λ b. is_fine u start inner && b) (settled_fits (length bound) facts later)
    ∙ sym (and_assoc (is_fine u start inner) (is_settled (length bound) later) (agree facts (first_bound (length bound) later))))))

-- The marks agree with the scope and the uses are allowed there, exactly if the walk is fine and the marks agree in the
-- end.
pub walk_fits : (u : Uses) (start : ℕ) (facts : List Bool) (bound : List Bound) → start ≤ length bound
    → (agree facts bound && allowed u (scope_of start facts (marked bound))) ≡ (is_fine u start bound && agree facts (after u start bound))
walk_fits Nothing start facts bound h = and-true (agree facts bound)
walk_fits (Reads x) start facts bound h = read_fits x start facts bound
walk_fits (Assigns x) start facts bound h = assigned_fits x start facts bound
walk_fits (Both u v) start facts bound h =
    let s = scope_of start facts (marked bound) in
    let later = after u start bound in
    let l = length-after u start bound in
    let same : s ≡ scope_of start facts (marked later) =
    sym (ap (λ (ms : Marked). scope_of start facts ms) (marked_after u start bound) ∙ scope_marks (is_assigned u) start start facts (marked bound)) in
    sym (and_assoc (agree facts bound) (allowed u s) (allowed v s))
    ∙ (ap (λ b. b && allowed v s) (walk_fits u start facts bound h)
    ∙ (and_assoc (is_fine u start bound) (agree facts later) (allowed v s)
    ∙ (ap (λ t. is_fine u start bound && (agree facts later && allowed v t)) same
    ∙ (ap (λ b. is_fine u start bound && b) (walk_fits v start facts later (omega arith))
    ∙ sym (and_assoc (is_fine u start bound) (is_fine v start later) (agree facts (after v start later)))))))
walk_fits (Block names u) start facts bound h =
    let l = longer_bound names bound in
    inside names u start facts bound h (λ fs. walk_fits u start fs (with_names names bound) (omega arith))
walk_fits (Function names u) start facts bound h =
    let l = longer_bound names bound in
    let n = length-marked bound in
    ap (λ s. agree facts bound && allowed u (with_scope (is_assigned u) names s)) (scope_within (length bound) start facts (marked bound) (omega arith))
    ∙ inside names u (length bound) facts bound (omega arith) (λ fs. walk_fits u (length bound) fs (with_names names bound) l)

-- from nothing on
nothing_left : (u : Uses) → after u 0 [] ≡ []
nothing_left u = empty (after u 0 []) (length-after u 0 [])
  where
    empty : (bound : List Bound) → length bound ≡ 0 → bound ≡ []
    empty [] e = refl
    empty (b ∷ bound) e = absurd (omega (arith, e))

pub fine_from_nothing : (u : Uses) → allowed u [] ≡ is_fine u 0 []
fine_from_nothing u = walk_fits u 0 [] [] (omega arith) ∙ (ap (λ bound. is_fine u 0 [] && agree [] bound) (nothing_left u) ∙ and-true (is_fine u 0 []))
