-- The faults that the steps of a derivation tell are those of the derivation.
use Rattle.std.proofs.Common.{◌≡◌, ℕ, zero, suc, ◌+◌, ◌-◌, List, [], ◌∷◌, ◌++◌, length, Bool, true, false, not, ◌&&◌}
use Rattle.std.proofs.Common.{◌||◌, if◌then◌else◌, Option, Some, None, refl, sym, ap, subst, ◌∙◌, append_assoc}
use Rattle.std.proofs.Common.{append-nil, add-zero, arith}
use Rattle.std.specs.Prelude.{nat_eq}
use Rattle.std.specs.List.{list_all}
use Rattle.std.proofs.lemmas.Bool.Decides.{nat_tests}
use Rattle.elm_lexer.specs.Tokens.{Token}
use Rattle.parse_machine.specs.declared.table.Symbol.{Symbol}
use Rattle.parse_machine.specs.declared.table.Symbol.TheVariants.{Word, Part, Line, Block}
use Rattle.parse_machine.specs.declared.table.Step.{Step}
use Rattle.parse_machine.specs.declared.table.Step.TheVariants.{Take, Read}
use Rattle.parse_machine.specs.declared.table.Token as machine
use Rattle.parse_machine.specs.Grammar.{Production, ◌⟶◌, production, Place, Tree, leaf, word, node, Derives, nothing}
use Rattle.parse_machine.specs.Grammar.{a_word, a_node, a_part, a_line, a_block, steps_of}
use Rattle.elm_grammar.specs.Classes as class
use Rattle.elm_grammar.specs.Table.{elm}
use Rattle.elm_parser.specs.declared.scan.Frame.{Frame}
use Rattle.elm_parser.specs.Faults.{is_one_of, is_of, stands_for, length_of, size, begins, entries, ends, is_named}
use Rattle.elm_parser.specs.Faults.{annotates, is_empty, Level, below, read, passed, name_of, Decided, at_token}
use Rattle.elm_parser.specs.Faults.{same_name, lone, first_of, by_name, at_production, faults_in, faults_of, outermost}
use Rattle.elm_parser.specs.Scan as scan
use Rattle.elm_parser.specs.Scan.{next_of, push}
use Rattle.elm_parser.proofs.Levels.{kept, below_kept, read_kept, token_kept}

-- ---- what comes next

pub next_steps : (x : Tree) (more : List Step) → next_of (steps_of x ++ more) ≡ first_of x (next_of more)
next_steps leaf more = refl
next_steps (word t x) more = refl
next_steps (node p x y) more =
    ap next_of (append_assoc (steps_of x) (steps_of y) more) ∙ next_steps x (steps_of y ++ more)
    ∙ ap (first_of x) (next_steps y more)

-- ---- an entry that begins with a name

abbrev is_word_part : List Symbol → Bool
is_word_part (Word k ∷ Part n ∷ []) = true
is_word_part _ = false

-- each such production asks for the name, and for what follows it
abbrev is_shaped : Production → Bool
is_shaped (n ⟶ r) =
    not (is_one_of entries n && begins (class.name ∷ []) (Some (n ⟶ r))) || is_word_part r

all_shaped : list_all is_shaped elm ≡ true
all_shaped = refl

both : (a b : Bool) → (a && b) ≡ true → (a ≡ true) × (b ≡ true)
both true true e = (refl, refl)
both true false e = absurd cc
both false b e = absurd cc

all_at : (xs : List Production) (p : ℕ) (x : Production) → list_all is_shaped xs ≡ true → production xs p ≡ Some x →
    is_shaped x ≡ true
all_at [] p x h e = absurd cc
all_at (y ∷ ys) zero x h e =
    let f : y ≡ x = cc in
    subst (λ z. is_shaped z ≡ true) f (both (is_shaped y) (list_all is_shaped ys) h).0
all_at (y ∷ ys) (suc p) x h e = all_at ys p x (both (is_shaped y) (list_all is_shaped ys) h).1 e

record Named (x : Tree) : Type 0 where
  y : machine.Token
  q : ℕ
  z : Tree
  w : Tree
  is : x ≡ word y (node q z w)

shape_of : (g : List Production) {m : Place} {c : ℕ} {r : List Symbol} {x : Tree} {ts rest : List machine.Token} →
    is_word_part r ≡ true → Derives g m c r x ts rest → Named x
shape_of g e nothing = absurd cc
shape_of g e (a_word {ss = []} h st d) = absurd cc
shape_of g e (a_word {ss = Word k ∷ ss} h st d) = absurd cc
shape_of g e (a_word {ss = Line k ∷ ss} h st d) = absurd cc
shape_of g e (a_word {ss = Block k ∷ ss} h st d) = absurd cc
shape_of g e (a_word {t = t} {ss = Part k ∷ ss} h st (a_node {p = p} {x = x} {y = y} i j f v)) =
    record { y = t; q = p; z = x; w = y; is = refl }
shape_of g e (a_node a_part j d f) = absurd cc
shape_of g e (a_node a_line j d f) = absurd cc
shape_of g e (a_node (a_block h) j d f) = absurd cc

named_so : (p n : ℕ) (r : List Symbol) → production elm p ≡ Some (n ⟶ r) → is_named p ≡ true → is_word_part r ≡ true
named_so p n r i e =
    let f : (is_one_of entries n && begins (class.name ∷ []) (Some (n ⟶ r))) ≡ true =
    subst (λ z. (stands_for entries z && begins (class.name ∷ []) z) ≡ true) i e in
    forced (is_one_of entries n && begins (class.name ∷ []) (Some (n ⟶ r))) (is_word_part r) f
    (all_at elm p (n ⟶ r) all_shaped i)
  where
    forced : (a b : Bool) → a ≡ true → (not a || b) ≡ true → b ≡ true
    forced true b f h = h
    forced false b f h = absurd cc

-- ---- one step

by_name_word : (tokens : List Token) (a y : machine.Token) (q : ℕ) (z w : Tree) (more : List Step) →
    scan.by_name tokens a (steps_of (word y (node q z w)) ++ more)
    ≡ by_name tokens a (word y (node q z w)) (next_of more)
by_name_word tokens a y q z w more = by (same_name tokens a y) (annotates q)
  where
    then_next : next_of ((steps_of z ++ steps_of w) ++ more) ≡ first_of z (first_of w (next_of more))
    then_next = next_steps (node q z w) more

    by : (b d : Bool) →
        (if b then (if d then lone a (next_of ((steps_of z ++ steps_of w) ++ more)) else []) else lone a (Some y))
        ≡ (if b then (if d then lone a (first_of z (first_of w (next_of more))) else []) else lone a (Some y))
    by true true = ap (lone a) then_next
    by true false = refl
    by false d = refl

by_name_steps : (tokens : List Token) (a : machine.Token) (x : Tree) (more : List Step) → Named x →
    scan.by_name tokens a (steps_of x ++ more) ≡ by_name tokens a x (next_of more)
by_name_steps tokens a x more h =
    subst (λ v. scan.by_name tokens a (steps_of v ++ more) ≡ by_name tokens a v (next_of more)) (sym h.is)
    (by_name_word tokens a h.y h.q h.z h.w more)

production_steps : (tokens : List Token) (o : Option machine.Token) (p : ℕ) (x : Tree) (more : List Step) →
    (is_named p ≡ true → Named x) → (is_empty p ≡ true → x ≡ leaf) →
    scan.at_production tokens o p (steps_of x ++ more) ≡ at_production tokens o p x (next_of more)
production_steps tokens None p x more h k = refl
production_steps tokens (Some a) p x more h k = by (is_named p) refl (is_of entries p)
  where
    ended : (b d : Bool) → is_empty p ≡ d →
        (if b && d then lone a (next_of (steps_of x ++ more)) else []) ≡ (if b && d then lone a (next_of more) else [])
    ended true true e = ap (λ v. lone a (next_of (steps_of v ++ more))) (k e)
    ended true false e = refl
    ended false d e = refl

    by : (b : Bool) → is_named p ≡ b → (d : Bool) →
        (if b then scan.by_name tokens a (steps_of x ++ more)
        else (if d then lone a (next_of (steps_of x ++ more))
        else (if is_of ends p && is_empty p then lone a (next_of (steps_of x ++ more)) else [])))
        ≡ (if b then by_name tokens a x (next_of more)
        else (if d then lone a (first_of x (next_of more))
        else (if is_of ends p && is_empty p then lone a (next_of more) else [])))
    by true e d = by_name_steps tokens a x more (h e)
    by false e true = ap (lone a) (next_steps x more)
    by false e false = ended (is_of ends p) (is_empty p) refl

passed_steps : (tokens : List Token) (l : Level) (p : ℕ) (x : Tree) (more : List Step) → (is_named p ≡ true → Named x) →
    scan.passed (kept tokens l) p (steps_of x ++ more) ≡ kept tokens (passed l p x)
passed_steps tokens l p x more h = by (is_of entries p) (is_named p) refl
  where
    names : Named x → scan.name_in (steps_of x ++ more) ≡ name_of x
    names v = subst (λ u. scan.name_in (steps_of u ++ more) ≡ name_of u) (sym v.is) refl

    by : (a b : Bool) → is_named p ≡ b →
        (if a then record (kept tokens l) { annotated = if b then scan.name_in (steps_of x ++ more) else None }
        else kept tokens l)
        ≡ kept tokens
        (if a then record {
          depth = l.depth;
          chain = l.chain;
          commas = l.commas;
          annotated = if b then name_of x else None;
        } else l)
    by true true e = ap (λ z. record (kept tokens l) { annotated = z }) (names (h e))
    by true false e = refl
    by false b e = refl

-- ---- all steps

-- the level after a derivation
abbrev pub after : Level → Tree → Level
after l leaf = l
after l (word t x) = after (read l t) x
after l (node p x y) = after (passed l p x) y

size_is : (p n : ℕ) (r : List Symbol) → production elm p ≡ Some (n ⟶ r) → size p ≡ length r
size_is p n r e = ap length_of e

not_none : (k : ℕ) → nat_eq (suc k) 0 ≡ true → ⊥
not_none k e = grind (arith, nat_tests)

empty_is : (p n : ℕ) (r : List Symbol) {m : Place} {c : ℕ} {x : Tree} {ts rest : List machine.Token} →
    production elm p ≡ Some (n ⟶ r) → Derives elm m c r x ts rest → is_empty p ≡ true → x ≡ leaf
empty_is p n [] e nothing h = refl
empty_is p n (s ∷ ss) e d h = absurd (not_none (length ss) (subst (λ z. nat_eq (length_of z) 0 ≡ true) e h))

scanned_word : (tokens : List Token) (l : Level) (n k : ℕ) (S : List Frame) (more : List Step) (t : machine.Token)
    (x : Tree) → k ≡ suc n →
    scan.scan tokens (push k (kept tokens l) S) (Read t ∷ (steps_of x ++ more))
    ≡ at_token tokens l t ++ scan.scan tokens (push n (kept tokens (read l t)) S) (steps_of x ++ more)
scanned_word tokens l n k S more t x e =
    let one : suc n - 1 ≡ n = omega arith in
    rw e (ap (λ z. z ++ scan.scan tokens (push (suc n - 1) (scan.read tokens (kept tokens l) t) S) (steps_of x ++ more))
    (token_kept tokens l t)
    ∙ ap (λ z. at_token tokens l t ++ scan.scan tokens (push z (scan.read tokens (kept tokens l) t) S) (steps_of x ++ more)) one
    ∙ ap (λ z. at_token tokens l t ++ scan.scan tokens (push n z S) (steps_of x ++ more)) (read_kept tokens l t))

scanned_take : (tokens : List Token) (l : Level) (m k : ℕ) (S : List Frame) (rest : List Step) (p : ℕ) (x : Tree) →
    k ≡ suc m → (is_named p ≡ true → Named x) → (is_empty p ≡ true → x ≡ leaf) →
    scan.scan tokens (push k (kept tokens l) S) (Take p ∷ (steps_of x ++ rest))
    ≡ at_production tokens l.annotated p x (next_of rest)
    ++ scan.scan tokens (push (size p) (kept tokens (below l p)) (push m (kept tokens (passed l p x)) S))
    (steps_of x ++ rest)
scanned_take tokens l m k S rest p x e h i =
    let one : suc m - 1 ≡ m = omega arith in
    let steps = steps_of x ++ rest in
    let K = kept tokens l in
    rw e (ap (λ z. z ++ scan.scan tokens (push (size p) (scan.below K p) (push (suc m - 1) (scan.passed K p steps) S)) steps)
    (production_steps tokens l.annotated p x rest h i)
    ∙ ap (λ z. at_production tokens l.annotated p x (next_of rest)
    ++ scan.scan tokens (push (size p) z (push (suc m - 1) (scan.passed K p steps) S)) steps) (below_kept tokens l p)
    ∙ ap (λ z. at_production tokens l.annotated p x (next_of rest)
    ++ scan.scan tokens (push (size p) (kept tokens (below l p)) (push z (scan.passed K p steps) S)) steps) one
    ∙ ap (λ z. at_production tokens l.annotated p x (next_of rest)
    ++ scan.scan tokens (push (size p) (kept tokens (below l p)) (push m z S)) steps)
    (passed_steps tokens l p x rest h))

pub scanned : (tokens : List Token) {m : Place} {c : ℕ} {ss : List Symbol} {x : Tree} {ts rest : List machine.Token} →
    Derives elm m c ss x ts rest → (l : Level) (n k : ℕ) (S : List Frame) (more : List Step) → k ≡ length ss + n →
    scan.scan tokens (push k (kept tokens l) S) (steps_of x ++ more)
    ≡ faults_in tokens l (next_of more) x ++ scan.scan tokens (push n (kept tokens (after l x)) S) more
scanned tokens nothing l n k S more e =
    let f : k ≡ n = omega arith in
    rw f refl
scanned tokens (a_word {t = t} {ss = ss} {x = x} h st d) l n k S more e =
    let f : k ≡ suc (length ss + n) = omega arith in
    scanned_word tokens l (length ss + n) k S more t x f
    ∙ ap (λ z. at_token tokens l t ++ z) (scanned tokens d (read l t) n (length ss + n) S more refl)
    ∙ sym (append_assoc (at_token tokens l t) (faults_in tokens (read l t) (next_of more) x)
    (scan.scan tokens (push n (kept tokens (after (read l t) x)) S) more))
scanned tokens (a_node {n = j} {p = p} {r = r} {ss = ss} {x = x} {y = y} i is d f) l n k S more e =
    let g : k ≡ suc (length ss + n) = omega arith in
    let rest = steps_of y ++ more in
    let m = length ss + n in
    let S1 = push m (kept tokens (passed l p x)) S in
    let many : size p ≡ length r + 0 = size_is p j r is ∙ sym (add-zero (length r)) in
    let next : next_of rest ≡ first_of y (next_of more) = next_steps y more in
    let here = at_production tokens l.annotated p x (next_of rest) in
    ap (λ z. scan.scan tokens (push k (kept tokens l) S) (Take p ∷ z)) (append_assoc (steps_of x) (steps_of y) more)
    ∙ scanned_take tokens l m k S rest p x g (λ h. shape_of elm (named_so p j r is h) d) (empty_is p j r is d)
    ∙ ap (λ z. here ++ z) (scanned tokens d (below l p) 0 (size p) S1 rest many)
    ∙ ap (λ z. here ++ (faults_in tokens (below l p) (next_of rest) x ++ z))
    (scanned tokens f (passed l p x) n m S more refl)
    ∙ ap (λ z. at_production tokens l.annotated p x z
    ++ (faults_in tokens (below l p) z x ++ (faults_in tokens (passed l p x) (next_of more) y
    ++ scan.scan tokens (push n (kept tokens (after (passed l p x) y)) S) more))) next
    ∙ grouped (at_production tokens l.annotated p x (first_of y (next_of more)))
    (faults_in tokens (below l p) (first_of y (next_of more)) x) (faults_in tokens (passed l p x) (next_of more) y)
    (scan.scan tokens (push n (kept tokens (after (passed l p x) y)) S) more)
  where
    grouped : (a b c d : List Decided) → a ++ (b ++ (c ++ d)) ≡ (a ++ (b ++ c)) ++ d
    grouped a b c d = simp append_assoc

-- the faults of a text are those that its steps tell
pub whole : (tokens : List Token) {m : Place} {c : ℕ} {s : Symbol} {x : Tree} {ts rest : List machine.Token} →
    Derives elm m c (s ∷ []) x ts rest → scan.scan tokens scan.bottom (steps_of x) ≡ faults_of tokens x
unfolding faults_of
whole tokens {x = x} d =
    ap (scan.scan tokens scan.bottom) (sym (append-nil (steps_of x)))
    ∙ scanned tokens d (outermost 0) 0 1 [] [] refl ∙ append-nil (faults_in tokens (outermost 0) None x)
