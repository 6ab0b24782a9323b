-- Of the faults that steps tell, those that a token decides are told by the steps up to that token.
use Rattle.std.proofs.Common.{◌≡◌, ℕ, suc, ◌-◌, ◌<◌, List, [], ◌∷◌, ◌++◌, length, Bool, true, false, ◌&&◌}
use Rattle.std.proofs.Common.{if◌then◌else◌, Option, Some, None, ◌⊎◌, inl, inr, refl, sym, ap, subst, ◌∙◌, arith}
use Rattle.std.specs.Prelude.{Contains, slice_index_or, nat_eq}
use Rattle.std.proofs.lemmas.List.Elements.{Contains-append_left, Contains-append_right, Contains-append_cases}
use Rattle.elm_base.specs.declared.fault.Code.{Code}
use Rattle.elm_base.specs.declared.fault.Code.TheVariants.{LoneAnnotation, TooDeep, MixedOperators, TupleTooLarge}
use Rattle.elm_lexer.specs.Tokens.{Token}
use Rattle.parse_machine.specs.declared.table.Symbol.TheVariants.{Word, Part, Line, Block}
use Rattle.parse_machine.specs.declared.table.Step.{Step}
use Rattle.parse_machine.specs.declared.table.Step.TheVariants.{Take, Read}
use Rattle.parse_machine.specs.declared.table.Token as machine
use Rattle.parse_machine.specs.Grammar.{Production, ◌⟶◌, production, tokens_of}
use Rattle.elm_grammar.specs.Classes as class
use Rattle.elm_grammar.specs.Table.{elm}
use Rattle.elm_parser.specs.declared.level.Level.{Level}
use Rattle.elm_parser.specs.declared.scan.Frame.{Frame}
use Rattle.elm_parser.specs.Faults.{is_one_of, openers, operators, is_of, entries, ends, stands_for, begins, is_named}
use Rattle.elm_parser.specs.Faults.{annotates, is_empty, size, length_of, Decided, fault_if, same_name, lone}
use Rattle.elm_parser.specs.Scan.{clashes, next_of, name_in, same_named, by_name, at_production, at_token, read, passed}
use Rattle.elm_parser.specs.Scan.{below, push, scan}

-- ---- elements

abbrev pub In : List Decided → Decided → Type 0
In ds d = Contains ds d

pub none_in : {A : Type 0} {x : A} → Contains [] x → ⊥
none_in h = let l : h.0 < 0 = h.1 in absurd (omega arith)

pub first_in : {A : Type 0} (x : A) (xs : List A) → Contains (x ∷ xs) x
first_in x xs = (0, omega arith, refl)

pub later_in : {A : Type 0} (y x : A) (xs : List A) → Contains xs x → Contains (y ∷ xs) x
later_in y x xs h = Contains-append_right (y ∷ []) xs x h

-- ---- faults that the end or a token of these decides

abbrev pub By : List machine.Token → Option machine.Token → Type 0
By ts None = Unit {0}
By ts (Some t) = Contains ts t

abbrev pub Late : List machine.Token → Decided → Type 0
Late ts d = By ts d.by

later : (t : machine.Token) (ts : List machine.Token) (o : Option machine.Token) → By ts o → By (t ∷ ts) o
later t ts None h = tt
later t ts (Some u) h = later_in t u ts h

by_next : (steps : List Step) → By (tokens_of steps) (next_of steps)
by_next [] = tt
by_next (Read t ∷ steps) = first_in t (tokens_of steps)
by_next (Take p ∷ steps) = by_next steps

-- the only element
pub only_in : (x d : Decided) → In (x ∷ []) d → x ≡ d
only_in x d h =
    let l : h.0 < 1 = h.1 in
    let z : h.0 ≡ 0 = omega arith in
    subst (λ k. slice_index_or (x ∷ []) k d ≡ d) z h.2

lone_is : (a : machine.Token) (o : Option machine.Token) (d : Decided) → In (lone a o) d → d.by ≡ o
lone_is a o d h =
    let e : record { place = a; code = LoneAnnotation; by = o } ≡ d =
    only_in (record { place = a; code = LoneAnnotation; by = o }) d h in
    ap (λ (v : Decided). v.by) (sym e)

lone_late : (ts : List machine.Token) (a : machine.Token) (o : Option machine.Token) (d : Decided) → By ts o →
    In (lone a o) d → Late ts d
lone_late ts a o d b h = subst (By ts) (sym (lone_is a o d h)) b

fault_is : (b : Bool) (t : machine.Token) (code : Code) (d : Decided) → In (fault_if b t code) d → d.by ≡ Some t
fault_is false t code d h = absurd (none_in h)
fault_is true t code d h =
    let e : record { place = t; code = code; by = Some t } ≡ d =
    only_in (record { place = t; code = code; by = Some t }) d h in
    ap (λ (v : Decided). v.by) (sym e)

either : (xs ys : List Decided) (d : Decided) {Q : Type 0} → (In xs d → Q) → (In ys d → Q) → In (xs ++ ys) d → Q
either xs ys d f g h = elim (Contains-append_cases xs ys d h) [ inl i ↦ f i | inr i ↦ g i ]

four : (w x y z : List Decided) (d : Decided) {Q : Type 0} → (In w d → Q) → (In x d → Q) → (In y d → Q) →
    (In z d → Q) → In (((w ++ x) ++ y) ++ z) d → Q
four w x y z d f g h i j =
    either ((w ++ x) ++ y) z d (λ k. either (w ++ x) y d (λ l. either w x d f g l) h k) i j

token_is : (tokens : List Token) (l : Level) (t : machine.Token) (d : Decided) → In (at_token tokens l t) d →
    d.by ≡ Some t
token_is tokens l t d h =
    let a = is_one_of openers t.class && nat_eq l.constructs_left 0 in
    let b = is_one_of operators t.class && nat_eq l.operators_left 0 in
    let c = is_one_of operators t.class && clashes tokens l t in
    let e = nat_eq t.class class.comma && nat_eq l.commas_left 0 in
    four (fault_if a t TooDeep) (fault_if b t TooDeep) (fault_if c t MixedOperators) (fault_if e t TupleTooLarge) d
    (fault_is a t TooDeep d) (fault_is b t TooDeep d) (fault_is c t MixedOperators d) (fault_is e t TupleTooLarge d) h

same_named_late : (a : machine.Token) (steps : List Step) (d : Decided) → In (same_named a steps) d →
    Late (tokens_of steps) d
same_named_late a [] d h = absurd (none_in h)
same_named_late a (Read t ∷ steps) d h = absurd (none_in h)
same_named_late a (Take q ∷ steps) d h = by (annotates q) h
  where
    by : (b : Bool) → In (if b then lone a (next_of steps) else []) d → Late (tokens_of steps) d
    by true i = lone_late (tokens_of steps) a (next_of steps) d (by_next steps) i
    by false i = absurd (none_in i)

by_name_late : (tokens : List Token) (a : machine.Token) (steps : List Step) (d : Decided) →
    In (by_name tokens a steps) d → Late (tokens_of steps) d
by_name_late tokens a [] d h = absurd (none_in h)
by_name_late tokens a (Take q ∷ steps) d h = absurd (none_in h)
by_name_late tokens a (Read y ∷ steps) d h = by (same_name tokens a y) h
  where
    by : (b : Bool) → In (if b then same_named a steps else lone a (Some y)) d → Late (y ∷ tokens_of steps) d
    by true i = later y (tokens_of steps) d.by (same_named_late a steps d i)
    by false i = lone_late (y ∷ tokens_of steps) a (Some y) d (first_in y (tokens_of steps)) i

production_late : (tokens : List Token) (o : Option machine.Token) (p : ℕ) (steps : List Step) (d : Decided) →
    In (at_production tokens o p steps) d → Late (tokens_of steps) d
production_late tokens None p steps d h = absurd (none_in h)
production_late tokens (Some a) p steps d h = by (is_named p) (is_of entries p) (is_of ends p && is_empty p) h
  where
    alone : In (lone a (next_of steps)) d → Late (tokens_of steps) d
    alone i = lone_late (tokens_of steps) a (next_of steps) d (by_next steps) i

    by : (b c e : Bool) →
        In (if b then by_name tokens a steps
        else (if c then lone a (next_of steps) else (if e then lone a (next_of steps) else []))) d →
        Late (tokens_of steps) d
    by true c e i = by_name_late tokens a steps d i
    by false true e i = alone i
    by false false true i = alone i
    by false false false i = absurd (none_in i)

-- each fault that steps tell is decided by a token of them, or by none
pub scan_late : (tokens : List Token) (S : List Frame) (steps : List Step) (d : Decided) →
    In (scan tokens S steps) d → Late (tokens_of steps) d
scan_late tokens [] [] d h = absurd (none_in h)
scan_late tokens (f ∷ S) [] d h = absurd (none_in h)
scan_late tokens [] (s ∷ steps) d h = absurd (none_in h)
scan_late tokens (f ∷ S) (Read t ∷ steps) d h =
    either _ _ d (λ i. subst (By (t ∷ tokens_of steps)) (sym (token_is tokens f.level t d i)) (first_in t (tokens_of steps)))
    (λ i. later t (tokens_of steps) d.by (scan_late tokens (push (f.left - 1) (read tokens f.level t) S) steps d i)) h
scan_late tokens (f ∷ S) (Take p ∷ steps) d h =
    either _ _ d (production_late tokens f.level.annotated p steps d)
    (scan_late tokens (push (size p) (below f.level p) (push (f.left - 1) (passed f.level p steps) S)) steps d) h

-- ---- with more steps

-- more steps keep what a token decides, and add what their tokens or none decide
abbrev pub Extends : List machine.Token → List Decided → List Decided → Type 0
Extends ts ds es =
    ((d : Decided) → In ds d → (d.by ≡ None → ⊥) → In es d) × ((d : Decided) → In es d → In ds d ⊎ Late ts d)

ext_same : (ts : List machine.Token) (ds : List Decided) → Extends ts ds ds
ext_same ts ds = (λ d h n. h, λ d h. inl h)

ext_late : (ts : List machine.Token) (es : List Decided) → ((d : Decided) → In es d → Late ts d) → Extends ts [] es
ext_late ts es l = (λ d h n. absurd (none_in h), λ d h. inr (l d h))

ext_append : (ts : List machine.Token) (a b c e : List Decided) → Extends ts a b → Extends ts c e →
    Extends ts (a ++ c) (b ++ e)
ext_append ts a b c e h i = (
  λ d j n. either a c d (λ k. Contains-append_left b e d (h.0 d k n)) (λ k. Contains-append_right b e d (i.0 d k n)) j,
  λ d j. either b e d (λ k. left d (h.1 d k)) (λ k. right d (i.1 d k)) j,
)
  where
    left : (d : Decided) → In a d ⊎ Late ts d → In (a ++ c) d ⊎ Late ts d
    left d (inl k) = inl (Contains-append_left a c d k)
    left d (inr k) = inr k

    right : (d : Decided) → In c d ⊎ Late ts d → In (a ++ c) d ⊎ Late ts d
    right d (inl k) = inl (Contains-append_right a c d k)
    right d (inr k) = inr k

abbrev NextMore : List Step → List Step → Type 0
NextMore known rest =
    ((u : machine.Token) × (next_of known ≡ Some u) × (next_of (known ++ rest) ≡ Some u))
    ⊎ ((next_of known ≡ None) × (next_of (known ++ rest) ≡ next_of rest))

next_more : (known rest : List Step) → NextMore known rest
next_more [] rest = inr (refl, refl)
next_more (Read t ∷ known) rest = inl (t, refl, refl)
next_more (Take p ∷ known) rest = next_more known rest

ext_next : (a : machine.Token) (known rest : List Step) →
    Extends (tokens_of rest) (lone a (next_of known)) (lone a (next_of (known ++ rest)))
ext_next a known rest = by (next_more known rest)
  where
    by : NextMore known rest → Extends (tokens_of rest) (lone a (next_of known)) (lone a (next_of (known ++ rest)))
    by (inl (u, e, f)) =
        subst (λ z. Extends (tokens_of rest) (lone a z) (lone a (next_of (known ++ rest)))) (sym e)
        (subst (λ z. Extends (tokens_of rest) (lone a (Some u)) (lone a z)) (sym f) (ext_same (tokens_of rest) (lone a (Some u))))
    by (inr (e, f)) = (
      λ d h n. absurd (n (lone_is a (next_of known) d h ∙ e)),
      λ d h. inr (lone_late (tokens_of rest) a (next_of (known ++ rest)) d (subst (By (tokens_of rest)) (sym f) (by_next rest)) h),
    )

ext_same_named : (a : machine.Token) (known rest : List Step) →
    Extends (tokens_of rest) (same_named a known) (same_named a (known ++ rest))
ext_same_named a [] rest = ext_late (tokens_of rest) (same_named a rest) (same_named_late a rest)
ext_same_named a (Read t ∷ known) rest = ext_same (tokens_of rest) []
ext_same_named a (Take q ∷ known) rest = by (annotates q)
  where
    by : (b : Bool) →
        Extends (tokens_of rest) (if b then lone a (next_of known) else []) (if b then lone a (next_of (known ++ rest)) else [])
    by true = ext_next a known rest
    by false = ext_same (tokens_of rest) []

ext_by_name : (tokens : List Token) (a : machine.Token) (known rest : List Step) →
    Extends (tokens_of rest) (by_name tokens a known) (by_name tokens a (known ++ rest))
ext_by_name tokens a [] rest = ext_late (tokens_of rest) (by_name tokens a rest) (by_name_late tokens a rest)
ext_by_name tokens a (Take q ∷ known) rest = ext_same (tokens_of rest) []
ext_by_name tokens a (Read y ∷ known) rest = by (same_name tokens a y)
  where
    by : (b : Bool) →
        Extends (tokens_of rest) (if b then same_named a known else lone a (Some y))
        (if b then same_named a (known ++ rest) else lone a (Some y))
    by true = ext_same_named a known rest
    by false = ext_same (tokens_of rest) (lone a (Some y))

ext_production : (tokens : List Token) (o : Option machine.Token) (p : ℕ) (known rest : List Step) →
    Extends (tokens_of rest) (at_production tokens o p known) (at_production tokens o p (known ++ rest))
ext_production tokens None p known rest = ext_same (tokens_of rest) []
ext_production tokens (Some a) p known rest = by (is_named p) (is_of entries p) (is_of ends p && is_empty p)
  where
    by : (b c e : Bool) →
        Extends (tokens_of rest)
        (if b then by_name tokens a known
        else (if c then lone a (next_of known) else (if e then lone a (next_of known) else [])))
        (if b then by_name tokens a (known ++ rest)
        else (if c then lone a (next_of (known ++ rest)) else (if e then lone a (next_of (known ++ rest)) else [])))
    by true c e = ext_by_name tokens a known rest
    by false true e = ext_next a known rest
    by false false true = ext_next a known rest
    by false false false = ext_same (tokens_of rest) []

-- ---- the name of an annotation, which two steps tell

abbrev Short : List Step → Type 0
Short known = (known ≡ []) ⊎ ((y : machine.Token) × (known ≡ Read y ∷ []))

name_more : (known rest : List Step) → (name_in (known ++ rest) ≡ name_in known) ⊎ Short known
name_more [] rest = inr (inl refl)
name_more (Take q ∷ known) rest = inl refl
name_more (Read y ∷ []) rest = inr (inr (y, refl))
name_more (Read y ∷ Read z ∷ known) rest = inl refl
name_more (Read y ∷ Take q ∷ known) rest = inl refl

passed_more : (l : Level) (p : ℕ) (known rest : List Step) →
    (passed l p (known ++ rest) ≡ passed l p known) ⊎ ((is_named p ≡ true) × Short known)
passed_more l p known rest = by (is_of entries p) (is_named p) refl (name_more known rest)
  where
    by : (b c : Bool) → is_named p ≡ c → (name_in (known ++ rest) ≡ name_in known) ⊎ Short known →
        ((if b then record l { annotated = if c then name_in (known ++ rest) else None } else l)
        ≡ (if b then record l { annotated = if c then name_in known else None } else l))
        ⊎ ((is_named p ≡ true) × Short known)
    by false c e h = inl refl
    by true false e h = inl refl
    by true true e (inl h) = inl (ap (λ z. record l { annotated = z }) h)
    by true true e (inr h) = inr (e, h)

named_size : (o : Option Production) → (stands_for entries o && begins (class.name ∷ []) o) ≡ true →
    (m : ℕ) × (length_of o ≡ suc m)
named_size None e = absurd cc
named_size (Some (n ⟶ (Word k ∷ r))) e = (length r, refl)
named_size (Some (n ⟶ [])) e = absurd (no (stands_for entries (Some (n ⟶ []))) e)
  where
    no : (b : Bool) → (b && false) ≡ true → ⊥
    no true f = cc
    no false f = cc
named_size (Some (n ⟶ (Part k ∷ r))) e = absurd (no (stands_for entries (Some (n ⟶ []))) e)
  where
    no : (b : Bool) → (b && false) ≡ true → ⊥
    no true f = cc
    no false f = cc
named_size (Some (n ⟶ (Line k ∷ r))) e = absurd (no (stands_for entries (Some (n ⟶ []))) e)
  where
    no : (b : Bool) → (b && false) ≡ true → ⊥
    no true f = cc
    no false f = cc
named_size (Some (n ⟶ (Block k ∷ r))) e = absurd (no (stands_for entries (Some (n ⟶ []))) e)
  where
    no : (b : Bool) → (b && false) ≡ true → ⊥
    no true f = cc
    no false f = cc

-- ---- all steps

scan_none : (tokens : List Token) (S : List Frame) → scan tokens S [] ≡ []
scan_none tokens [] = refl
scan_none tokens (f ∷ S) = refl

ext_none : (tokens : List Token) (S Z : List Frame) (rest : List Step) →
    Extends (tokens_of rest) (scan tokens S []) (scan tokens Z rest)
ext_none tokens S Z rest =
    subst (λ z. Extends (tokens_of rest) z (scan tokens Z rest)) (sym (scan_none tokens S))
    (ext_late (tokens_of rest) (scan tokens Z rest) (scan_late tokens Z rest))

ext_short : (tokens : List Token) (n : ℕ) (l : Level) (S Z : List Frame) (known rest : List Step) →
    (m : ℕ) × (n ≡ suc m) → Short known →
    Extends (tokens_of rest) (scan tokens (push n l S) known) (scan tokens (push n l Z) (known ++ rest))
ext_short tokens n l S Z known rest m (inl e) =
    subst (λ z. Extends (tokens_of rest) (scan tokens (push n l S) z) (scan tokens (push n l Z) (z ++ rest))) (sym e)
    (ext_none tokens (push n l S) (push n l Z) rest)
ext_short tokens n l S Z known rest (m, f) (inr (y, e)) =
    subst (λ z. Extends (tokens_of rest) (scan tokens (push n l S) z) (scan tokens (push n l Z) (z ++ rest))) (sym e)
    (subst (λ k. Extends (tokens_of rest) (scan tokens (push k l S) (Read y ∷ [])) (scan tokens (push k l Z) (Read y ∷ rest)))
    (sym f)
    (ext_append (tokens_of rest) (at_token tokens l y) (at_token tokens l y)
    (scan tokens (push (suc m - 1) (read tokens l y) S) []) (scan tokens (push (suc m - 1) (read tokens l y) Z) rest)
    (ext_same (tokens_of rest) (at_token tokens l y))
    (ext_none tokens (push (suc m - 1) (read tokens l y) S) (push (suc m - 1) (read tokens l y) Z) rest)))

pub extends : (tokens : List Token) (S : List Frame) (known rest : List Step) →
    Extends (tokens_of rest) (scan tokens S known) (scan tokens S (known ++ rest))
extends tokens S [] rest = ext_none tokens S S rest
extends tokens [] (s ∷ known) rest = ext_same (tokens_of rest) []
extends tokens (f ∷ S) (Read t ∷ known) rest =
    ext_append (tokens_of rest) (at_token tokens f.level t) (at_token tokens f.level t) _ _
    (ext_same (tokens_of rest) (at_token tokens f.level t))
    (extends tokens (push (f.left - 1) (read tokens f.level t) S) known rest)
extends tokens (f ∷ S) (Take p ∷ known) rest =
    ext_append (tokens_of rest) (at_production tokens f.level.annotated p known)
    (at_production tokens f.level.annotated p (known ++ rest)) _ _
    (ext_production tokens f.level.annotated p known rest)
    (by (passed_more f.level p known rest)
    (extends tokens (push (size p) (below f.level p) (push (f.left - 1) (passed f.level p known) S)) known rest))
  where
    by : (passed f.level p (known ++ rest) ≡ passed f.level p known) ⊎ ((is_named p ≡ true) × Short known) →
        Extends (tokens_of rest)
        (scan tokens (push (size p) (below f.level p) (push (f.left - 1) (passed f.level p known) S)) known)
        (scan tokens (push (size p) (below f.level p) (push (f.left - 1) (passed f.level p known) S)) (known ++ rest)) →
        Extends (tokens_of rest)
        (scan tokens (push (size p) (below f.level p) (push (f.left - 1) (passed f.level p known) S)) known)
        (scan tokens (push (size p) (below f.level p) (push (f.left - 1) (passed f.level p (known ++ rest)) S)) (known ++ rest))
    by (inl e) more =
        subst (λ z. Extends (tokens_of rest)
        (scan tokens (push (size p) (below f.level p) (push (f.left - 1) (passed f.level p known) S)) known)
        (scan tokens (push (size p) (below f.level p) (push (f.left - 1) z S)) (known ++ rest))) (sym e) more
    by (inr (e, h)) more =
        ext_short tokens (size p) (below f.level p) (push (f.left - 1) (passed f.level p known) S)
        (push (f.left - 1) (passed f.level p (known ++ rest)) S) known rest (named_size (production elm p) e) h
