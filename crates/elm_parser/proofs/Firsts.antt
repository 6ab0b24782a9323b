-- The least of the faults that count.
use Rattle.std.proofs.Common.{◌≡◌, ℕ, ◌<◌, ◌≤◌, List, [], ◌∷◌, Bool, true, false, ◌&&◌, ◌||◌, if◌then◌else◌, nat_lt}
use Rattle.std.proofs.Common.{nat_eq, Option, Some, None, ◌⊎◌, inl, inr, refl, sym, subst, ◌∙◌, arith}
use Rattle.std.specs.Prelude.{Contains, is_some}
use Rattle.std.proofs.lemmas.Bool.Decides.{nat_tests}
use Rattle.std.proofs.lemmas.List.Elements.{Contains-append_cases}
use Rattle.elm_parser.specs.Faults.{Decided}
use Rattle.elm_parser.specs.Standing.{Finding, finding, number_of, NotAfter}
use Rattle.elm_parser.specs.Scan.{is_before, earlier, first_among}
use Rattle.elm_parser.proofs.Prefix.{none_in, only_in, first_in, later_in}

not_after_self : (f : Finding) → NotAfter f f
not_after_self f = inr (refl, omega arith)

not_after_next : (f g h : Finding) → NotAfter f g → NotAfter g h → NotAfter f h
not_after_next f g h (inl a) (inl b) = inl (omega arith)
not_after_next f g h (inl a) (inr b) = let e : g.0 ≡ h.0 = b.0 in inl (omega arith)
not_after_next f g h (inr a) (inl b) = let e : f.0 ≡ g.0 = a.0 in inl (omega arith)
not_after_next f g h (inr a) (inr b) =
    let e : number_of f.1 ≤ number_of g.1 = a.1 in
    let i : number_of g.1 ≤ number_of h.1 = b.1 in
    inr (a.0 ∙ b.0, omega arith)

tests : (a b c d : ℕ) → ((nat_lt a b || (nat_eq a b && nat_lt c d)) ≡ true → (a < b) ⊎ ((a ≡ b) × (c ≤ d)))
    × ((nat_lt a b || (nat_eq a b && nat_lt c d)) ≡ false → (b < a) ⊎ ((b ≡ a) × (d ≤ c)))
tests a b c d = (λ e. yes (nat_lt a b) (nat_eq a b) (nat_lt c d) refl refl refl e, λ e. no (nat_lt a b) (nat_eq a b) (nat_lt c d) refl refl refl e)
  where
    lt : nat_lt a b ≡ true → a < b
    lt e = grind (arith, nat_tests)

    eq : nat_eq a b ≡ true → a ≡ b
    eq e = grind (arith, nat_tests)

    less : nat_lt c d ≡ true → c ≤ d
    less e = grind (arith, nat_tests)

    not_less : nat_lt c d ≡ false → d ≤ c
    not_less e = grind (arith, nat_tests)

    after : nat_lt a b ≡ false → nat_eq a b ≡ false → b < a
    after e f = grind (arith, nat_tests)

    yes : (x y z : Bool) → nat_lt a b ≡ x → nat_eq a b ≡ y → nat_lt c d ≡ z → (x || (y && z)) ≡ true →
        (a < b) ⊎ ((a ≡ b) × (c ≤ d))
    yes true y z e f g h = inl (lt e)
    yes false true true e f g h = inr (eq f, less g)
    yes false true false e f g h = absurd cc
    yes false false z e f g h = absurd cc

    no : (x y z : Bool) → nat_lt a b ≡ x → nat_eq a b ≡ y → nat_lt c d ≡ z → (x || (y && z)) ≡ false →
        (b < a) ⊎ ((b ≡ a) × (d ≤ c))
    no true y z e f g h = absurd cc
    no false true true e f g h = absurd cc
    no false true false e f g h = inr (sym (eq f), not_less g)
    no false false z e f g h = inl (after e f)

-- the earlier one of two
earlier_is : (f g : Finding) →
    ((earlier (Some f) g ≡ Some g) × NotAfter g f) ⊎ ((earlier (Some f) g ≡ Some f) × NotAfter f g)
earlier_is f g = by (is_before g f) refl
  where
    by : (b : Bool) → is_before g f ≡ b →
        (((if b then Some g else Some f) ≡ Some g) × NotAfter g f) ⊎ (((if b then Some g else Some f) ≡ Some f) × NotAfter f g)
    by true e = inl (refl, (tests g.0 f.0 (number_of g.1) (number_of f.1)).0 e)
    by false e = inr (refl, (tests g.0 f.0 (number_of g.1) (number_of f.1)).1 e)

-- the fault counts: a token decides it, or the text is at its end
abbrev pub Counts : Bool → Decided → Type 0
Counts ended d = (is_some d.by || ended) ≡ true

-- no fault of these counts, and none was found before
pub record NoneFound (ended : Bool) (best : Option Finding) (ds : List Decided) : Type 0 where
  pub before : best ≡ None
  pub none : (d : Decided) → Contains ds d → Counts ended d → ⊥

pub record Found (ended : Bool) (best : Option Finding) (ds : List Decided) (f : Finding) : Type 0 where
  pub among : (best ≡ Some f) ⊎ ((d : Decided) × Contains ds d × Counts ended d × (finding d ≡ f))
  pub before : (g : Finding) → best ≡ Some g → NotAfter f g
  pub least : (d : Decided) → Contains ds d → Counts ended d → NotAfter f (finding d)

abbrev pub Result : Bool → Option Finding → List Decided → Option Finding → Type 0
Result ended best ds None = NoneFound ended best ds
Result ended best ds (Some f) = Found ended best ds f

cases_in : (d x : Decided) (ds : List Decided) → Contains (x ∷ ds) d → (x ≡ d) ⊎ Contains ds d
cases_in d x ds h = elim (Contains-append_cases (x ∷ []) ds d h) [ inl i ↦ inl (only_in x d i) | inr i ↦ inr i ]

-- a fault that does not count
skipped : (ended : Bool) (best : Option Finding) (x : Decided) (ds : List Decided) (r : Option Finding) →
    (Counts ended x → ⊥) → Result ended best ds r → Result ended best (x ∷ ds) r
skipped ended best x ds None n h = record {
  before = h.before;
  none = λ d i c. elim (cases_in d x ds i) [ inl e ↦ n (subst (Counts ended) (sym e) c) | inr j ↦ h.none d j c ];
}
skipped ended best x ds (Some f) n h = record {
  among = elim h.among [ inl e ↦ inl e | inr k ↦ inr (k.0, later_in x k.0 ds k.1, k.2, k.3) ];
  before = h.before;
  least = λ d i c. elim (cases_in d x ds i) [
    | inl e ↦ absurd (n (subst (Counts ended) (sym e) c))
    | inr j ↦ h.least d j c
  ];
}

earlier_some : (best : Option Finding) (g : Finding) → earlier best g ≡ None → ⊥
earlier_some None g e = cc
earlier_some (Some f) g e = by (earlier_is f g)
  where
    by : ((earlier (Some f) g ≡ Some g) × NotAfter g f) ⊎ ((earlier (Some f) g ≡ Some f) × NotAfter f g) → ⊥
    by (inl h) = let i : Some g ≡ None = sym h.0 ∙ e in cc
    by (inr h) = let i : Some f ≡ None = sym h.0 ∙ e in cc

-- the first one is at least as early as what was found before, and as one more
earlier_least : (best : Option Finding) (x f : Finding) →
    ((g : Finding) → earlier best x ≡ Some g → NotAfter f g) → NotAfter f x × ((g : Finding) → best ≡ Some g → NotAfter f g)
earlier_least None x f h = (h x refl, λ g e. absurd cc)
earlier_least (Some b) x f h = by (earlier_is b x)
  where
    by : ((earlier (Some b) x ≡ Some x) × NotAfter x b) ⊎ ((earlier (Some b) x ≡ Some b) × NotAfter b x) →
        NotAfter f x × ((g : Finding) → Some b ≡ Some g → NotAfter f g)
    by (inl i) =
        (h x i.0, λ g e. let same : b ≡ g = cc in subst (NotAfter f) same (not_after_next f x b (h x i.0) i.1))
    by (inr i) =
        (not_after_next f b x (h b i.0) i.1, λ g e. let same : b ≡ g = cc in subst (NotAfter f) same (h b i.0))

earlier_one : (best : Option Finding) (x f : Finding) → earlier best x ≡ Some f → (best ≡ Some f) ⊎ (x ≡ f)
earlier_one None x f e = let same : x ≡ f = cc in inr same
earlier_one (Some b) x f e = by (earlier_is b x)
  where
    by : ((earlier (Some b) x ≡ Some x) × NotAfter x b) ⊎ ((earlier (Some b) x ≡ Some b) × NotAfter b x) →
        (Some b ≡ Some f) ⊎ (x ≡ f)
    by (inl i) = let j : Some x ≡ Some f = sym i.0 ∙ e in let same : x ≡ f = cc in inr same
    by (inr i) = inl (sym i.0 ∙ e)

-- one that counts: the first of it and the one before
added : (ended : Bool) (best : Option Finding) (x : Decided) (ds : List Decided) (r : Option Finding) →
    Counts ended x → Result ended (earlier best (finding x)) ds r → Result ended best (x ∷ ds) r
added ended best x ds None c h = absurd (earlier_some best (finding x) h.before)
added ended best x ds (Some f) c h =
    let l = earlier_least best (finding x) f h.before in
    record {
      among = elim h.among [
        | inl e ↦ elim (earlier_one best (finding x) f e) [ inl i ↦ inl i | inr i ↦ inr (x, first_in x ds, c, i) ]
        | inr k ↦ inr (k.0, later_in x k.0 ds k.1, k.2, k.3)
      ];
      before = l.1;
      least = λ d i k. elim (cases_in d x ds i) [
        | inl e ↦ subst (λ z. NotAfter f (finding z)) e l.0
        | inr j ↦ h.least d j k
      ];
    }

pub first_found : (ended : Bool) (best : Option Finding) (ds : List Decided) →
    Result ended best ds (first_among ended best ds)
first_found ended None [] = record { before = refl; none = λ d h c. none_in h }
first_found ended (Some f) [] = record {
  among = inl refl;
  before = λ g e. let same : f ≡ g = cc in subst (NotAfter f) same (not_after_self f);
  least = λ d h c. absurd (none_in h);
}
first_found ended best (x ∷ ds) = by (is_some x.by || ended) refl
    (first_found ended best ds) (first_found ended (earlier best (finding x)) ds)
  where
    by : (b : Bool) → (is_some x.by || ended) ≡ b → Result ended best ds (first_among ended best ds) →
        Result ended (earlier best (finding x)) ds (first_among ended (earlier best (finding x)) ds) →
        Result ended best (x ∷ ds) (first_among ended (if b then earlier best (finding x) else best) ds)
    by true e p q = added ended best x ds (first_among ended (earlier best (finding x)) ds) e q
    by false e p q = skipped ended best x ds (first_among ended best ds) (λ c. let f : true ≡ false = sym c ∙ e in cc) p
