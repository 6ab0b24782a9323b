-- One store of which a fact holds becomes another of which another fact holds: no solution is lost and none is new.
use Rattle.std.proofs.Common.{◌≡◌, ◌≢◌, ℕ, zero, suc, ◌<◌, ◌≤◌, List, [], ◌∷◌, ◌++◌, length, set, map, Bool, true, false, ◌⊎◌, inl, inr, refl, sym, ap, ◌∙◌, subst, arith, All, Contains}
use Rattle.std.specs.Prelude.{nat_eq}
use Rattle.std.proofs.lemmas.Bool.Decides.{nat_tests}
use Rattle.std.proofs.lemmas.Option.{unwrap_or-slice_get}
use Rattle.std.proofs.lemmas.List.{get_or-set_same, get_or-set_other, get_or_append_left, get_or_push, get_or_past, length-set}
use Rattle.std.proofs.lemmas.List.Elements.{All-head, All-tail, All-cons, All-nil, All-append, Contains-append_left, Contains-append_right, Contains-append_cases}
use Rattle.elm_type.specs.Types.{Name, Made, Record, Closed, Over, NoField, MoreField, Rigid, Kind, any_kind}
use Rattle.elm_type.specs.Classes.{Ground, meets}
use Rattle.elm_type.specs.Ground.{lacks, lacks_all, is_ground, fits}
use Rattle.type_store.specs.Store.{Slot, Store, slot_at, open_slot}
use Rattle.type_store.specs.Solutions.{Values, Meets, constant_of, constants_of, Renames, Fit, Ask, Same, InClass, Lacks, MeetsAsk, AgreeBelow, Becomes, Clash}
use Rattle.type_store.specs.Steps.{AskInside, kind_asks}
use Rattle.type_store.specs.Ends.{Turns}
use Rattle.type_store.proofs.RowsMeet.{and_left, and_right, and_both}

-- ---- Turns

pub agree_itself : (n : ℕ) (σ : Values) → AgreeBelow n σ σ
agree_itself n σ = record { types = λ v l. refl; constants = λ r. refl }

pub agree_chain : (m n : ℕ) (σ τ υ : Values) → m ≤ n → AgreeBelow m σ τ → AgreeBelow n τ υ → AgreeBelow m σ υ
agree_chain m n σ τ υ l a b = record {
  types = λ v h. a.types v h ∙ b.types v (omega arith);
  constants = λ r. a.constants r ∙ b.constants r;
}

pub chained : {P Q R : Values → Type 0} (a b c : Store) → Turns a P b Q → Turns b Q c R → Turns a P c R
chained a b c t u = record {
  grows = omega (arith, t.grows, u.grows);
  back = λ σ f q. (let m = u.back σ f q in t.back σ m.0 m.1);
  on = λ σ f p. (
      let g = t.on σ f p in
      let h = u.on g.values g.fit g.meet in
      record { values = h.values; agree = agree_chain (length a) (length b) σ g.values h.values t.grows g.agree h.agree; fit = h.fit; meet = h.meet });
}

pub stays : {P Q : Values → Type 0} (s : Store) → ((σ : Values) → Fit σ s → Q σ → P σ) → ((σ : Values) → Fit σ s → P σ → Q σ) → Turns s P s Q
stays s back on = record {
  grows = omega arith;
  back = λ σ f q. (f, back σ f q);
  on = λ σ f p. record { values = σ; agree = agree_itself (length s) σ; fit = f; meet = on σ f p };
}

pub becomes : (old new : Store) (asked left : List Ask) → Turns old (λ σ. All (MeetsAsk σ) asked) new (λ σ. All (MeetsAsk σ) left) → Becomes old asked new left
becomes old new asked left t = record {
  grows = t.grows;
  back = t.back;
  on = λ σ f p. (let g = t.on σ f p in record { values = g.values; agree = g.agree; fit = g.fit; meet = g.meet });
}

pub turns : (old new : Store) (asked left : List Ask) → Becomes old asked new left → Turns old (λ σ. All (MeetsAsk σ) asked) new (λ σ. All (MeetsAsk σ) left)
turns old new asked left t = record {
  grows = t.grows;
  back = t.back;
  on = λ σ f p. (let g = t.on σ f p in record { values = g.values; agree = g.agree; fit = g.fit; meet = g.meet });
}

pub becomes_chained : (a b c : Store) (asked mid left : List Ask) → Becomes a asked b mid → Becomes b mid c left → Becomes a asked c left
becomes_chained a b c asked mid left t u = becomes a c asked left (chained a b c (turns a b asked mid t) (turns b c mid left u))

-- ---- asks beside others

pub all_left : {X : Type 0} (P : X → Type 0) (xs ys : List X) → All P (xs ++ ys) → All P xs
all_left P [] ys h = All-nil P
all_left P (x ∷ xs) ys h = All-cons P x xs (All-head P x (xs ++ ys) h) (all_left P xs ys (All-tail P x (xs ++ ys) h))

pub all_right : {X : Type 0} (P : X → Type 0) (xs ys : List X) → All P (xs ++ ys) → All P ys
all_right P [] ys h = h
all_right P (x ∷ xs) ys h = all_right P xs ys (All-tail P x (xs ++ ys) h)

pub ask_same : (n : ℕ) (σ τ : Values) (a : Ask) → AgreeBelow n σ τ → AskInside n a → MeetsAsk σ a → MeetsAsk τ a
ask_same n σ τ (Same v w) g i m = sym (g.types v i.0) ∙ (m ∙ g.types w i.1)
ask_same n σ τ (InClass v c) g i m = subst (λ t. meets c t ≡ true) (g.types v i) m
ask_same n σ τ (Lacks v x) g i m = subst (λ t. lacks x t ≡ true) (g.types v i) m

pub asks_same : (n : ℕ) (σ τ : Values) (as_ : List Ask) → AgreeBelow n σ τ → All (AskInside n) as_ → All (MeetsAsk σ) as_ → All (MeetsAsk τ) as_
asks_same n σ τ [] g i m = All-nil (MeetsAsk τ)
asks_same n σ τ (a ∷ as_) g i m =
    All-cons (MeetsAsk τ) a as_ (ask_same n σ τ a g (All-head (AskInside n) a as_ i) (All-head (MeetsAsk σ) a as_ m)) (asks_same n σ τ as_ g (All-tail (AskInside n) a as_ i) (All-tail (MeetsAsk σ) a as_ m))

-- a step for some asks is one for these beside others
pub framed : (old new : Store) (asked left rest : List Ask) → All (AskInside (length old)) rest → Becomes old asked new left → Becomes old (asked ++ rest) new (left ++ rest)
framed old new asked left rest i t = record {
  grows = t.grows;
  back = λ σ f q. (
      let b = t.back σ f (all_left (MeetsAsk σ) left rest q) in
      (b.0, All-append (MeetsAsk σ) asked rest b.1 (all_right (MeetsAsk σ) left rest q)));
  on = λ σ f p. (
      let g = t.on σ f (all_left (MeetsAsk σ) asked rest p) in
      record {
        values = g.values;
        agree = g.agree;
        fit = g.fit;
        meet = All-append (MeetsAsk g.values) left rest g.meet (asks_same (length old) σ g.values rest g.agree i (all_right (MeetsAsk σ) asked rest p));
      });
}

pub framed_before : (old new : Store) (rest asked left : List Ask) → All (AskInside (length old)) rest → Becomes old asked new left → Becomes old (rest ++ asked) new (rest ++ left)
framed_before old new rest asked left i t = record {
  grows = t.grows;
  back = λ σ f q. (
      let b = t.back σ f (all_right (MeetsAsk σ) rest left q) in
      (b.0, All-append (MeetsAsk σ) rest asked (all_left (MeetsAsk σ) rest left q) b.1));
  on = λ σ f p. (
      let g = t.on σ f (all_right (MeetsAsk σ) rest asked p) in
      record {
        values = g.values;
        agree = g.agree;
        fit = g.fit;
        meet = All-append (MeetsAsk g.values) rest left (asks_same (length old) σ g.values rest g.agree i (all_left (MeetsAsk σ) rest asked p)) g.meet;
      });
}

pub clash_framed : (s : Store) (rest asked : List Ask) → Clash s asked → Clash s (rest ++ asked)
clash_framed s rest asked c = record { never = λ σ f m. c.never σ f (all_right (MeetsAsk σ) rest asked m) }

pub clash_beside : (s : Store) (asked rest : List Ask) → Clash s asked → Clash s (asked ++ rest)
clash_beside s asked rest c = record { never = λ σ f m. c.never σ f (all_left (MeetsAsk σ) asked rest m) }

-- what clashes after a step clashed before it
pub clash_before : (old new : Store) (asked left : List Ask) → Becomes old asked new left → Clash new left → Clash old asked
clash_before old new asked left t c = record { never = λ σ f m. (let g = t.on σ f m in c.never g.values g.fit g.meet) }

pub one_ask : (σ : Values) (a : Ask) → MeetsAsk σ a → All (MeetsAsk σ) (a ∷ [])
one_ask σ a m = All-cons (MeetsAsk σ) a [] m (All-nil (MeetsAsk σ))

-- ---- a kind, asked

pub lacks_to_asks : (σ : Values) (v : ℕ) (xs : List Name) → lacks_all xs (σ.types v) ≡ true → All (MeetsAsk σ) (map (Lacks v) xs)
lacks_to_asks σ v [] e = All-nil (MeetsAsk σ)
lacks_to_asks σ v (x ∷ xs) e =
    All-cons (MeetsAsk σ) (Lacks v x) (map (Lacks v) xs) (and_left (lacks x (σ.types v)) (lacks_all xs (σ.types v)) e) (lacks_to_asks σ v xs (and_right (lacks x (σ.types v)) (lacks_all xs (σ.types v)) e))

pub lacks_from_asks : (σ : Values) (v : ℕ) (xs : List Name) → All (MeetsAsk σ) (map (Lacks v) xs) → lacks_all xs (σ.types v) ≡ true
lacks_from_asks σ v [] h = refl
lacks_from_asks σ v (x ∷ xs) h =
    and_both (lacks x (σ.types v)) (lacks_all xs (σ.types v)) (All-head (MeetsAsk σ) (Lacks v x) (map (Lacks v) xs) h) (lacks_from_asks σ v xs (All-tail (MeetsAsk σ) (Lacks v x) (map (Lacks v) xs) h))

pub kind_to_asks : (σ : Values) (v : ℕ) (k : Kind) → fits k (σ.types v) ≡ true → All (MeetsAsk σ) (kind_asks v k)
kind_to_asks σ v k e =
    All-cons (MeetsAsk σ) (InClass v k.class) (map (Lacks v) k.lacks) (and_left (meets k.class (σ.types v)) (lacks_all k.lacks (σ.types v)) e) (lacks_to_asks σ v k.lacks (and_right (meets k.class (σ.types v)) (lacks_all k.lacks (σ.types v)) e))

pub kind_from_asks : (σ : Values) (v : ℕ) (k : Kind) → All (MeetsAsk σ) (kind_asks v k) → fits k (σ.types v) ≡ true
kind_from_asks σ v k h =
    and_both (meets k.class (σ.types v)) (lacks_all k.lacks (σ.types v)) (All-head (MeetsAsk σ) (InClass v k.class) (map (Lacks v) k.lacks) h) (lacks_from_asks σ v k.lacks (All-tail (MeetsAsk σ) (InClass v k.class) (map (Lacks v) k.lacks) h))

pub any_fits : (t : Ground) → fits any_kind t ≡ true
any_fits (Made h ts) = refl
any_fits (Record NoField Closed) = refl
any_fits (Record NoField (Over r)) = refl
any_fits (Record (MoreField k t fs) e) = refl

pub open_meets : (σ : Values) (t : Ground) → is_ground t ≡ true → Meets σ open_slot t
open_meets σ t g = record { cell = tt; kind = any_fits t; ground = g }

-- ---- slots

pub slot_same : (s : Store) (v : ℕ) (slot : Slot) → v < length s → slot_at (set s v slot) v ≡ slot
slot_same s v slot l = unwrap_or-slice_get (set s v slot) v open_slot ∙ get_or-set_same s v slot open_slot l

pub slot_other : (s : Store) (v w : ℕ) (slot : Slot) → w ≢ v → slot_at (set s v slot) w ≡ slot_at s w
slot_other s v w slot n = unwrap_or-slice_get (set s v slot) w open_slot ∙ (get_or-set_other s v w slot open_slot n ∙ sym (unwrap_or-slice_get s w open_slot))

pub slot_pushed : (s : Store) (slot : Slot) → slot_at (s ++ slot ∷ []) (length s) ≡ slot
slot_pushed s slot = unwrap_or-slice_get (s ++ slot ∷ []) (length s) open_slot ∙ get_or_push s slot open_slot (length s) refl

pub slot_before : (s : Store) (slot : Slot) (w : ℕ) → w < length s → slot_at (s ++ slot ∷ []) w ≡ slot_at s w
slot_before s slot w l = unwrap_or-slice_get (s ++ slot ∷ []) w open_slot ∙ (get_or_append_left s (slot ∷ []) open_slot w l ∙ sym (unwrap_or-slice_get s w open_slot))

pub slot_past : (s : Store) (w : ℕ) → length s ≤ w → slot_at s w ≡ open_slot
slot_past s w l = unwrap_or-slice_get s w open_slot ∙ get_or_past s w open_slot l

-- two numbers are the same, or not
pub data Which (v w : ℕ) : Type 0 where
  Yes : v ≡ w → Which v w
  Not : v ≢ w → Which v w

pub which : (v w : ℕ) → Which v w
which v w = go (nat_eq v w) refl
  where
    go : (b : Bool) → nat_eq v w ≡ b → Which v w
    go true e = Yes (grind (arith, nat_tests))
    go false e = Not (λ s. (let f : nat_eq w w ≡ true = grind (arith, nat_tests) in let g : nat_eq w w ≡ false = subst (λ x. nat_eq x w ≡ false) s e in cc))

-- ---- constants

pub renames_fewer : (xs ys : List Rigid) (f : Rigid → Rigid) → ((r : Rigid) → Contains ys r → Contains xs r) → Renames xs f → Renames ys f
renames_fewer xs ys f h r = record { class = r.class; lacks = r.lacks; apart = λ a b i j. r.apart a b (h a i) (h b j) }

-- the same constants stand in both
pub record SameConstants (s t : Store) : Type 0 where
  pub there : (r : Rigid) → Contains (constants_of s) r → Contains (constants_of t) r
  pub back : (r : Rigid) → Contains (constants_of t) r → Contains (constants_of s) r

pub constant_at : (s : Store) (v : ℕ) (r : Rigid) → Contains (constant_of (slot_at s v).cell) r → Contains (constants_of s) r
constant_at [] v r h = h
constant_at (x ∷ s) zero r h = Contains-append_left (constant_of x.cell) (constants_of s) r h
constant_at (x ∷ s) (suc v) r h = Contains-append_right (constant_of x.cell) (constants_of s) r (constant_at s v r h)

constant_kept : (s : Store) (v : ℕ) (slot : Slot) (r : Rigid) → Contains (constants_of s) r → Contains (constant_of (slot_at s v).cell) r ⊎ Contains (constants_of (set s v slot)) r
constant_kept [] v slot r h = inl h
constant_kept (x ∷ s) zero slot r h = elim (Contains-append_cases (constant_of x.cell) (constants_of s) r h) [
  | inl a ↦ inl a
  | inr b ↦ inr (Contains-append_right (constant_of slot.cell) (constants_of s) r b)
]
constant_kept (x ∷ s) (suc v) slot r h = elim (Contains-append_cases (constant_of x.cell) (constants_of s) r h) [
  | inl a ↦ inr (Contains-append_left (constant_of x.cell) (constants_of (set s v slot)) r a)
  | inr b ↦ elim (constant_kept s v slot r b) [
    | inl c ↦ inl c
    | inr d ↦ inr (Contains-append_right (constant_of x.cell) (constants_of (set s v slot)) r d)
  ]
]

constant_set : (s : Store) (v : ℕ) (slot : Slot) (r : Rigid) → Contains (constants_of (set s v slot)) r → Contains (constant_of slot.cell) r ⊎ Contains (constants_of s) r
constant_set [] v slot r h = inr h
constant_set (x ∷ s) zero slot r h = elim (Contains-append_cases (constant_of slot.cell) (constants_of s) r h) [
  | inl a ↦ inl a
  | inr b ↦ inr (Contains-append_right (constant_of x.cell) (constants_of s) r b)
]
constant_set (x ∷ s) (suc v) slot r h = elim (Contains-append_cases (constant_of x.cell) (constants_of (set s v slot)) r h) [
  | inl a ↦ inr (Contains-append_left (constant_of x.cell) (constants_of s) r a)
  | inr b ↦ elim (constant_set s v slot r b) [
    | inl c ↦ inl c
    | inr d ↦ inr (Contains-append_right (constant_of x.cell) (constants_of s) r d)
  ]
]

-- the constant that is written over stands elsewhere, and the one that is written stood there
pub constants_set : (s : Store) (v : ℕ) (slot : Slot)
    → ((r : Rigid) → Contains (constant_of (slot_at s v).cell) r → Contains (constants_of (set s v slot)) r)
    → ((r : Rigid) → Contains (constant_of slot.cell) r → Contains (constants_of s) r)
    → SameConstants s (set s v slot)
constants_set s v slot a b = record {
  there = λ r h. elim (constant_kept s v slot r h) [ inl c ↦ a r c | inr d ↦ d ];
  back = λ r h. elim (constant_set s v slot r h) [ inl c ↦ b r c | inr d ↦ d ];
}

pub no_constant : (xs : List Rigid) (r : Rigid) → xs ≡ [] → Contains xs r → ⊥
no_constant xs r e h = go (subst (λ ys. Contains ys r) e h)
  where
    go : Contains [] r → ⊥
    go c = omega (arith, c.1)

-- no constant is written over, and none is written
pub no_constants_set : (s : Store) (v : ℕ) (slot : Slot) → constant_of (slot_at s v).cell ≡ [] → constant_of slot.cell ≡ [] → SameConstants s (set s v slot)
no_constants_set s v slot a b = constants_set s v slot (λ r h. absurd (no_constant (constant_of (slot_at s v).cell) r a h)) (λ r h. absurd (no_constant (constant_of slot.cell) r b h))

-- the same cell is written again, or that of another variable
pub constants_same : (s : Store) (v w : ℕ) (slot : Slot) → v < length s → constant_of slot.cell ≡ constant_of (slot_at s w).cell → (constant_of (slot_at s v).cell ≡ []) ⊎ (w ≡ v) → SameConstants s (set s v slot)
constants_same s v w slot l e c = constants_set s v slot
    (λ r h. go r h c)
    (λ r h. constant_at s w r (subst (λ xs. Contains xs r) e h))
  where
    go : (r : Rigid) → Contains (constant_of (slot_at s v).cell) r → (constant_of (slot_at s v).cell ≡ []) ⊎ (w ≡ v) → Contains (constants_of (set s v slot)) r
    go r h (inl n) = absurd (no_constant (constant_of (slot_at s v).cell) r n h)
    go r h (inr q) = constant_at (set s v slot) v r (
        let here : constant_of (slot_at (set s v slot) v).cell ≡ constant_of slot.cell = ap (λ (x : Slot). constant_of x.cell) (slot_same s v slot l) in
        subst (λ xs. Contains xs r) (sym (here ∙ (e ∙ ap (λ x. constant_of (slot_at s x).cell) q))) h)

-- a constant is written over that another variable has too
pub constants_left : (s : Store) (v w : ℕ) (slot : Slot) → w ≢ v → constant_of slot.cell ≡ [] → constant_of (slot_at s v).cell ≡ constant_of (slot_at s w).cell → SameConstants s (set s v slot)
constants_left s v w slot n a b = constants_set s v slot
    (λ r h. constant_at (set s v slot) w r (subst (λ xs. Contains xs r) (b ∙ sym (ap (λ (x : Slot). constant_of x.cell) (slot_other s v w slot n))) h))
    (λ r h. absurd (no_constant (constant_of slot.cell) r a h))

-- ---- one slot is written

pub fit_set : (σ : Values) (s : Store) (v : ℕ) (slot : Slot) → v < length s → SameConstants s (set s v slot) → Fit σ s → Meets σ slot (σ.types v) → Fit σ (set s v slot)
fit_set σ s v slot l c f m = record {
  renames = renames_fewer (constants_of s) (constants_of (set s v slot)) σ.constants c.back f.renames;
  each = λ w. go w (which w v);
}
  where
    go : (w : ℕ) → Which w v → Meets σ (slot_at (set s v slot) w) (σ.types w)
    go w (Yes e) = subst (λ x. Meets σ (slot_at (set s v slot) x) (σ.types x)) (sym e) (subst (λ (x : Slot). Meets σ x (σ.types v)) (sym (slot_same s v slot l)) m)
    go w (Not n) = subst (λ (x : Slot). Meets σ x (σ.types w)) (sym (slot_other s v w slot n)) (f.each w)

pub fit_unset : (σ : Values) (s : Store) (v : ℕ) (slot : Slot) → SameConstants s (set s v slot) → Fit σ (set s v slot) → Meets σ (slot_at s v) (σ.types v) → Fit σ s
fit_unset σ s v slot c f m = record {
  renames = renames_fewer (constants_of (set s v slot)) (constants_of s) σ.constants c.there f.renames;
  each = λ w. go w (which w v);
}
  where
    go : (w : ℕ) → Which w v → Meets σ (slot_at s w) (σ.types w)
    go w (Yes e) = subst (λ x. Meets σ (slot_at s x) (σ.types x)) (sym e) m
    go w (Not n) = subst (λ (x : Slot). Meets σ x (σ.types w)) (slot_other s v w slot n) (f.each w)

pub exchanged : {P Q : Values → Type 0} (s : Store) (v : ℕ) (slot : Slot) → v < length s → SameConstants s (set s v slot)
    → ((σ : Values) → Fit σ (set s v slot) → Q σ → Meets σ (slot_at s v) (σ.types v) × P σ)
    → ((σ : Values) → Fit σ s → P σ → Meets σ slot (σ.types v) × Q σ)
    → Turns s P (set s v slot) Q
exchanged s v slot l c back on = record {
  grows = omega (arith, length-set s v slot);
  back = λ σ f q. (let b = back σ f q in (fit_unset σ s v slot c f b.0, b.1));
  on = λ σ f p. (
      let o = on σ f p in
      record { values = σ; agree = agree_itself (length s) σ; fit = fit_set σ s v slot l c f o.0; meet = o.1 });
}

-- what is written in the new store is met there
pub met_at : (σ : Values) (s : Store) (v : ℕ) (slot : Slot) → v < length s → Fit σ (set s v slot) → Meets σ slot (σ.types v)
met_at σ s v slot l f = subst (λ (x : Slot). Meets σ x (σ.types v)) (slot_same s v slot l) (f.each v)
