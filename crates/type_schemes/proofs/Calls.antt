-- The constants of a definition, as the program makes them and lets them go.
use Rattle.std.proofs.Common.{◌≡◌, ℕ, zero, suc, ◌+◌, ◌<◌, ◌≤◌, List, [], ◌∷◌, ◌++◌, length, take, drop, get_or, true, false, inl, inr, refl, sym, ap, ◌∙◌, subst, arith}
use Rattle.std.specs.Prelude.{◌⊎◌}
use Rattle.std.specs.List.{All, AllByRecursion, Contains}
use Rattle.std.proofs.lemmas.List.{length_push, length-set}
use Rattle.std.proofs.lemmas.List.Elements.{All-nil, All-cons, All-weaker, All-append, All-get_or, Contains-get_or}
use Rattle.elm_type.specs.Types.{Rigid}
use Rattle.type_items.specs.Items.{Place}
use Rattle.type_store.specs.Store.{Constant, Store, slot_at}
use Rattle.type_store.specs.Solutions.{constants_of}
use Rattle.type_store.specs.Shape.{IsStore}
use Rattle.type_store.specs.Steps.{Leads, is_bound, put}
use Rattle.type_store.specs.Loosening.{IsLoosened, is_constant, let_go}
use Rattle.type_store.specs.Laws.{EachChoiceFits}
use Rattle.type_walks.specs.Regions.{only}
use Rattle.type_schemes.specs.Constants.{Own, rigids, Opened, IsFree, Distinct, Loosening}
use Rattle.type_schemes.specs.Calls.{owns, AreNew, Opens, own_slots, AreFree, CanLetGo, LetsGo}
use Rattle.type_schemes.proofs.Opening.{opens_none, opens_one_more, one_of}
use Rattle.type_schemes.proofs.Holding.{own_at}
use Rattle.type_schemes.proofs.LettingGo.{loosens_one_more, loosens_all, may_loosen}

-- ---- to make them

-- the first i were made
pub record OpenedSoFar (depth : ℕ) (list : List Rigid) (s : Store) (i : ℕ) (slots : List ℕ) (between : Store) : Type 0 where
  pub whole : IsStore between
  pub count : length slots ≡ i
  pub inside : All (λ v. v < length between) slots
  pub known : (r : Rigid) → Contains (constants_of between) r → Contains (constants_of s) r ⊎ Contains (take i list) r
  pub opened : (d : ℕ) (p : Place) → depth ≡ d + 1 → AllByRecursion (λ (r : Rigid). only p r.place ≡ true) list
      → Opened d p s (owns (take i list) slots) between

pub opened_first : (depth : ℕ) (list : List Rigid) (s : Store) → IsStore s → OpenedSoFar depth list s 0 [] s
opened_first depth list s whole = record {
  whole = whole;
  count = refl;
  inside = All-nil (λ v. v < length s);
  known = λ r h. inl h;
  opened = λ d p e h. opens_none d p s;
}

-- one more of two lists
owns_pushed : (list : List Rigid) (slots : List ℕ) (i : ℕ) (d : Rigid) (v : ℕ) → length slots ≡ i → i < length list
    → owns (take (suc i) list) (slots ++ v ∷ []) ≡ owns (take i list) slots ++ record { rigid = get_or list i d; slot = v } ∷ []
owns_pushed [] slots i d v e l = absurd (omega arith)
owns_pushed (r ∷ rs) [] zero d v e l = refl
owns_pushed (r ∷ rs) [] (suc i) d v e l = absurd (omega (arith, e))
owns_pushed (r ∷ rs) (x ∷ xs) zero d v e l = absurd (omega (arith, e))
owns_pushed (r ∷ rs) (x ∷ xs) (suc i) d v e l = ap (λ (os : List Own). record { rigid = r; slot = x } ∷ os) (owns_pushed rs xs i d v (omega (arith, e)) (omega (arith, l)))

taken_more : (list : List Rigid) (i : ℕ) (d r : Rigid) → i < length list → Contains (take i list) r ⊎ (r ≡ get_or list i d) → Contains (take (suc i) list) r
taken_more [] i d r l h = absurd (omega arith)
taken_more (x ∷ xs) zero d r l (inl h) = absurd (omega arith)
taken_more (x ∷ xs) zero d r l (inr e) = (0, omega arith, sym e)
taken_more (x ∷ xs) (suc i) d r l (inl (zero, k, e)) = (0, omega arith, e)
taken_more (x ∷ xs) (suc i) d r l (inl (suc m, k, e)) =
    let t = taken_more xs i d r (omega (arith, l)) (inl (m, omega (arith, k), e)) in
    (suc t.0, omega (arith, t.1), t.2)
taken_more (x ∷ xs) (suc i) d r l (inr e) =
    let t = taken_more xs i d r (omega (arith, l)) (inr e) in
    (suc t.0, omega (arith, t.1), t.2)

-- one of a list is not among those before it
pub before_distinct : (list : List Rigid) (i : ℕ) (d : Rigid) → Distinct list → i < length list → Contains (take i list) (get_or list i d) → ⊥
before_distinct [] i d h l c = omega arith
before_distinct (x ∷ xs) zero d h l (k, m, e) = omega arith
before_distinct (x ∷ xs) (suc i) d h l (zero, m, e) = h.0 (subst (Contains xs) (sym e) (Contains-get_or xs i d (omega (arith, l))))
before_distinct (x ∷ xs) (suc i) d h l (suc k, m, e) = before_distinct xs i d h.1 (omega (arith, l)) (k, omega (arith, m), e)

by_place : (P : Rigid → Type 0) (list : List Rigid) (i : ℕ) (d : Rigid) → AllByRecursion P list → i < length list → P (get_or list i d)
by_place P [] i d h l = absurd (omega arith)
by_place P (x ∷ xs) zero d h l = h.0
by_place P (x ∷ xs) (suc i) d h l = by_place P xs i d h.1 (omega (arith, l))

-- the next one is new
pub next_new : (depth : ℕ) (list : List Rigid) (s : Store) (i : ℕ) (slots : List ℕ) (between : Store) (r : Rigid) → OpenedSoFar depth list s i slots between
    → AreNew s list → Distinct list → i < length list → r ≡ get_or list i r → Contains (constants_of between) r → ⊥
next_new depth list s i slots between r m new distinct l e h = go (m.known r h)
  where
    go : Contains (constants_of s) r ⊎ Contains (take i list) r → ⊥
    go (inl x) = by_place (λ t. Contains (constants_of s) t → ⊥) list i r new l (subst (Contains (constants_of s)) e x)
    go (inr x) = before_distinct list i r distinct l (subst (Contains (take i list)) e x)

pub opened_next : (depth : ℕ) (list : List Rigid) (s : Store) (i : ℕ) (slots more : List ℕ) (between after : Store) (r : Rigid) (v : ℕ)
    → OpenedSoFar depth list s i slots between → i < length list → r ≡ get_or list i r → IsStore after → v ≡ length between
    → after ≡ between ++ put (Constant r) depth ∷ [] → more ≡ slots ++ v ∷ [] → OpenedSoFar depth list s (suc i) more after
opened_next depth list s i slots more between after r v m l e whole number made pushed = record {
  whole = whole;
  count = ap length pushed ∙ (length_push slots v ∙ omega (arith, m.count));
  inside = subst (All (λ u. u < length after)) (sym pushed)
      (All-append (λ u. u < length after) slots (v ∷ [])
      (All-weaker (λ u. u < length between) (λ u. u < length after) (λ u k. omega (arith, k, longer)) slots m.inside)
      (All-cons (λ u. u < length after) v [] (omega (arith, number, longer)) (All-nil (λ u. u < length after))));
  known = λ t h. known_now t (one_of depth between r t (subst (λ z. Contains (constants_of z) t) made h));
  opened = λ d p q here. opened_now d p q here;
}
  where
    longer : length after ≡ length between + 1
    longer = ap length made ∙ length_push between (put (Constant r) depth)

    known_now : (t : Rigid) → Contains (constants_of between) t ⊎ (t ≡ r) → Contains (constants_of s) t ⊎ Contains (take (suc i) list) t
    known_now t (inl x) = old (m.known t x)
      where
        old : Contains (constants_of s) t ⊎ Contains (take i list) t → Contains (constants_of s) t ⊎ Contains (take (suc i) list) t
        old (inl a) = inl a
        old (inr b) = inr (taken_more list i r t l (inl b))
    known_now t (inr x) = inr (taken_more list i r t l (inr (x ∙ e)))

    opened_now : (d : ℕ) (p : Place) → depth ≡ d + 1 → AllByRecursion (λ (x : Rigid). only p x.place ≡ true) list → Opened d p s (owns (take (suc i) list) more) after
    opened_now d p q here =
        let at : only p r.place ≡ true = subst (λ (x : Rigid). only p x.place ≡ true) (sym e) (by_place (λ (x : Rigid). only p x.place ≡ true) list i r here l) in
        let one = opens_one_more d p s between after (owns (take i list) slots) r v m.whole (m.opened d p q here) at number
        (made ∙ ap (λ n. between ++ put (Constant r) n ∷ []) q) in
        let is : owns (take (suc i) list) more ≡ owns (take i list) slots ++ record { rigid = r; slot = v } ∷ [] =
        ap (owns (take (suc i) list)) pushed ∙ (owns_pushed list slots i r v m.count l ∙ ap (λ x. owns (take i list) slots ++ record { rigid = x; slot = v } ∷ []) (sym e)) in
        subst (λ os. Opened d p s os after) (sym is) one

pub taken_all : {X : Type 0} (xs : List X) (n : ℕ) → length xs ≤ n → take n xs ≡ xs
taken_all [] zero l = refl
taken_all [] (suc n) l = refl
taken_all (x ∷ xs) zero l = absurd (omega arith)
taken_all (x ∷ xs) (suc n) l = ap (λ ys. x ∷ ys) (taken_all xs n (omega (arith, l)))

pub opened_last : (depth : ℕ) (list : List Rigid) (s : Store) (i : ℕ) (slots : List ℕ) (after : Store) → OpenedSoFar depth list s i slots after → i ≡ length list
    → take i list ≡ list → Opens depth list s slots after
opened_last depth list s i slots after m e all = record {
  whole = m.whole;
  count = m.count ∙ e;
  inside = m.inside;
  opened = λ d p q here. subst (λ rs. Opened d p s (owns rs slots) after) all (m.opened d p q here);
}

-- ---- to let them go

pub record GoneSoFar (s : Store) (slots : List ℕ) (i : ℕ) (between : Store) : Type 0 where
  pub whole : IsStore between
  pub count : length between ≡ length s
  pub gone : (d : ℕ) (p : Place) (own : List Own) → AreFree d p own s slots → Loosening d p (drop i own) s between

pub gone_first : (s : Store) (slots : List ℕ) → IsStore s → GoneSoFar s slots 0 s
gone_first s slots whole = record { whole = whole; count = refl; gone = λ d p own f. f.all }

slot_count : (own : List Own) (slots : List ℕ) → own_slots own ≡ slots → length own ≡ length slots
slot_count own slots e = go own ∙ ap length e
  where
    go : (own : List Own) → length own ≡ length (own_slots own)
    go [] = refl
    go (o ∷ os) = ap suc (go os)

-- the one at a place, and those after it
record Next (own : List Own) (i : ℕ) : Type 0 where
  pub one : Own
  pub is : drop i own ≡ one ∷ drop (suc i) own
  pub inside : Contains own one
  pub slot : (d : ℕ) → get_or (own_slots own) i d ≡ one.slot

next_own : (own : List Own) (i : ℕ) → i < length own → Next own i
next_own [] i l = absurd (omega arith)
next_own (o ∷ os) zero l = record { one = o; is = refl; inside = (0, omega arith, refl); slot = λ d. refl }
next_own (o ∷ os) (suc i) l =
    let n = next_own os i (omega (arith, l)) in
    record { one = n.one; is = n.is; inside = (suc n.inside.0, omega (arith, n.inside.1), n.inside.2); slot = n.slot }

distinct_after : (own : List Own) (i : ℕ) (o : Own) (rest : List Own) → Distinct (rigids own) → drop i own ≡ o ∷ rest → Contains (rigids rest) o.rigid → ⊥
distinct_after [] zero o rest h e c = (cc)
distinct_after [] (suc i) o rest h e c = (cc)
distinct_after (x ∷ xs) zero o rest h e c =
    let a : x ≡ o = cc in
    let b : xs ≡ rest = cc in
    h.0 (subst (λ (y : Own). Contains (rigids xs) y.rigid) (sym a) (subst (λ (ys : List Own). Contains (rigids ys) o.rigid) (sym b) c))
distinct_after (x ∷ xs) (suc i) o rest h e c = distinct_after xs i o rest h.1 e c

module _ (choice_fits : EachChoiceFits) (s : Store) (slots : List ℕ) (i : ℕ) (between : Store) (root v : ℕ) (whole : IsStore s) (m : GoneSoFar s slots i between)
    (l : i < length slots) (at : v ≡ get_or slots i v) (leads : Leads between v root) (ends : is_bound (slot_at between root).cell ≡ false) where
  module _ (d : ℕ) (p : Place) (own : List Own) (f : AreFree d p own s slots) where
    next : Next own i
    next = next_own own i (omega (arith, l, slot_count own slots f.are))

    abbrev o : Own
    o = next.one

    slot_is : v ≡ o.slot
    slot_is = at ∙ (ap (λ (xs : List ℕ). get_or xs i v) (sym f.are) ∙ next.slot v)

    leads_own : Leads between o.slot root
    leads_own = subst (λ u. Leads between u root) slot_is leads

    so_far : Loosening d p (o ∷ drop (suc i) own) s between
    so_far = subst (λ os. Loosening d p os s between) next.is (m.gone d p own f)

    held : (slot_at between root).cell ≡ Constant o.rigid
    held = may_loosen choice_fits d p own (drop (suc i) own) o s between root whole f.have next.inside so_far leads_own ends

    gone_more : (after : Store) → IsLoosened between root after → root < length between → Loosening d p (drop (suc i) own) s after
    gone_more after loose there =
        loosens_one_more choice_fits d p own (drop (suc i) own) o s between after root whole f.have next.inside
        (own_at (λ (x : Own). only p x.rigid.place ≡ true) own o f.here next.inside)
        (distinct_after own i o (drop (suc i) own) f.distinct next.is)
        (subst (IsFree d s) slot_is (subst (IsFree d s) (sym at) (All-get_or (IsFree d s) slots i v l f.free)))
        so_far leads_own ends loose there

  pub is_held : CanLetGo s slots → is_constant (slot_at between root).cell ≡ true
  is_held c = ap is_constant (held c.depth c.place c.own c.free)

  pub gone_next : (after : Store) → IsStore after → IsLoosened between root after → root < length between → GoneSoFar s slots (suc i) after
  gone_next after w loose there = record {
    whole = w;
    count = ap length loose.now ∙ (length-set between root (let_go (slot_at between root) loose.rigid) ∙ m.count);
    gone = λ d p own f. gone_more d p own f after loose there;
  }

dropped_all : (own : List Own) (n : ℕ) → n ≡ length own → drop n own ≡ []
dropped_all own n e = ap (λ k. drop k own) e ∙ all own
  where
    all : (own : List Own) → drop (length own) own ≡ []
    all [] = refl
    all (o ∷ os) = all os

pub gone_last : (s : Store) (slots : List ℕ) (i : ℕ) (after : Store) → GoneSoFar s slots i after → i ≡ length slots → LetsGo s slots after
gone_last s slots i after m e = record {
  whole = m.whole;
  gone = λ d p own f. loosens_all d p s after
      (subst (λ os. Loosening d p os s after) (dropped_all own i (e ∙ sym (slot_count own slots f.are))) (m.gone d p own f));
}
