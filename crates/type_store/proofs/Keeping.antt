-- What is known of variables stays known, or is asked; depths stay.
use Rattle.std.proofs.Common.{◌≡◌, ℕ, ◌<◌, ◌≤◌, List, [], ◌∷◌, ◌++◌, length, set, map, Bool, true, false, Some, None, inl, inr, ⊎_elim, refl, sym, ap, ◌∙◌, subst, arith}
use Rattle.std.specs.List.{Contains}
use Rattle.std.specs.Prelude.{◌||◌}
use Rattle.std.specs.Str.{bytes_eq}
use Rattle.std.proofs.lemmas.Bool.{cases_lt}
use Rattle.std.proofs.lemmas.List.{length-set, length_push}
use Rattle.std.proofs.lemmas.List.Elements.{All-weaker, All-nil, Contains-append_left, Contains-append_right, Contains-push_cases}
use Rattle.elm_type.specs.Types.{Name, Kind, any_kind}
use Rattle.elm_type.specs.Classes.{is_below}
use Rattle.elm_type.specs.declared.class.Class.{Class}
use Rattle.elm_type.specs.declared.class.Class.TheVariants.{Any, Number, Comparable, Appendable, CompAppend}
use Rattle.elm_type.specs.Ground.{contains}
use Rattle.type_store.specs.Store.{Cell, Open, Bound, Built, Row, Constant, Slot, Store, slot_at, field_names}
use Rattle.type_store.specs.Solutions.{Ask, Same, InClass, Lacks}
use Rattle.type_store.specs.Steps.{KeepsDepths, kind_asks, put}
use Rattle.type_store.specs.Spreading.{HasClass, HasLack, SpreadBut, EachSpread}
use Rattle.type_store.proofs.Names.{same_name}
use Rattle.type_store.proofs.Turns.{Which, Yes, Not, which, slot_same, slot_other, slot_pushed, slot_before}
use Rattle.type_store.proofs.Parts.{all_second, slot_past}
use Rattle.type_store.proofs.Spreading.{spread_on}

-- what is known of variables, or asked, stays so
pub record Keeps (s : Store) (before : List Ask) (t : Store) (after : List Ask) : Type 0 where
  pub classes : (w : ℕ) (c : Class) → HasClass s before w c → HasClass t after w c
  pub fields : (w : ℕ) (x : Name) → HasLack s before w x → HasLack t after w x

pub keeps_chained : (s t u : Store) (before mid after : List Ask) → Keeps s before t mid → Keeps t mid u after → Keeps s before u after
keeps_chained s t u before mid after a b = record {
  classes = λ w c h. b.classes w c (a.classes w c h);
  fields = λ w x h. b.fields w x (a.fields w x h);
}

-- the kinds are the same, and what was asked of a kind is asked
pub keeps_kinds : (s t : Store) (before after : List Ask) → ((w : ℕ) → (slot_at t w).kind ≡ (slot_at s w).kind)
    → ((w : ℕ) (d : Class) → Contains before (InClass w d) → Contains after (InClass w d))
    → ((w : ℕ) (x : Name) → Contains before (Lacks w x) → Contains after (Lacks w x)) → Keeps s before t after
keeps_kinds s t before after same classes lacks = record {
  classes = λ w c h b p q. h b (subst (λ (k : Kind). is_below b k.class ≡ true) (same w) p) (λ d r. q d (classes w d r));
  fields = λ w x h. ⊎_elim (λ k. inl (subst (λ (k : Kind). contains x k.lacks ≡ true) (sym (same w)) k)) (λ k. inr (lacks w x k)) h;
}

-- more is asked
pub keeps_more : (s : Store) (before more : List Ask) → Keeps s before s (before ++ more)
keeps_more s before more =
    keeps_kinds s s before (before ++ more) (λ w. refl) (λ w d. Contains-append_left before more (InClass w d)) (λ w x. Contains-append_left before more (Lacks w x))

no_class_same : (a b w : ℕ) (d : Class) → Same a b ≡ InClass w d → ⊥
no_class_same a b w d e = cc

no_lack_same : (a b w : ℕ) (x : Name) → Same a b ≡ Lacks w x → ⊥
no_lack_same a b w x e = cc

-- that two variables are the same says nothing of their kinds
pub keeps_less : (s : Store) (before : List Ask) (a b : ℕ) → Keeps s (before ++ Same a b ∷ []) s before
keeps_less s before a b = keeps_kinds s s (before ++ Same a b ∷ []) before (λ w. refl)
    (λ w d h. ⊎_elim (λ q. q) (λ e. absurd (no_class_same a b w d e)) (Contains-push_cases before (Same a b) (InClass w d) h))
    (λ w x h. ⊎_elim (λ q. q) (λ e. absurd (no_lack_same a b w x e)) (Contains-push_cases before (Same a b) (Lacks w x) h))

pub below_any : (b : Class) → is_below b Any ≡ true
below_any Any = refl
below_any Number = refl
below_any Comparable = refl
below_any Appendable = refl
below_any CompAppend = refl

-- what any variable has
pub any_class : (s : Store) (work : List Ask) (w : ℕ) → HasClass s work w Any
any_class s work w b p q = below_any b

asked_or : (v : ℕ) (x y : Name) (ys : List Name) (b : Bool) → bytes_eq x y ≡ b → (contains x ys ≡ true → Contains (map (Lacks v) ys) (Lacks v x)) → (b || contains x ys) ≡ true
    → Contains (map (Lacks v) (y ∷ ys)) (Lacks v x)
asked_or v x y ys true q r h = (0, omega arith, ap (Lacks v) (sym (same_name x y q)))
asked_or v x y ys false q r h = Contains-append_right (Lacks v y ∷ []) (map (Lacks v) ys) (Lacks v x) (r h)

lack_asked : (v : ℕ) (x : Name) (xs : List Name) → contains x xs ≡ true → Contains (map (Lacks v) xs) (Lacks v x)
lack_asked v x [] e = absurd (let w : false ≡ true = e in cc)
lack_asked v x (y ∷ ys) e = asked_or v x y ys (bytes_eq x y) refl (lack_asked v x ys) e

-- a slot is written, and its kind is asked
module _ (s : Store) (v d : ℕ) (c : Cell) (before : List Ask) (l : v < length s) where
  abbrev put_in : Store
  put_in = set s v (put c d)

  abbrev kind_of : Kind
  kind_of = (slot_at s v).kind

  abbrev then_asked : List Ask
  then_asked = before ++ kind_asks v kind_of

  asked : (a : Ask) → Contains (kind_asks v kind_of) a → Contains then_asked a
  asked a = Contains-append_right before (kind_asks v kind_of) a

  here : (e : Class) → HasClass s before v e → HasClass put_in then_asked v e
  here e h b p q =
      h b (q kind_of.class (asked (InClass v kind_of.class) (0, omega arith, refl))) (λ x r. q x (Contains-append_left before (kind_asks v kind_of) (InClass v x) r))

  here_lack : (x : Name) → HasLack s before v x → HasLack put_in then_asked v x
  here_lack x (inl h) = inr (asked (Lacks v x) (Contains-append_right (InClass v kind_of.class ∷ []) (map (Lacks v) kind_of.lacks) (Lacks v x) (lack_asked v x kind_of.lacks h)))
  here_lack x (inr h) = inr (Contains-append_left before (kind_asks v kind_of) (Lacks v x) h)

  classes_at : (w : ℕ) → Which w v → (e : Class) → HasClass s before w e → HasClass put_in then_asked w e
  classes_at w (Yes q) e h = subst (λ u. HasClass put_in then_asked u e) (sym q) (here e (subst (λ u. HasClass s before u e) q h))
  classes_at w (Not n) e h =
      λ b p q. h b (subst (λ (x : Slot). is_below b x.kind.class ≡ true) (slot_other s v w (put c d) n) p) (λ x r. q x (Contains-append_left before (kind_asks v kind_of) (InClass w x) r))

  fields_at : (w : ℕ) → Which w v → (x : Name) → HasLack s before w x → HasLack put_in then_asked w x
  fields_at w (Yes q) x h = subst (λ u. HasLack put_in then_asked u x) (sym q) (here_lack x (subst (λ u. HasLack s before u x) q h))
  fields_at w (Not n) x (inl h) = inl (subst (λ (y : Slot). contains x y.kind.lacks ≡ true) (sym (slot_other s v w (put c d) n)) h)
  fields_at w (Not n) x (inr h) = inr (Contains-append_left before (kind_asks v kind_of) (Lacks w x) h)

  pub keeps_put : Keeps s before put_in then_asked
  keeps_put = record { classes = λ w. classes_at w (which w v); fields = λ w. fields_at w (which w v) }

-- a variable is made
pub keeps_made : (s : Store) (d : ℕ) (c : Cell) (before : List Ask) → Keeps s before (s ++ put c d ∷ []) before
keeps_made s d c before = keeps_kinds s (s ++ put c d ∷ []) before before (λ w. same w (which w (length s))) (λ w d h. h) (λ w x h. h)
  where
    same : (w : ℕ) → Which w (length s) → (slot_at (s ++ put c d ∷ []) w).kind ≡ (slot_at s w).kind
    same w (Yes e) =
        ap (λ u. (slot_at (s ++ put c d ∷ []) u).kind) e ∙ (ap (λ (x : Slot). x.kind) (slot_pushed s (put c d)) ∙
        sym (ap (λ (x : Slot). x.kind) (slot_past s w (omega (arith, e)))))
    same w (Not n) = ⊎_elim
        (λ l. ap (λ (x : Slot). x.kind) (slot_before s (put c d) w l))
        (λ h. ap (λ (x : Slot). x.kind) (slot_past (s ++ put c d ∷ []) w (omega (arith, h, n, length_push s (put c d)))) ∙ sym (ap (λ (x : Slot). x.kind) (slot_past s w h)))
        (cases_lt w (length s))

-- ---- each slot

-- of a cell whose kind is asked again nothing is said, but that the end of a row lacks its fields
pub put_spread : (s : Store) (work : List Ask) (k : Kind) (c : Cell) → SpreadBut s work k c → SpreadBut s work any_kind c
put_spread s work k Open h = tt
put_spread s work k (Bound w) h = (any_class s work w, All-nil (HasLack s work w))
put_spread s work k (Built f ws) h = (refl, tt)
put_spread s work k (Row fs None) h = (refl, All-weaker (λ x. contains x k.lacks ≡ false) (λ x. contains x [] ≡ false) (λ x p. refl) (field_names fs) h.1)
put_spread s work k (Row fs (Some w)) h = (
  refl,
  All-weaker (λ x. contains x k.lacks ≡ false) (λ x. contains x [] ≡ false) (λ x p. refl) (field_names fs) h.1,
  all_second (HasLack s work w) k.lacks (field_names fs) h.2,
)
put_spread s work k (Constant r) h = (below_any r.class, All-nil (λ x. contains x r.lacks ≡ true))

pub bound_spread : (s : Store) (work : List Ask) (a : ℕ) → SpreadBut s work any_kind (Bound a)
bound_spread s work a = (any_class s work a, All-nil (HasLack s work a))

module _ (s t : Store) (before after : List Ask) (keeps : Keeps s before t after) where
  pub spread_kept : (k : Kind) (c : Cell) → SpreadBut s before k c → SpreadBut t after k c
  spread_kept = spread_on s t before after keeps.classes keeps.fields

pub each_kept : (s : Store) (before after : List Ask) → Keeps s before s after → EachSpread s before → EachSpread s after
each_kept s before after keeps e v l = spread_kept s s before after keeps (slot_at s v).kind (slot_at s v).cell (e v l)

-- one slot is written
pub each_set : (s : Store) (before after : List Ask) (v : ℕ) (x : Slot) → v < length s → Keeps s before (set s v x) after → SpreadBut (set s v x) after x.kind x.cell
    → EachSpread s before → EachSpread (set s v x) after
each_set s before after v x l keeps new e w m = go (which w v)
  where
    go : Which w v → SpreadBut (set s v x) after (slot_at (set s v x) w).kind (slot_at (set s v x) w).cell
    go (Yes q) =
        subst (λ (y : Slot). SpreadBut (set s v x) after y.kind y.cell) (sym (ap (slot_at (set s v x)) q ∙ slot_same s v x l)) new
    go (Not n) =
        subst (λ (y : Slot). SpreadBut (set s v x) after y.kind y.cell) (sym (slot_other s v w x n))
        (spread_kept s (set s v x) before after keeps (slot_at s w).kind (slot_at s w).cell (e w (omega (arith, m, length-set s v x))))

-- one slot is made
pub each_made : (s : Store) (before : List Ask) (d : ℕ) (c : Cell) → SpreadBut (s ++ put c d ∷ []) before any_kind c → EachSpread s before → EachSpread (s ++ put c d ∷ []) before
each_made s before d c new e w m = go (which w (length s))
  where
    go : Which w (length s) → SpreadBut (s ++ put c d ∷ []) before (slot_at (s ++ put c d ∷ []) w).kind (slot_at (s ++ put c d ∷ []) w).cell
    go (Yes q) =
        subst (λ (y : Slot). SpreadBut (s ++ put c d ∷ []) before y.kind y.cell) (sym (ap (slot_at (s ++ put c d ∷ [])) q ∙ slot_pushed s (put c d))) new
    go (Not n) =
        let l : w < length s = omega (arith, m, n, length_push s (put c d)) in
        subst (λ (y : Slot). SpreadBut (s ++ put c d ∷ []) before y.kind y.cell) (sym (slot_before s (put c d) w l))
        (spread_kept s (s ++ put c d ∷ []) before before (keeps_made s d c before) (slot_at s w).kind (slot_at s w).cell (e w l))

-- a slot is written, whose kind is asked again
pub each_put : (s : Store) (before : List Ask) (v d : ℕ) (c : Cell) → v < length s
    → SpreadBut (set s v (put c d)) (before ++ kind_asks v (slot_at s v).kind) any_kind c
    → EachSpread s before → EachSpread (set s v (put c d)) (before ++ kind_asks v (slot_at s v).kind)
each_put s before v d c l = each_set s before (before ++ kind_asks v (slot_at s v).kind) v (put c d) l (keeps_put s v d c before l)

-- a slot is bound
pub each_bound : (s : Store) (before : List Ask) (v a d : ℕ) → v < length s → EachSpread s before
    → EachSpread (set s v (put (Bound a) d)) (before ++ kind_asks v (slot_at s v).kind)
each_bound s before v a d l =
    each_put s before v d (Bound a) l (bound_spread (set s v (put (Bound a) d)) (before ++ kind_asks v (slot_at s v).kind) a)

-- a slot takes a cell that another has
pub each_taken : (s : Store) (before : List Ask) (v w d : ℕ) → v < length s → w < length s → EachSpread s before
    → EachSpread (set s v (put (slot_at s w).cell d)) (before ++ kind_asks v (slot_at s v).kind)
each_taken s before v w d l m e =
    let t = set s v (put (slot_at s w).cell d) in
    let after = before ++ kind_asks v (slot_at s v).kind in
    each_put s before v d (slot_at s w).cell l
    (put_spread t after (slot_at s w).kind (slot_at s w).cell
    (spread_kept s t before after (keeps_put s v d (slot_at s w).cell before l) (slot_at s w).kind (slot_at s w).cell (e w m))) e

pub each_more : (s : Store) (before more : List Ask) → EachSpread s before → EachSpread s (before ++ more)
each_more s before more = each_kept s before (before ++ more) (keeps_more s before more)

pub each_less : (s : Store) (before : List Ask) (a b : ℕ) → EachSpread s (before ++ Same a b ∷ []) → EachSpread s before
each_less s before a b = each_kept s (before ++ Same a b ∷ []) before (keeps_less s before a b)

-- ---- depths

pub depths_itself : (s : Store) → KeepsDepths s s
depths_itself s v l = refl

pub depths_chained : (s t u : Store) → length s ≤ length t → KeepsDepths s t → KeepsDepths t u → KeepsDepths s u
depths_chained s t u g a b v l = b v (omega (arith, g, l)) ∙ a v l

pub depths_set : (s : Store) (v : ℕ) (x : Slot) → v < length s → x.depth ≡ (slot_at s v).depth → KeepsDepths s (set s v x)
depths_set s v x l e w m = go (which w v)
  where
    go : Which w v → (slot_at (set s v x) w).depth ≡ (slot_at s w).depth
    go (Yes q) =
        ap (λ u. (slot_at (set s v x) u).depth) q ∙ (ap (λ (y : Slot). y.depth) (slot_same s v x l) ∙ (e ∙ sym (ap (λ u. (slot_at s u).depth) q)))
    go (Not n) = ap (λ (y : Slot). y.depth) (slot_other s v w x n)

pub depths_made : (s : Store) (x : Slot) → KeepsDepths s (s ++ x ∷ [])
depths_made s x v l = ap (λ (y : Slot). y.depth) (slot_before s x v l)
