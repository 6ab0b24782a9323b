-- The types of some variables say those of others: of those that they lead to, and of all that is no deeper.
use Rattle.std.proofs.Common.{◌≡◌, ℕ, zero, suc, ◌+◌, ◌<◌, ◌≤◌, List, [], ◌∷◌, ◌++◌, length, set, map, true, Option, Some, None, inl, inr, ⊎_elim, refl, sym, ap, ◌∙◌, subst, arith, All}
use Rattle.std.specs.Prelude.{◌⊎◌, min}
use Rattle.std.specs.List.{Contains}
use Rattle.std.proofs.lemmas.Bool.{cases_lt}
use Rattle.std.proofs.lemmas.List.{length_push}
use Rattle.std.proofs.lemmas.List.Elements.{All-nil, All-from_get_or, Contains-get_or, Contains-append_left, Contains-append_right, Contains-append_cases, Contains-push}
use Rattle.elm_type.specs.Types.{Rigid, Made, types_of}
use Rattle.elm_type.specs.Classes.{Ground}
use Rattle.elm_type.specs.Ground.{is_ground}
use Rattle.type_store.specs.Store.{FieldSlot, Cell, Open, Bound, Built, Row, Constant, Slot, Store, slot_at, field_slots, field_names, end_slots}
use Rattle.type_store.specs.Solutions.{Values, Fit, Says, Ask, MeetsAsk, Becomes, row_value, rest_value, constant_of, constants_of}
use Rattle.type_store.specs.Shape.{Ascending, IsCell, Once, parts_of}
use Rattle.type_store.specs.Steps.{IsGraph, KeepsDepths, put}
use Rattle.type_store.specs.Levels.{depth_at, IsLowered}
use Rattle.type_store.specs.Reaching.{SameLow, LowRests, LowRestsBut, Held, KeepsConstants}
use Rattle.type_store.proofs.Turns.{Which, Yes, Not, which, slot_same, slot_other, slot_before, slot_pushed, all_right}
use Rattle.type_store.proofs.Parts.{slot_past}
use Rattle.type_store.proofs.RowValues.{has_row, lacks_row, rise_row}
use Rattle.type_store.proofs.RowFields.{extend_apart, rise_ground}
use Rattle.type_store.proofs.Whole.{fit_back}
use Rattle.type_store.proofs.Deciding.{Told, Equal, Other, tell}

-- ---- the type of a variable says those of what its cell names

parts_same : (f g : ℕ → Ground) (ws : List ℕ) (w : ℕ) → types_of (map f ws) ≡ types_of (map g ws) → Contains ws w → f w ≡ g w
parts_same f g [] w e (k, l, h) = absurd (omega arith)
parts_same f g (x ∷ ws) w e (zero, l, h) =
    let one : f x ≡ g x = cc in
    let same : x ≡ w = h in
    subst (λ z. f z ≡ g z) same one
parts_same f g (x ∷ ws) w e (suc k, l, h) =
    let rest : types_of (map f ws) ≡ types_of (map g ws) = cc in
    parts_same f g ws w rest (k, omega arith, h)

fields_same : (f g : ℕ → Ground) (fs : List FieldSlot) (w : ℕ) → row_value f fs ≡ row_value g fs → Contains (field_slots fs) w → f w ≡ g w
fields_same f g [] w e (k, l, h) = absurd (omega arith)
fields_same f g (x ∷ fs) w e (zero, l, h) =
    let one : f x.1 ≡ g x.1 = cc in
    let same : x.1 ≡ w = h in
    subst (λ z. f z ≡ g z) same one
fields_same f g (x ∷ fs) w e (suc k, l, h) =
    let rest : row_value f fs ≡ row_value g fs = cc in
    fields_same f g fs w rest (k, omega arith, h)

rest_ground : (s : Store) (σ : Values) → Fit σ s → (end : Option ℕ) → is_ground (rest_value σ.types end) ≡ true
rest_ground s σ f None = refl
rest_ground s σ f (Some w) = (f.each w).ground

ends_same : (f g : ℕ → Ground) (end : Option ℕ) (w : ℕ) → rest_value f end ≡ rest_value g end → Contains (end_slots end) w → f w ≡ g w
ends_same f g None w e (k, l, h) = absurd (omega arith)
ends_same f g (Some x) w e (zero, l, h) = subst (λ z. f z ≡ g z) h e
ends_same f g (Some x) w e (suc k, l, h) = absurd (omega arith)

up_row : (v : ℕ) (fs : List FieldSlot) (end : Option ℕ) → IsCell v (Row fs end) → Ascending (field_names fs)
up_row v [] None c = tt
up_row v [] (Some w) c = absurd c
up_row v (x ∷ fs) end c = c

module _ (s : Store) (σ τ : Values) (f : Fit σ s) (g : Fit τ s) where
  row_parts : (v : ℕ) (fs : List FieldSlot) (end : Option ℕ) (w : ℕ) → IsCell v (Row fs end)
      → Says σ (σ.types v) (Row fs end) → Says τ (τ.types v) (Row fs end) → σ.types v ≡ τ.types v
      → Contains (field_slots fs ++ end_slots end) w → σ.types w ≡ τ.types w
  row_parts v fs end w cell x y e h =
      let up = up_row v fs end cell in
      let r = extend_apart (row_value σ.types fs) (row_value τ.types fs) (rest_value σ.types end) (rest_value τ.types end)
      (λ j. has_row σ.types j fs ∙ sym (has_row τ.types j fs)) (rise_row σ.types fs up) (rise_row τ.types fs up)
      (lacks_row σ.types fs (rest_value σ.types end) x.1) (lacks_row τ.types fs (rest_value τ.types end) y.1)
      (rise_ground (rest_value σ.types end) (rest_ground s σ f end)) (rise_ground (rest_value τ.types end) (rest_ground s τ g end))
      (sym x.0 ∙ (e ∙ y.0)) in
      go r.0 r.1 (Contains-append_cases (field_slots fs) (end_slots end) w h)
    where
      go : row_value σ.types fs ≡ row_value τ.types fs → rest_value σ.types end ≡ rest_value τ.types end
          → Contains (field_slots fs) w ⊎ Contains (end_slots end) w → σ.types w ≡ τ.types w
      go a b (inl c) = fields_same σ.types τ.types fs w a c
      go a b (inr c) = ends_same σ.types τ.types end w b c

  pub cell_parts : (v : ℕ) (c : Cell) (w : ℕ) → IsCell v c → Says σ (σ.types v) c → Says τ (τ.types v) c → σ.types v ≡ τ.types v
      → Contains (parts_of c) w → σ.types w ≡ τ.types w
  cell_parts v Open w cell x y e (k, l, h) = absurd (omega arith)
  cell_parts v (Bound u) w cell x y e (zero, l, h) = subst (λ z. σ.types z ≡ τ.types z) h (sym x ∙ (e ∙ y))
  cell_parts v (Bound u) w cell x y e (suc k, l, h) = absurd (omega arith)
  cell_parts v (Built b ws) w cell x y e h =
      let same : Made b (types_of (map σ.types ws)) ≡ Made b (types_of (map τ.types ws)) = sym x ∙ (e ∙ y) in
      let parts : types_of (map σ.types ws) ≡ types_of (map τ.types ws) = cc in
      parts_same σ.types τ.types ws w parts h
  cell_parts v (Row fs end) w cell x y e h = row_parts v fs end w cell x y e h
  cell_parts v (Constant r) w cell x y e (k, l, h) = absurd (omega arith)

-- ---- constants

-- a constant of a variable is one of the store
pub constant_there : (s : Store) (v : ℕ) (r : Rigid) → (slot_at s v).cell ≡ Constant r → Contains (constants_of s) r
constant_there [] v r e = absurd (let x = ap (λ (y : Slot). y.cell) (sym (slot_past [] v (omega arith))) ∙ e in cc)
constant_there (x ∷ xs) zero r e =
    Contains-append_left (constant_of x.cell) (constants_of xs) r (subst (λ c. Contains (constant_of c) r) (sym e) (Contains-push [] r))
constant_there (x ∷ xs) (suc v) r e = Contains-append_right (constant_of x.cell) (constants_of xs) r (constant_there xs v r e)

in_cell : (c : Cell) (r : Rigid) → Contains (constant_of c) r → c ≡ Constant r
in_cell Open r (k, l, e) = absurd (omega arith)
in_cell (Bound w) r (k, l, e) = absurd (omega arith)
in_cell (Built h ws) r (k, l, e) = absurd (omega arith)
in_cell (Row fs end) r (k, l, e) = absurd (omega arith)
in_cell (Constant t) r (zero, l, e) = ap Constant e
in_cell (Constant t) r (suc k, l, e) = absurd (omega arith)

-- and a constant of the store is one of a variable
held : (s : Store) (r : Rigid) → Contains (constants_of s) r → Held s r
held [] r (k, l, e) = absurd (omega arith)
held (x ∷ xs) r h = elim (Contains-append_cases (constant_of x.cell) (constants_of xs) r h) [
  | inl here ↦ record { at = 0; is = in_cell x.cell r here }
  | inr there ↦ (let t = held xs r there in record { at = suc t.at; is = t.is })
]

pub no_new : (s t : Store) → KeepsConstants s t → (r : Rigid) → Contains (constants_of t) r → Contains (constants_of s) r
no_new s t k r h =
    let a = held t r h in
    let b = k.held a.at r a.is in
    constant_there s b.at r b.is

-- each constant stands where it stood
pub constants_same : (s t : Store) → ((v : ℕ) (r : Rigid) → (slot_at t v).cell ≡ Constant r → (slot_at s v).cell ≡ Constant r) → KeepsConstants s t
constants_same s t h = record {
  held = λ v r e. record { at = v; is = h v r e };
  once = λ o v w r e f. o v w r (h v r e) (h w r f);
}

pub constants_itself : (s : Store) → KeepsConstants s s
constants_itself s = constants_same s s (λ v r e. e)

pub constants_chained : (s t u : Store) → KeepsConstants s t → KeepsConstants t u → KeepsConstants s u
constants_chained s t u a b = record {
  held = λ v r e. (let h = b.held v r e in a.held h.at r h.is);
  once = λ o. b.once (a.once o);
}

pub constants_set : (s : Store) (v : ℕ) (x : Slot) → v < length s → ((r : Rigid) → x.cell ≡ Constant r → (slot_at s v).cell ≡ Constant r) → KeepsConstants s (set s v x)
constants_set s v x l h = constants_same s (set s v x) (λ w r e. go w r e (which w v))
  where
    go : (w : ℕ) (r : Rigid) → (slot_at (set s v x) w).cell ≡ Constant r → Which w v → (slot_at s w).cell ≡ Constant r
    go w r e (Yes q) =
        ap (λ u. (slot_at s u).cell) q ∙ h r (ap (λ (y : Slot). y.cell) (sym (slot_same s v x l)) ∙ (ap (λ u. (slot_at (set s v x) u).cell) (sym q) ∙ e))
    go w r e (Not n) = ap (λ (y : Slot). y.cell) (sym (slot_other s v w x n)) ∙ e

-- a variable more without a constant
pub constants_made : (s : Store) (x : Slot) → ((r : Rigid) → x.cell ≡ Constant r → ⊥) → KeepsConstants s (s ++ x ∷ [])
constants_made s x h = constants_same s (s ++ x ∷ []) (λ w r e. go w r e (which w (length s)) (cases_lt w (length s)))
  where
    go : (w : ℕ) (r : Rigid) → (slot_at (s ++ x ∷ []) w).cell ≡ Constant r → Which w (length s) → (w < length s) ⊎ (length s ≤ w) → (slot_at s w).cell ≡ Constant r
    go w r e (Yes q) o =
        absurd (h r (ap (λ (y : Slot). y.cell) (sym (slot_pushed s x)) ∙ (ap (λ u. (slot_at (s ++ x ∷ []) u).cell) (sym q) ∙ e)))
    go w r e (Not n) (inl l) = ap (λ (y : Slot). y.cell) (sym (slot_before s x w l)) ∙ e
    go w r e (Not n) (inr g) =
        absurd (let z = ap (λ (y : Slot). y.cell) (sym (slot_past (s ++ x ∷ []) w (omega (arith, g, n, length_push s x)))) ∙ e in cc)

-- the first of two variables takes what is known of the second, which is then bound to it
pub constants_taken : (s : Store) (a b d e : ℕ) → a < b → b < length s → a < length s → b < length (set s a (put (slot_at s b).cell d))
    → KeepsConstants s (set (set s a (put (slot_at s b).cell d)) b (put (Bound a) e))
constants_taken s a b d e low lb la lt = record {
  held = λ v r q. at_old v r (which v b) (which v a) q;
  once = λ o v w r q p. alone o v w r (which v b) (which v a) (which w b) (which w a) q p;
}
  where
    not_b : (r : Rigid) → (slot_at (set (set s a (put (slot_at s b).cell d)) b (put (Bound a) e)) b).cell ≡ Constant r → ⊥
    not_b r q = let z = ap (λ (y : Slot). y.cell) (sym (slot_same (set s a (put (slot_at s b).cell d)) b (put (Bound a) e) lt)) ∙ q in cc

    at_a : (r : Rigid) → (slot_at (set (set s a (put (slot_at s b).cell d)) b (put (Bound a) e)) a).cell ≡ Constant r → (slot_at s b).cell ≡ Constant r
    at_a r q =
        ap (λ (y : Slot). y.cell) (sym (slot_same s a (put (slot_at s b).cell d) la))
        ∙ (ap (λ (y : Slot). y.cell) (sym (slot_other (set s a (put (slot_at s b).cell d)) b a (put (Bound a) e) (λ z. omega (arith, low, z)))) ∙ q)

    at_other : (v : ℕ) (r : Rigid) → (v ≡ b → ⊥) → (v ≡ a → ⊥) → (slot_at (set (set s a (put (slot_at s b).cell d)) b (put (Bound a) e)) v).cell ≡ Constant r
        → (slot_at s v).cell ≡ Constant r
    at_other v r m n q =
        ap (λ (y : Slot). y.cell) (sym (slot_other s a v (put (slot_at s b).cell d) n))
        ∙ (ap (λ (y : Slot). y.cell) (sym (slot_other (set s a (put (slot_at s b).cell d)) b v (put (Bound a) e) m)) ∙ q)

    at_old : (v : ℕ) (r : Rigid) → Which v b → Which v a → (slot_at (set (set s a (put (slot_at s b).cell d)) b (put (Bound a) e)) v).cell ≡ Constant r → Held s r
    at_old v r (Yes m) n q = absurd (not_b r (ap (λ u. (slot_at (set (set s a (put (slot_at s b).cell d)) b (put (Bound a) e)) u).cell) (sym m) ∙ q))
    at_old v r (Not m) (Yes n) q = record {
      at = b;
      is = at_a r (ap (λ u. (slot_at (set (set s a (put (slot_at s b).cell d)) b (put (Bound a) e)) u).cell) (sym n) ∙ q);
    }
    at_old v r (Not m) (Not n) q = record { at = v; is = at_other v r m n q }

    alone : Once s → (v w : ℕ) (r : Rigid) → Which v b → Which v a → Which w b → Which w a
        → (slot_at (set (set s a (put (slot_at s b).cell d)) b (put (Bound a) e)) v).cell ≡ Constant r
        → (slot_at (set (set s a (put (slot_at s b).cell d)) b (put (Bound a) e)) w).cell ≡ Constant r → v ≡ w
    alone o v w r (Yes m) n m' n' q p = absurd (not_b r (ap (λ u. (slot_at (set (set s a (put (slot_at s b).cell d)) b (put (Bound a) e)) u).cell) (sym m) ∙ q))
    alone o v w r (Not m) n (Yes m') n' q p = absurd (not_b r (ap (λ u. (slot_at (set (set s a (put (slot_at s b).cell d)) b (put (Bound a) e)) u).cell) (sym m') ∙ p))
    alone o v w r (Not m) (Yes n) (Not m') (Yes n') q p = n ∙ sym n'
    alone o v w r (Not m) (Yes n) (Not m') (Not n') q p =
        let x = at_a r (ap (λ u. (slot_at (set (set s a (put (slot_at s b).cell d)) b (put (Bound a) e)) u).cell) (sym n) ∙ q) in
        absurd (m' (sym (o b w r x (at_other w r m' n' p))))
    alone o v w r (Not m) (Not n) (Not m') (Yes n') q p =
        let x = at_a r (ap (λ u. (slot_at (set (set s a (put (slot_at s b).cell d)) b (put (Bound a) e)) u).cell) (sym n') ∙ p) in
        absurd (m (o v b r (at_other v r m n q) x))
    alone o v w r (Not m) (Not n) (Not m') (Not n') q p = o v w r (at_other v r m n q) (at_other w r m' n' p)

-- ---- what is no deeper

pub rests_kept : (s t : Store) (left : List Ask) → length t ≡ length s → KeepsDepths s t → (e : ℕ) → LowRestsBut e s t left
rests_kept s t left n k e = record {
  same = λ σ τ f g x y low v l d. (
      let there : v < length s = omega (arith, n, l) in
      let depth = k v there in
      low v there (omega (arith, d, depth)));
}

-- after a step that makes no variable
pub rests_after : (s t u : Store) (left all : List Ask) (e : ℕ) → length t ≡ length s → KeepsDepths s t → ((σ : Values) → All (MeetsAsk σ) all → All (MeetsAsk σ) left)
    → LowRestsBut e t u left → LowRestsBut e s u all
rests_after s t u left all e n k part c = record {
  same = λ σ τ f g x y low. c.same σ τ f g (part σ x) (part τ y) (λ v l d.
      let there : v < length s = omega (arith, n, l) in
      let depth = k v there in
      low v there (omega (arith, d, depth)));
}

-- one step after another
pub rests_chained : (s t u : Store) (now rest left : List Ask) (e : ℕ) → LowRestsBut e s t now → Becomes t now u (rest ++ left) → LowRestsBut e t u left
    → LowRestsBut e s u (rest ++ left)
rests_chained s t u now rest left e a b c = record {
  same = λ σ τ f g x y low. (
      let p = b.back σ f x in
      let q = b.back τ g y in
      c.same σ τ f g (all_right (MeetsAsk σ) rest left x) (all_right (MeetsAsk τ) rest left y) (a.same σ τ p.0 q.0 p.1 q.1 low));
}

-- ---- depths that are less, and no less than they have to be

abbrev weight : {x y : Ground} → ℕ → Told x y → ℕ
weight e (Equal q) = 0
weight e (Other n) = e + 1

module _ (a b : Store) (h : IsLowered a b) (cells : (v : ℕ) → IsCell v (slot_at a v).cell) (e : ℕ) (σ τ : Values) (f : Fit σ a) (g : Fit τ a) (low : SameLow e a σ τ) where
  abbrev told : (v : ℕ) → Told (σ.types v) (τ.types v)
  told v = tell (σ.types v) (τ.types v)

  abbrev limit : ℕ → ℕ
  limit v = min (depth_at a v) (weight e (told v))

  deep : (v : ℕ) → v < length a → (σ.types v ≡ τ.types v → ⊥) → e < depth_at a v
  deep v l n = elim (cases_lt e (depth_at a v)) [
    | inl x ↦ x
    | inr x ↦ absurd (n (low v l x))
  ]

  weight_other : (x y : Ground) (t : Told x y) → (x ≡ y → ⊥) → weight e t ≡ e + 1
  weight_other x y (Equal q) n = absurd (n q)
  weight_other x y (Other m) n = refl

  weight_equal : (x y : Ground) (t : Told x y) → x ≡ y → weight e t ≡ 0
  weight_equal x y (Equal q) p = refl
  weight_equal x y (Other m) p = absurd (m p)

  weight_most : (x y : Ground) (t : Told x y) → weight e t ≤ e + 1
  weight_most x y (Equal q) = omega arith
  weight_most x y (Other m) = omega arith

  edge : (v w : ℕ) → v < length a → Contains (parts_of (slot_at a v).cell) w → limit w ≤ limit v
  edge v w l c = go (told v)
    where
      go : Told (σ.types v) (τ.types v) → limit w ≤ limit v
      go (Equal q) =
          let p = cell_parts a σ τ f g v (slot_at a v).cell w (cells v) (f.each v).cell (g.each v).cell q c in
          let x = weight_equal (σ.types w) (τ.types w) (told w) p in
          omega (arith, x)
      go (Other n) =
          let x = weight_other (σ.types v) (τ.types v) (told v) n in
          let y = weight_most (σ.types w) (τ.types w) (told w) in
          let z = deep v l n in
          omega (arith, x, y, z)

  edges : (v : ℕ) → All (λ w. limit w ≤ limit v) (parts_of (slot_at a v).cell)
  edges v = ⊎_elim (λ l. from_contains l)
      (λ k. subst (λ (x : Slot). All (λ w. limit w ≤ limit v) (parts_of x.cell)) (sym (slot_past a v k)) (All-nil (λ w. limit w ≤ limit v)))
      (cases_lt v (length a))
    where
      from_contains : v < length a → All (λ w. limit w ≤ limit v) (parts_of (slot_at a v).cell)
      from_contains l = All-from_get_or (λ w. limit w ≤ limit v) (parts_of (slot_at a v).cell) 0
          (λ k i. edge v _ l (Contains-get_or (parts_of (slot_at a v).cell) k 0 i))

  lowered_same : SameLow e b σ τ
  lowered_same v l d = go (told v)
    where
      go : Told (σ.types v) (τ.types v) → σ.types v ≡ τ.types v
      go (Equal q) = q
      go (Other n) =
          let x = weight_other (σ.types v) (τ.types v) (told v) n in
          let y = deep v (omega (arith, l, h.count)) n in
          let z = h.greatest limit (λ w. omega arith) edges v in
          absurd (omega (arith, x, y, z, d))

pub rests_lowered : (a b : Store) → IsLowered a b → ((v : ℕ) → IsCell v (slot_at a v).cell) → (e : ℕ) → LowRests e a b
rests_lowered a b h cells e = record {
  same = λ σ τ f g low. lowered_same a b h cells e σ τ (fit_back a b h σ f) (fit_back a b h τ g) low;
}

pub all_cells : (s : Store) → IsGraph s → (v : ℕ) → IsCell v (slot_at s v).cell
all_cells s g v = ⊎_elim (g.cells v) (λ k. subst (λ (x : Slot). IsCell v x.cell) (sym (slot_past s v k)) tt) (cases_lt v (length s))

-- a variable more is as deep as it was made
pub rests_made : (s : Store) (c : Cell) (d e : ℕ) → e < d → (σ τ : Values) → SameLow e s σ τ → SameLow e (s ++ put c d ∷ []) σ τ
rests_made s c d e under σ τ low v l deep = go (which v (length s))
  where
    go : Which v (length s) → σ.types v ≡ τ.types v
    go (Yes q) =
        let x : depth_at (s ++ put c d ∷ []) v ≡ d = ap (λ u. depth_at (s ++ put c d ∷ []) u) q ∙ ap (λ (y : Slot). y.depth) (slot_pushed s (put c d)) in
        absurd (omega (arith, x, deep, under))
    go (Not n) =
        let more = length_push s (put c d) in
        let there : v < length s = omega (arith, l, n, more) in
        let x = ap (λ (y : Slot). y.depth) (slot_before s (put c d) v there) in
        low v there (omega (arith, x, deep))
