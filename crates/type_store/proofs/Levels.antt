-- Variables that are made less deep.
use Rattle.std.proofs.Common.{◌≡◌, ◌≢◌, ℕ, zero, suc, ◌+◌, ◌<◌, ◌≤◌, List, [], ◌∷◌, ◌++◌, ◌⊎◌, inl, inr, ⊎_elim, Some, None}
use Rattle.std.proofs.Common.{length, get_or, set, refl, sym, ap, ◌∙◌, subst, arith, Bool, true, false, nat_lt}
use Rattle.std.specs.Prelude.{if◌then◌else◌}
use Rattle.std.proofs.lemmas.Bool.Decides.{nat_tests}
use Rattle.std.specs.List.{All, Contains, slice_get}
use Rattle.std.proofs.lemmas.Bool.{cases_lt, cases_eq}
use Rattle.std.proofs.lemmas.Option.{unwrap_or-slice_get, get_or_from_slice_get, slice_get_within, slice_get-get_or}
use Rattle.std.proofs.lemmas.List.{length-set, get_or-set_same, get_or-set_other, set-set, set-get_or, length_push}
use Rattle.std.proofs.lemmas.List.Elements.{All-contains, All-push, All-weaker, All-from_get_or, Contains-append_left, Contains-push, Contains-push_cases}
use Rattle.type_store.specs.Store.{Slot, Store, slot_at, open_slot}
use Rattle.type_store.specs.Shape.{parts_of}
use Rattle.type_store.specs.Cycles.{parts_at}
use Rattle.type_store.specs.Levels.{depth_at, with_depth, depths_undone, IsLowered, IsLevelledBut, Waiting, WaitingFrom, IsLevelled, total_depth, IsLevelling}
use Rattle.type_store.specs.declared.level.DepthChange.{DepthChange}

slot_is : (s : Store) (v : ℕ) → slot_at s v ≡ get_or s v open_slot
slot_is s v = unwrap_or-slice_get s v open_slot

abbrev lowered_slot : Store → ℕ → ℕ → Slot
lowered_slot s v d = record { cell = (slot_at s v).cell; kind = (slot_at s v).kind; depth = d }

same_slot : (s : Store) (v d : ℕ) → v < length s → slot_at (with_depth s v d) v ≡ lowered_slot s v d
same_slot s v d l = slot_is (with_depth s v d) v ∙ get_or-set_same s v (lowered_slot s v d) open_slot l

other_slot : (s : Store) (v u d : ℕ) → u ≢ v → slot_at (with_depth s v d) u ≡ slot_at s u
other_slot s v u d n = slot_is (with_depth s v d) u ∙ (get_or-set_other s v u (lowered_slot s v d) open_slot n ∙ sym (slot_is s u))

module _ (s : Store) (v d : ℕ) (l : v < length s) where
  pub same_cell : (u : ℕ) → (slot_at (with_depth s v d) u).cell ≡ (slot_at s u).cell
  same_cell u =
      ⊎_elim (λ e. ap (λ w. (slot_at (with_depth s v d) w).cell) e ∙ (ap (λ x. x.cell) (same_slot s v d l) ∙ sym (ap (λ w. (slot_at s w).cell) e)))
      (λ n. ap (λ x. x.cell) (other_slot s v u d n)) (cases_eq u v)

  pub same_kind : (u : ℕ) → (slot_at (with_depth s v d) u).kind ≡ (slot_at s u).kind
  same_kind u =
      ⊎_elim (λ e. ap (λ w. (slot_at (with_depth s v d) w).kind) e ∙ (ap (λ x. x.kind) (same_slot s v d l) ∙ sym (ap (λ w. (slot_at s w).kind) e)))
      (λ n. ap (λ x. x.kind) (other_slot s v u d n)) (cases_eq u v)

  pub depth_same : depth_at (with_depth s v d) v ≡ d
  depth_same = ap (λ x. x.depth) (same_slot s v d l)

  pub depth_other : (u : ℕ) → u ≢ v → depth_at (with_depth s v d) u ≡ depth_at s u
  depth_other u n = ap (λ x. x.depth) (other_slot s v u d n)

  pub parts_same : (u : ℕ) → parts_at (with_depth s v d) u ≡ parts_at s u
  parts_same u = ap parts_of (same_cell u)

-- ---- changes that are undone

pub undone_push : (s : Store) (cs : List DepthChange) (v d : ℕ) → v < length s
    → depths_undone (with_depth s v d) (cs ++ record { slot = v; depth = depth_at s v } ∷ []) ≡ depths_undone s cs
undone_push s [] v d l =
    ap (λ (x : Slot). set (with_depth s v d) v (record { cell = x.cell; kind = x.kind; depth = depth_at s v })) (same_slot s v d l)
    ∙ (set-set s v (lowered_slot s v d) (slot_at s v) ∙ (ap (set s v) (slot_is s v) ∙ set-get_or s v open_slot))
undone_push s (c ∷ cs) v d l = ap (λ t. with_depth t c.slot c.depth) (undone_push s cs v d l)

pub undone_pop : (s : Store) (cs : List DepthChange) (c : DepthChange) → depths_undone s (cs ++ c ∷ []) ≡ depths_undone (with_depth s c.slot c.depth) cs
undone_pop s [] c = refl
undone_pop s (d ∷ cs) c = ap (λ t. with_depth t d.slot d.depth) (undone_pop s cs c)

-- ---- the work that is left

pub total_lowered : (s : Store) (v d : ℕ) → v < length s → total_depth (with_depth s v d) + depth_at s v ≡ total_depth s + d
total_lowered [] v d l = absurd (omega (arith, l))
total_lowered (x ∷ s) zero d l = omega arith
total_lowered (x ∷ s) (suc v) d l = let r = total_lowered s v d (omega (arith, l)) in omega (arith, r)

-- ---- one variable is made less deep

pub lowered_itself : (s : Store) → IsLowered s s
lowered_itself s = record {
  count = refl;
  cells = λ v. refl;
  kinds = λ v. refl;
  lower = λ v. omega arith;
  greatest = λ δ below edges v. below v;
}

-- a part of a variable becomes as deep as that
pub lowered_once : (old s : Store) (at w : ℕ) → IsLowered old s → w < length s → Contains (parts_at s at) w → depth_at s at < depth_at s w
    → IsLowered old (with_depth s w (depth_at s at))
lowered_once old s at w h l part less = record {
  count = length-set s w (lowered_slot s w (depth_at s at)) ∙ h.count;
  cells = λ v. same_cell s w (depth_at s at) l v ∙ h.cells v;
  kinds = λ v. same_kind s w (depth_at s at) l v ∙ h.kinds v;
  lower = λ v. ⊎_elim
      (λ e. let a = ap (depth_at (with_depth s w (depth_at s at))) e in let b = ap (depth_at old) e in let c = h.lower w in
      omega (arith, a, b, c, less, depth_same s w (depth_at s at) l))
      (λ n. let a = depth_other s w (depth_at s at) l v n in let c = h.lower v in omega (arith, a, c))
      (cases_eq v w);
  greatest = λ δ below edges v.
      let all = h.greatest δ below edges in
      ⊎_elim
      (λ e.
      let p : Contains (parts_at old at) w = subst (λ c. Contains (parts_of c) w) (h.cells at) part in
      let r = All-contains (λ u. δ u ≤ δ at) (parts_at old at) w (edges at) p in
      let a = ap δ e in let b = ap (depth_at (with_depth s w (depth_at s at))) e in let c = all at in
      omega (arith, r, a, b, c, depth_same s w (depth_at s at) l))
      (λ n. let a = depth_other s w (depth_at s at) l v n in let c = all v in omega (arith, a, c))
      (cases_eq v w);
}

-- ---- edges

module _ (s : Store) (at place part : ℕ) (todo : List ℕ) (b : IsLevelledBut s (WaitingFrom todo at place)) (there : slice_get (parts_at s at) place ≡ Some part) where
  part_is : get_or (parts_at s at) place 0 ≡ part
  part_is = get_or_from_slice_get (parts_at s at) place part 0 there

  -- a part that is not deeper
  pub next_edge : depth_at s part ≤ depth_at s at → IsLevelledBut s (WaitingFrom todo at (place + 1))
  next_edge h = record { edges = λ v k l. step v k (b.edges v k l) }
    where
      step : (v k : ℕ) → (depth_at s (get_or (parts_at s v) k 0) ≤ depth_at s v) ⊎ WaitingFrom todo at place v k
          → (depth_at s (get_or (parts_at s v) k 0) ≤ depth_at s v) ⊎ WaitingFrom todo at (place + 1) v k
      step v k (inl q) = inl q
      step v k (inr (inl q)) = inr (inl q)
      step v k (inr (inr q)) =
          ⊎_elim
          (λ e.
          let a = ap (λ u. depth_at s (get_or (parts_at s u) k 0)) q.0 in
          let c = ap (λ n. depth_at s (get_or (parts_at s at) n 0)) e in
          let d = ap (depth_at s) part_is in
          let f = ap (depth_at s) q.0 in
          inl (omega (arith, a, c, d, f, h)))
          (λ n. inr (inr (q.0, omega (arith, q.1, n))))
          (cases_eq k place)

  -- a part that is deeper becomes as deep, and its own parts wait
  module _ (l : part < length s) (less : depth_at s at < depth_at s part) where
    abbrev new : Store
    new = with_depth s part (depth_at s at)

    at_other : at ≢ part
    at_other e = let a = ap (depth_at s) e in omega (arith, a, less)

    new_at : depth_at new at ≡ depth_at s at
    new_at = depth_other s part (depth_at s at) l at at_other

    new_lower : (u : ℕ) → depth_at new u ≤ depth_at s u
    new_lower u =
        ⊎_elim
        (λ e. let a = ap (depth_at new) e in let c = ap (depth_at s) e in omega (arith, a, c, less, depth_same s part (depth_at s at) l))
        (λ n. let a = depth_other s part (depth_at s at) l u n in omega (arith, a)) (cases_eq u part)

    pub lower_edge : IsLevelledBut new (WaitingFrom (todo ++ part ∷ []) at (place + 1))
    lower_edge = record {
      edges = λ v k h.
          let e : parts_at new v ≡ parts_at s v = parts_same s part (depth_at s at) l v in
          let f = ap length e in
          let g = ap (λ ws. depth_at new (get_or ws k 0)) e in
          ⊎_elim (λ q. inr (inl (subst (Contains (todo ++ part ∷ [])) (sym q) (Contains-push todo part))))
          (λ n. step v k n g (b.edges v k (omega (arith, h, f)))) (cases_eq v part);
    }
      where
        step : (v k : ℕ) → v ≢ part → depth_at new (get_or (parts_at new v) k 0) ≡ depth_at new (get_or (parts_at s v) k 0)
            → (depth_at s (get_or (parts_at s v) k 0) ≤ depth_at s v) ⊎ WaitingFrom todo at place v k
            → (depth_at new (get_or (parts_at new v) k 0) ≤ depth_at new v) ⊎ WaitingFrom (todo ++ part ∷ []) at (place + 1) v k
        step v k n g (inl q) =
            let a = new_lower (get_or (parts_at s v) k 0) in
            let c = depth_other s part (depth_at s at) l v n in
            inl (omega (arith, q, g, a, c))
        step v k n g (inr (inl q)) = inr (inl (Contains-append_left todo (part ∷ []) v q))
        step v k n g (inr (inr q)) =
            ⊎_elim
            (λ e.
            let a = ap (λ u. depth_at new (get_or (parts_at s u) k 0)) q.0 in
            let c = ap (λ m. depth_at new (get_or (parts_at s at) m 0)) e in
            let d = ap (depth_at new) part_is in
            let f = ap (depth_at new) q.0 in
            inl (omega (arith, g, a, c, d, f, new_at, depth_same s part (depth_at s at) l)))
            (λ m. inr (inr (q.0, omega (arith, q.1, m))))
            (cases_eq k place)

-- a variable is taken from those that wait
pub take_one : (s : Store) (todo rest : List ℕ) (at : ℕ) → todo ≡ rest ++ at ∷ [] → IsLevelledBut s (Waiting todo) → IsLevelledBut s (WaitingFrom rest at 0)
take_one s todo rest at e b = record {
  edges = λ v k l. ⊎_elim (λ q. inl q) (λ q. inr (
      ⊎_elim (λ c. inl c) (λ d. inr (sym d, omega arith)) (Contains-push_cases rest at v (subst (λ xs. Contains xs v) e q)))) (b.edges v k l);
}

-- all parts of a variable are level
pub all_edges : (s : Store) (todo : List ℕ) (at place : ℕ) → slice_get (parts_at s at) place ≡ None → IsLevelledBut s (WaitingFrom todo at place) → IsLevelledBut s (Waiting todo)
all_edges s todo at place none b = record { edges = λ v k l. step v k l (b.edges v k l) }
  where
    none_some : {x : ℕ} → None ≡ Some x → ⊥
    none_some e = cc

    past : length (parts_at s at) ≤ place
    past = ⊎_elim (λ l. absurd (none_some (sym none ∙ slice_get-get_or (parts_at s at) place 0 l))) (λ h. h) (cases_lt place (length (parts_at s at)))

    step : (v k : ℕ) → k < length (parts_at s v) → (depth_at s (get_or (parts_at s v) k 0) ≤ depth_at s v) ⊎ WaitingFrom todo at place v k
        → (depth_at s (get_or (parts_at s v) k 0) ≤ depth_at s v) ⊎ Waiting todo v k
    step v k l (inl q) = inl q
    step v k l (inr (inl q)) = inr q
    step v k l (inr (inr q)) = let a = ap (λ u. length (parts_at s u)) q.0 in absurd (omega (arith, l, a, past, q.1))

-- nothing waits
pub all_level : (s : Store) (todo : List ℕ) → length todo ≡ 0 → IsLevelledBut s (Waiting todo) → IsLevelled s
all_level s todo e b = record {
  each = λ v.
      All-from_get_or (λ w. depth_at s w ≤ depth_at s v) (parts_at s v) 0
      (λ k l. ⊎_elim (λ q. q) (λ q. absurd (omega (arith, q.1, e))) (b.edges v k l));
}

pub lowered_again : (a b c : Store) → IsLowered a b → IsLowered b c → IsLowered a c
lowered_again a b c g h = record {
  count = h.count ∙ g.count;
  cells = λ v. h.cells v ∙ g.cells v;
  kinds = λ v. h.kinds v ∙ g.kinds v;
  lower = λ v. omega (arith, g.lower v, h.lower v);
  greatest = λ δ below edges.
      h.greatest δ (g.greatest δ below edges) (λ v. subst (λ x. All (λ w. δ w ≤ δ v) (parts_of x)) (sym (g.cells v)) (edges v));
}

-- ---- the parts of one variable

pub levelling : (s : Store) (todo : List ℕ) (trail : List DepthChange) (at limit : ℕ) → limit ≡ depth_at s at → All (λ v. v < length s) todo
    → IsLevelledBut s (WaitingFrom todo at 0) → All (λ c. c.slot < length s) trail → IsLevelling s todo trail at limit s todo trail 0
levelling s todo trail at limit e t b r = record {
  limit_is = e;
  todo_within = t;
  levelled = b;
  lowered = lowered_itself s;
  trail_within = r;
  undone = refl;
  work = omega arith;
}

module _ {first : Store} {first_todo : List ℕ} {first_trail : List DepthChange} {at limit : ℕ} {s : Store} {todo : List ℕ} {trail : List DepthChange} {place : ℕ}
    (h : IsLevelling first first_todo first_trail at limit s todo trail place) (part : ℕ) (there : slice_get (parts_at s at) place ≡ Some part) where
  pub one_part : place < length (parts_at first at)
  one_part =
      let l = slice_get_within (parts_at s at) place part there in
      omega (arith, l, ap (λ c. length (parts_of c)) (h.lowered.cells at))

  is_part : Contains (parts_at s at) part
  is_part = (place, slice_get_within (parts_at s at) place part there, get_or_from_slice_get (parts_at s at) place part part there)

  pub part_within : (n : ℕ) → All (λ w. w < n) (parts_at first at) → part < n
  part_within n all =
      All-contains (λ w. w < n) (parts_at first at) part all (subst (λ c. Contains (parts_of c) part) (h.lowered.cells at) is_part)

  level_kept : depth_at s part ≤ limit → IsLevelling first first_todo first_trail at limit s todo trail (place + 1)
  level_kept l = record {
    limit_is = h.limit_is;
    todo_within = h.todo_within;
    levelled = next_edge s at place part todo h.levelled there (omega (arith, l, h.limit_is));
    lowered = h.lowered;
    trail_within = h.trail_within;
    undone = h.undone;
    work = h.work;
  }

  level_made : part < length s → limit < depth_at s part
      → IsLevelling first first_todo first_trail at limit (with_depth s part limit) (todo ++ part ∷ []) (trail ++ record { slot = part; depth = depth_at s part } ∷ []) (place + 1)
  level_made l m =
      let less : depth_at s at < depth_at s part = omega (arith, m, h.limit_is) in
      let n = length-set s part (lowered_slot s part limit) in
      record {
        limit_is = h.limit_is ∙ (sym (new_at s at place part todo h.levelled there l less) ∙ ap (λ d. depth_at (with_depth s part d) at) (sym h.limit_is));
        todo_within =
            All-weaker (λ v. v < length s) (λ v. v < length (with_depth s part limit)) (λ v k. omega (arith, k, n)) (todo ++ part ∷ []) (All-push (λ v. v < length s) todo part h.todo_within l);
        levelled = subst (λ d. IsLevelledBut (with_depth s part d) (WaitingFrom (todo ++ part ∷ []) at (place + 1))) (sym h.limit_is) (lower_edge s at place part todo h.levelled there l less);
        lowered = subst (λ d. IsLowered first (with_depth s part d)) (sym h.limit_is) (lowered_once first s at part h.lowered l is_part less);
        trail_within =
            All-weaker (λ (c : DepthChange). c.slot < length s) (λ c. c.slot < length (with_depth s part limit)) (λ c k. omega (arith, k, n)) (trail ++ record { slot = part; depth = depth_at s part } ∷ [])
            (All-push (λ (c : DepthChange). c.slot < length s) trail (record { slot = part; depth = depth_at s part }) h.trail_within l);
        undone = undone_push s trail part limit l ∙ h.undone;
        work =
            let t = total_lowered s part limit l in
            omega (arith, t, m, h.work, length_push todo part);
      }

  -- as the code does it
  pub level_step : part < length s → (s' : Store) (todo' : List ℕ) (trail' : List DepthChange)
      → s' ≡ (if nat_lt limit (depth_at s part) then with_depth s part limit else s)
      → todo' ≡ (if nat_lt limit (depth_at s part) then todo ++ part ∷ [] else todo)
      → trail' ≡ (if nat_lt limit (depth_at s part) then trail ++ record { slot = part; depth = depth_at s part } ∷ [] else trail)
      → IsLevelling first first_todo first_trail at limit s' todo' trail' (place + 1)
  level_step l s' todo' trail' a b c = go (nat_lt limit (depth_at s part)) refl a b c
    where
      go : (t : Bool) → nat_lt limit (depth_at s part) ≡ t
          → s' ≡ (if t then with_depth s part limit else s)
          → todo' ≡ (if t then todo ++ part ∷ [] else todo)
          → trail' ≡ (if t then trail ++ record { slot = part; depth = depth_at s part } ∷ [] else trail)
          → IsLevelling first first_todo first_trail at limit s' todo' trail' (place + 1)
      go true e a b c =
          let m : limit < depth_at s part = grind (arith, nat_tests) in
          subst (λ x. IsLevelling first first_todo first_trail at limit x todo' trail' (place + 1)) (sym a)
          (subst (λ x. IsLevelling first first_todo first_trail at limit (with_depth s part limit) x trail' (place + 1)) (sym b)
          (subst (λ x. IsLevelling first first_todo first_trail at limit (with_depth s part limit) (todo ++ part ∷ []) x (place + 1)) (sym c) (level_made l m)))
      go false e a b c =
          let m : depth_at s part ≤ limit = grind (arith, nat_tests) in
          subst (λ x. IsLevelling first first_todo first_trail at limit x todo' trail' (place + 1)) (sym a)
          (subst (λ x. IsLevelling first first_todo first_trail at limit s x trail' (place + 1)) (sym b)
          (subst (λ x. IsLevelling first first_todo first_trail at limit s todo x (place + 1)) (sym c) (level_kept m)))
