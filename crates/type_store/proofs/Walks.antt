-- The steps of the search for a cycle.
use Rattle.std.proofs.Common.{◌≡◌, ◌≢◌, ℕ, ◌+◌, ◌<◌, ◌≤◌, List, [], ◌∷◌, ◌++◌, ◌⊎◌, inl, inr, ⊎_elim, Some, None}
use Rattle.std.proofs.Common.{length, get_or, set, take, refl, sym, ap, ◌∙◌, subst, arith}
use Rattle.std.specs.List.{All, Contains, slice_get}
use Rattle.std.proofs.lemmas.Bool.{cases_lt, cases_eq}
use Rattle.std.proofs.lemmas.Option.{get_or_from_slice_get, slice_get_within, slice_get-get_or}
use Rattle.std.proofs.lemmas.List.{length-set, length_push, get_or_push, get_or_append_left, get_or-set_same, get_or-set_other, get_or-take, length-take-le, take_all}
use Rattle.std.proofs.lemmas.List.Elements.{All-weaker, All-more, All-push, All-nil}
use Rattle.type_store.specs.Store.{Store}
use Rattle.type_store.specs.Cycles.{parts_at, Leads, to_part, further, mark_of, step_at, IsDoneBefore, IsLooked, IsWalk}
use Rattle.type_store.specs.declared.cycle.Mark.{Mark}
use Rattle.type_store.specs.declared.cycle.Mark.TheVariants.{New, Open, Done}
use Rattle.type_store.specs.declared.cycle.Step.{Step}

no_step : Step
no_step = record { slot = 0; part = 0 }

upto : (p n m : ℕ) → m ≡ n + 1 → p < m → (p < n) ⊎ (p ≡ n)
upto p n m e l = ⊎_elim (λ h. inl h) (λ h. inr (omega arith)) (cases_lt p n)

-- ---- marks

marked_same : (marks : List Mark) (v : ℕ) (m : Mark) → v < length marks → mark_of (set marks v m) v ≡ m
marked_same marks v m l = get_or-set_same marks v m New l

marked_other : (marks : List Mark) (v u : ℕ) (m : Mark) → u ≢ v → mark_of (set marks v m) u ≡ mark_of marks u
marked_other marks v u m n = get_or-set_other marks v u m New n

new_not_open : (p : ℕ) → New ≡ Open p → ⊥
new_not_open p e = cc

new_not_done : (p : ℕ) → New ≡ Done p → ⊥
new_not_done p e = cc

open_not_done : (p n : ℕ) → Open p ≡ Done n → ⊥
open_not_done p n e = cc

same_open : (p q : ℕ) → Open p ≡ Open q → p ≡ q
same_open p q e = cc

same_done : (p q : ℕ) → Done p ≡ Done q → p ≡ q
same_done p q e = cc

-- what is done stays done
KeepsDone : List Mark → List Mark → Type 0
KeepsDone old new = (v n : ℕ) → mark_of old v ≡ Done n → mark_of new v ≡ Done n

still_done : (s : Store) (old new : List Mark) (v n m w : ℕ) → KeepsDone old new → n ≤ m → IsDoneBefore s old v n w → IsDoneBefore s new v m w
unfolding KeepsDone
still_done s old new v n m w keeps l h e = let r = h e in (r.0, keeps w r.0 r.1, omega (arith, r.2))

all_still_done : (s : Store) (old new : List Mark) (v n m : ℕ) (ws : List ℕ) → KeepsDone old new → n ≤ m → All (IsDoneBefore s old v n) ws → All (IsDoneBefore s new v m) ws
all_still_done s old new v n m ws keeps l h =
    All-weaker (IsDoneBefore s old v n) (IsDoneBefore s new v m) (λ w d. still_done s old new v n m w keeps l d) ws h

-- ---- the path

step_front : (path : List Step) (x : Step) (p : ℕ) → p < length path → step_at (path ++ x ∷ []) p ≡ step_at path p
step_front path x p l = get_or_append_left path (x ∷ []) (record { slot = 0; part = 0 }) p l

step_last : (path : List Step) (x : Step) (p : ℕ) → p ≡ length path → step_at (path ++ x ∷ []) p ≡ x
step_last path x p e = get_or_push path x (record { slot = 0; part = 0 }) p (sym e)

module _ {s : Store} {marks : List Mark} {path : List Step} {done : List ℕ} (w : IsWalk s marks path done) where
  -- a variable that was not seen yet, to which the path leads
  module _ (v : ℕ) (l : v < length s) (e : mark_of marks v ≡ New) (reached : (p : ℕ) → p < length path → Leads s (step_at path p).slot v) where
    abbrev opened_marks : List Mark
    opened_marks = set marks v (Open (length path))

    abbrev opened_path : List Step
    opened_path = path ++ record { slot = v; part = 0 } ∷ []

    open_same : mark_of opened_marks v ≡ Open (length path)
    open_same = marked_same marks v (Open (length path)) (omega (arith, l, w.all))

    open_keeps : KeepsDone marks opened_marks
    unfolding KeepsDone
    open_keeps u n d = marked_other marks v u (Open (length path)) (λ q. new_not_done n (sym e ∙ (ap (mark_of marks) (sym q) ∙ d))) ∙ d

    open_longer : length opened_path ≡ length path + 1
    open_longer = length_push path (record { slot = v; part = 0 })

    open_step : (P : ℕ → Step → Type 0) → ((p : ℕ) → p < length path → P p (step_at path p)) → P (length path) (record { slot = v; part = 0 })
        → (p : ℕ) → p < length opened_path → P p (step_at opened_path p)
    open_step P old new p k =
        ⊎_elim (λ h. subst (P p) (sym (step_front path (record { slot = v; part = 0 }) p h)) (old p h))
        (λ h. subst (λ q. P q (step_at opened_path q)) (sym h) (subst (P (length path)) (sym (step_last path (record { slot = v; part = 0 }) (length path) refl)) new))
        (upto p (length path) (length opened_path) open_longer k)

    open_marked : (u p : ℕ) → mark_of marks u ≡ Open p → mark_of opened_marks u ≡ Open p
    open_marked u p d = marked_other marks v u (Open (length path)) (λ q. new_not_open p (sym e ∙ (ap (mark_of marks) (sym q) ∙ d))) ∙ d

    open_on_path : (u p : ℕ) → mark_of opened_marks u ≡ Open p → (p < length opened_path) × ((step_at opened_path p).slot ≡ u)
    open_on_path u p d =
        ⊎_elim
        (λ q.
        let r : p ≡ length path = sym (same_open (length path) p (sym open_same ∙ (ap (mark_of opened_marks) (sym q) ∙ d))) in
        (omega (arith, r, open_longer), ap (λ x. x.slot) (step_last path (record { slot = v; part = 0 }) p r) ∙ sym q))
        (λ n.
        let r = w.on_path u p (sym (marked_other marks v u (Open (length path)) n) ∙ d) in
        (omega (arith, r.0, open_longer), ap (λ x. x.slot) (step_front path (record { slot = v; part = 0 }) p r.0) ∙ r.1))
        (cases_eq u v)

    open_leads : (p q : ℕ) → p < q → q < length opened_path → Leads s (step_at opened_path p).slot (step_at opened_path q).slot
    open_leads p q a b =
        let c : p < length path = omega (arith, a, b, open_longer) in
        subst (λ x. Leads s x.slot (step_at opened_path q).slot) (sym (step_front path (record { slot = v; part = 0 }) p c))
        (⊎_elim (λ h. subst (λ x. Leads s (step_at path p).slot x.slot) (sym (step_front path (record { slot = v; part = 0 }) q h)) (w.leads p q a h))
        (λ h. subst (λ x. Leads s (step_at path p).slot x.slot) (sym (step_last path (record { slot = v; part = 0 }) q h)) (reached p c))
        (upto q (length path) (length opened_path) open_longer b))

    pub opened : IsWalk s opened_marks opened_path done
    opened = record {
      all = omega (arith, w.all, length-set marks v (Open (length path)));
      on_path = open_on_path;
      marked = open_step (λ p x. mark_of opened_marks x.slot ≡ Open p) (λ p k. open_marked (step_at path p).slot p (w.marked p k)) open_same;
      within = open_step (λ p x. x.slot < length s) w.within l;
      leads = open_leads;
      looked = open_step (λ p x. IsLooked s opened_marks (length done) x)
          (λ p k. all_still_done s marks opened_marks (step_at path p).slot (length done) (length done)
          (take (step_at path p).part (parts_at s (step_at path p).slot)) open_keeps (omega arith) (w.looked p k))
          (All-nil (IsDoneBefore s opened_marks v (length done)));
      done_parts = λ u n d.
          let f : mark_of marks u ≡ Done n = ⊎_elim (λ q. absurd (open_not_done (length path) n (sym open_same ∙ (ap (mark_of opened_marks) (sym q) ∙ d))))
          (λ k. sym (marked_other marks v u (Open (length path)) k) ∙ d) (cases_eq u v) in
          all_still_done s marks opened_marks u n n (parts_at s u) open_keeps (omega arith) (w.done_parts u n f);
      done_at = λ u n d.
          let f : mark_of marks u ≡ Done n = ⊎_elim (λ q. absurd (open_not_done (length path) n (sym open_same ∙ (ap (mark_of opened_marks) (sym q) ∙ d))))
          (λ k. sym (marked_other marks v u (Open (length path)) k) ∙ d) (cases_eq u v) in
          w.done_at u n f;
      done_within = w.done_within;
    }

  -- ---- the last step

  module _ (last : ℕ) (at_end : length path ≡ last + 1) where
    last_in : last < length path
    last_in = omega (arith, at_end)

    -- the part that is looked at needs no further step
    module _ (part : ℕ) (there : slice_get (parts_at s (step_at path last).slot) (step_at path last).part ≡ Some part)
        (settled : IsDoneBefore s marks (step_at path last).slot (length done) part) where
      abbrev next_step : Step
      next_step = record { slot = (step_at path last).slot; part = (step_at path last).part + 1 }

      abbrev next_path : List Step
      next_path = set path last next_step

      next_same : step_at next_path last ≡ next_step
      next_same = get_or-set_same path last next_step (record { slot = 0; part = 0 }) last_in

      next_other : (p : ℕ) → p ≢ last → step_at next_path p ≡ step_at path p
      next_other p n = get_or-set_other path last p next_step (record { slot = 0; part = 0 }) n

      next_slot : (p : ℕ) → (step_at next_path p).slot ≡ (step_at path p).slot
      next_slot p = ⊎_elim (λ e. ap (λ q. (step_at next_path q).slot) e ∙ (ap (λ x. x.slot) next_same ∙ sym (ap (λ q. (step_at path q).slot) e))) (λ n. ap (λ x. x.slot) (next_other p n)) (cases_eq p last)

      next_length : length next_path ≡ length path
      next_length = length-set path last next_step

      next_looked : (p : ℕ) → p < length next_path → IsLooked s marks (length done) (step_at next_path p)
      next_looked p l =
          ⊎_elim
          (λ e. subst (IsLooked s marks (length done)) (sym (ap (step_at next_path) e ∙ next_same))
          (All-more (IsDoneBefore s marks (step_at path last).slot (length done)) (parts_at s (step_at path last).slot) (step_at path last).part 0
          (slice_get_within (parts_at s (step_at path last).slot) (step_at path last).part part there) (w.looked last last_in)
          (subst (IsDoneBefore s marks (step_at path last).slot (length done)) (sym (get_or_from_slice_get (parts_at s (step_at path last).slot) (step_at path last).part part 0 there)) settled)))
          (λ n. subst (IsLooked s marks (length done)) (sym (next_other p n)) (w.looked p (omega (arith, l, next_length))))
          (cases_eq p last)

      pub advanced : IsWalk s marks next_path done
      advanced = record {
        all = w.all;
        on_path = λ v p d. let r = w.on_path v p d in (omega (arith, r.0, next_length), next_slot p ∙ r.1);
        marked = λ p l. subst (λ v. mark_of marks v ≡ Open p) (sym (next_slot p)) (w.marked p (omega (arith, l, next_length)));
        within = λ p l. subst (λ v. v < length s) (sym (next_slot p)) (w.within p (omega (arith, l, next_length)));
        leads = λ p q a b.
            subst (λ v. Leads s v (step_at next_path q).slot) (sym (next_slot p))
            (subst (λ v. Leads s (step_at path p).slot v) (sym (next_slot q)) (w.leads p q a (omega (arith, b, next_length))));
        looked = next_looked;
        done_parts = w.done_parts;
        done_at = w.done_at;
        done_within = w.done_within;
      }

    -- all parts of the last variable are done
    module _ (none : slice_get (parts_at s (step_at path last).slot) (step_at path last).part ≡ None) where
      abbrev top : ℕ
      top = (step_at path last).slot

      abbrev closed_marks : List Mark
      closed_marks = set marks top (Done (length done))

      abbrev closed_path : List Step
      closed_path = take last path

      abbrev closed_done : List ℕ
      closed_done = done ++ top ∷ []

      top_open : mark_of marks top ≡ Open last
      top_open = w.marked last last_in

      closed_same : mark_of closed_marks top ≡ Done (length done)
      closed_same = marked_same marks top (Done (length done)) (omega (arith, w.within last last_in, w.all))

      closed_other : (v : ℕ) → v ≢ top → mark_of closed_marks v ≡ mark_of marks v
      closed_other v n = marked_other marks top v (Done (length done)) n

      closed_keeps : KeepsDone marks closed_marks
      unfolding KeepsDone
      closed_keeps v n d = closed_other v (λ q. open_not_done last n (sym top_open ∙ (ap (mark_of marks) (sym q) ∙ d))) ∙ d

      closed_longer : length closed_done ≡ length done + 1
      closed_longer = length_push done top

      closed_shorter : length closed_path ≡ last
      closed_shorter = length-take-le last path (omega (arith, at_end))

      closed_step : (p : ℕ) → p < last → step_at closed_path p ≡ step_at path p
      closed_step p l = get_or-take last path p (record { slot = 0; part = 0 }) l

      no_part : length (parts_at s top) ≤ (step_at path last).part
      no_part =
          ⊎_elim
          (λ l. absurd (none_some (sym none ∙ slice_get-get_or (parts_at s top) (step_at path last).part 0 l)))
          (λ h. h) (cases_lt (step_at path last).part (length (parts_at s top)))
        where
          none_some : {x : ℕ} → None ≡ Some x → ⊥
          none_some e = cc

      all_done : All (IsDoneBefore s marks top (length done)) (parts_at s top)
      all_done =
          subst (All (IsDoneBefore s marks top (length done))) (take_all (step_at path last).part (parts_at s top) no_part) (w.looked last last_in)

      closed_on_path : (v p : ℕ) → mark_of closed_marks v ≡ Open p → (p < length closed_path) × ((step_at closed_path p).slot ≡ v)
      closed_on_path v p d =
          ⊎_elim (λ q. absurd (open_not_done p (length done) (sym d ∙ (ap (mark_of closed_marks) q ∙ closed_same))))
          (λ n.
          let r = w.on_path v p (sym (closed_other v n) ∙ d) in
          let l : p < last = ⊎_elim (λ h. h) (λ e. absurd (n (sym r.1 ∙ ap (λ q. (step_at path q).slot) e))) (upto p last (length path) at_end r.0) in
          (omega (arith, l, closed_shorter), ap (λ x. x.slot) (closed_step p l) ∙ r.1))
          (cases_eq v top)

      closed_marked : (p : ℕ) → p < last → mark_of closed_marks (step_at path p).slot ≡ Open p
      closed_marked p l =
          let m : mark_of marks (step_at path p).slot ≡ Open p = w.marked p (omega (arith, l, at_end)) in
          closed_other (step_at path p).slot
          (λ e. let r = same_open p last (sym m ∙ (ap (mark_of marks) e ∙ top_open)) in omega (arith, r, l)) ∙ m

      closed_parts : (v n : ℕ) → mark_of closed_marks v ≡ Done n → All (IsDoneBefore s closed_marks v n) (parts_at s v)
      closed_parts v n d =
          ⊎_elim
          (λ q.
          let r : length done ≡ n = same_done (length done) n (sym closed_same ∙ (ap (mark_of closed_marks) (sym q) ∙ d)) in
          subst (λ u. All (IsDoneBefore s closed_marks u n) (parts_at s u)) (sym q)
          (all_still_done s marks closed_marks top (length done) n (parts_at s top) closed_keeps (omega (arith, r)) all_done))
          (λ k. all_still_done s marks closed_marks v n n (parts_at s v) closed_keeps (omega arith) (w.done_parts v n (sym (closed_other v k) ∙ d)))
          (cases_eq v top)

      closed_at : (v n : ℕ) → mark_of closed_marks v ≡ Done n → (n < length closed_done) × (get_or closed_done n 0 ≡ v)
      closed_at v n d =
          ⊎_elim
          (λ q.
          let r : length done ≡ n = same_done (length done) n (sym closed_same ∙ (ap (mark_of closed_marks) (sym q) ∙ d)) in
          (omega (arith, r, closed_longer), get_or_push done top 0 n r ∙ sym q))
          (λ k.
          let r = w.done_at v n (sym (closed_other v k) ∙ d) in
          (omega (arith, r.0, closed_longer), get_or_append_left done (top ∷ []) 0 n r.0 ∙ r.1))
          (cases_eq v top)

      pub closed : IsWalk s closed_marks closed_path closed_done
      closed = record {
        all = omega (arith, w.all, length-set marks top (Done (length done)));
        on_path = closed_on_path;
        marked = λ p l.
            let m : p < last = omega (arith, l, closed_shorter) in
            subst (λ x. mark_of closed_marks x.slot ≡ Open p) (sym (closed_step p m)) (closed_marked p m);
        within = λ p l.
            let m : p < last = omega (arith, l, closed_shorter) in
            subst (λ x. x.slot < length s) (sym (closed_step p m)) (w.within p (omega (arith, m, at_end)));
        leads = λ p q a b.
            let m : q < last = omega (arith, b, closed_shorter) in
            let k : p < last = omega (arith, a, m) in
            subst (λ x. Leads s x.slot (step_at closed_path q).slot) (sym (closed_step p k))
            (subst (λ x. Leads s (step_at path p).slot x.slot) (sym (closed_step q m)) (w.leads p q a (omega (arith, m, at_end))));
        looked = λ p l.
            let m : p < last = omega (arith, l, closed_shorter) in
            subst (IsLooked s closed_marks (length closed_done)) (sym (closed_step p m))
            (all_still_done s marks closed_marks (step_at path p).slot (length done) (length closed_done)
            (take (step_at path p).part (parts_at s (step_at path p).slot)) closed_keeps (omega (arith, closed_longer)) (w.looked p (omega (arith, m, at_end))));
        done_parts = closed_parts;
        done_at = closed_at;
        done_within = All-push (λ v. v < length s) done top w.done_within (w.within last last_in);
      }

    -- what the last variable names
    module _ (part : ℕ) (there : slice_get (parts_at s (step_at path last).slot) (step_at path last).part ≡ Some part) where
      is_part : Contains (parts_at s (step_at path last).slot) part
      is_part = (
        (step_at path last).part,
        slice_get_within (parts_at s (step_at path last).slot) (step_at path last).part part there,
        get_or_from_slice_get (parts_at s (step_at path last).slot) (step_at path last).part part part there,
      )

      -- the path leads to it
      pub reached : (p : ℕ) → p < length path → Leads s (step_at path p).slot part
      reached p l =
          ⊎_elim (λ h. further (step_at path p).slot (step_at path last).slot part (w.leads p last h last_in) is_part)
          (λ e. to_part (step_at path p).slot part (subst (λ q. Contains (parts_at s (step_at path q).slot) part) (sym e) is_part))
          (upto p last (length path) at_end l)

      -- if it stands on the path, it leads to itself
      pub ring : (p : ℕ) → mark_of marks part ≡ Open p → Leads s part part
      ring p d = let r = w.on_path part p d in subst (λ v. Leads s v part) r.1 (reached p r.0)
