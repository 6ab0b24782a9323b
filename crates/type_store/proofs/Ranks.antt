-- The places of those that are done are ranks: once all changed variables are done, no type is a part of itself.
use Rattle.std.proofs.Common.{◌≡◌, ℕ, zero, suc, ◌+◌, ◌*◌, ◌<◌, ◌≤◌, List, ⊎_elim, length, refl, sym, ap, ◌∙◌, arith}
use Rattle.std.proofs.Math.Nat.{mul-le-mul_left}
use Rattle.std.specs.List.{All, Contains}
use Rattle.std.proofs.lemmas.Bool.{cases_lt}
use Rattle.std.proofs.lemmas.List.Elements.{All-weaker, All-contains}
use Rattle.type_store.specs.Store.{Store, slot_at}
use Rattle.type_store.specs.Shape.{Ranked}
use Rattle.type_store.specs.Cycles.{parts_at, RankedBut, IsSearchable, mark_of, IsDoneBefore, IsWalk}
use Rattle.type_store.specs.declared.cycle.Mark.{Mark}
use Rattle.type_store.specs.declared.cycle.Mark.TheVariants.{New, Open, Done}
use Rattle.type_store.specs.declared.cycle.Step.{Step}
use Rattle.type_store.proofs.Parts.{all_with}

-- finitely many numbers have a number above them
above : (f : ℕ → ℕ) (n : ℕ) → (m : ℕ) × ((v : ℕ) → v < n → f v < m)
above f zero = (0, λ v l. absurd (omega (arith, l)))
above f (suc n) =
    let r = above f n in (
      r.0 + f n + 1,
      λ v l. ⊎_elim (λ h. let k = r.1 v h in omega (arith, k)) (λ h. let e : v ≡ n = omega (arith, h, l) in let g = ap f e in omega (arith, g)) (cases_lt v n),
    )

module _ (s : Store) (changed : List ℕ) (ranks : RankedBut s changed) (shape : IsSearchable s)
    (marks : List Mark) (path : List Step) (done : List ℕ) (w : IsWalk s marks path done)
    (all_done : All (λ v. (n : ℕ) × (mark_of marks v ≡ Done n)) changed) where
  by_mark : Mark → ℕ → ℕ
  by_mark New v = length done + ranks.rank v
  by_mark (Open p) v = length done + ranks.rank v
  by_mark (Done n) v = n

  low : ℕ → ℕ
  low v = by_mark (mark_of marks v) v

  low_done : (v n : ℕ) → mark_of marks v ≡ Done n → low v ≡ n
  unfolding low by_mark
  low_done v n e = ap (λ m. by_mark m v) e

  -- each is done, or stands after those that are done
  data Place (v : ℕ) : Type 0 where
    is_done : (n : ℕ) → mark_of marks v ≡ Done n → Place v
    not_done : ((n : ℕ) → mark_of marks v ≡ Done n → ⊥) → low v ≡ length done + ranks.rank v → Place v

  place : (v : ℕ) → Place v
  unfolding low by_mark
  place v = go (mark_of marks v) refl
    where
      new_not_done : (n : ℕ) → New ≡ Done n → ⊥
      new_not_done n e = cc

      open_not_done : (p n : ℕ) → Open p ≡ Done n → ⊥
      open_not_done p n e = cc

      go : (m : Mark) → mark_of marks v ≡ m → Place v
      go New e = not_done (λ n f. new_not_done n (sym e ∙ f)) (ap (λ m. by_mark m v) e)
      go (Open p) e = not_done (λ n f. open_not_done p n (sym e ∙ f)) (ap (λ m. by_mark m v) e)
      go (Done n) e = is_done n e

  not_changed : (v : ℕ) → ((n : ℕ) → mark_of marks v ≡ Done n → ⊥) → Contains changed v → ⊥
  not_changed v h c = let r = All-contains (λ v. (n : ℕ) × (mark_of marks v ≡ Done n)) changed v all_done c in h r.0 r.1

  level_lower : (v : ℕ) → All (λ u. (slot_at s u).depth ≡ (slot_at s v).depth → low u < low v) (parts_at s v)
  level_lower v = go (place v)
    where
      go : Place v → All (λ u. (slot_at s u).depth ≡ (slot_at s v).depth → low u < low v) (parts_at s v)
      go (is_done n e) =
          All-weaker (IsDoneBefore s marks v n) (λ u. (slot_at s u).depth ≡ (slot_at s v).depth → low u < low v)
          (λ u d same. let r = d same in omega (arith, low_done v n e, low_done u r.0 r.1, r.2)) (parts_at s v) (w.done_parts v n e)
      go (not_done h e) =
          All-weaker (λ u. ranks.rank u < ranks.rank v) (λ u. (slot_at s u).depth ≡ (slot_at s v).depth → low u < low v)
          (λ u l same. at u l (place u)) (parts_at s v) (ranks.each v (not_changed v h))
        where
          at : (u : ℕ) → ranks.rank u < ranks.rank v → Place u → low u < low v
          at u l (is_done n f) = let r = w.done_at u n f in omega (arith, low_done u n f, e, r.0)
          at u l (not_done k f) = omega (arith, l, e, f)

  room : ℕ
  room = (above low (length s)).0

  in_room : (v : ℕ) → v < length s → low v < room
  unfolding room
  in_room v l = (above low (length s)).1 v l

  rank_of : ℕ → ℕ
  rank_of v = room * (slot_at s v).depth + low v

  falls : (m d e a b : ℕ) → d ≤ e → a < m → (d ≡ e → a < b) → m * d + a < m * e + b
  falls m d e a b l k h =
      ⊎_elim
      (λ n. let r = mul-le-mul_left m (let q : d + 1 ≤ e = omega (arith, n) in q) in let t : m * (d + 1) ≡ m * d + m = omega arith in omega (arith, r, t, k))
      (λ n. let q : d ≡ e = omega (arith, n, l) in let t = ap (λ x. m * x) q in let r = h q in omega (arith, t, r))
      (cases_lt d e)

  pub all_ranked : Ranked s
  unfolding rank_of
  all_ranked = record {
    rank = rank_of;
    each = λ v.
        all_with (λ u. (u < length s) × ((slot_at s u).depth ≤ (slot_at s v).depth)) (λ u. (slot_at s u).depth ≡ (slot_at s v).depth → low u < low v)
        (λ u. rank_of u < rank_of v) (parts_at s v)
        (λ u a b. falls room (slot_at s u).depth (slot_at s v).depth (low u) (low v) a.1 (in_room u a.0) b)
        (all_with (λ u. u < length s) (λ u. (slot_at s u).depth ≤ (slot_at s v).depth) (λ u. (u < length s) × ((slot_at s u).depth ≤ (slot_at s v).depth))
        (parts_at s v) (λ u a b. (a, b)) (shape.inside v) (shape.levelled v))
        (level_lower v);
  }
