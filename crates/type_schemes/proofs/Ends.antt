-- Where chains of variables that are bound end.
use Rattle.std.proofs.Common.{◌≡◌, ℕ, zero, suc, ◌<◌, ◌≤◌, length, false, refl, sym, ap, ◌∙◌, subst, arith, ⊎_elim}
use Rattle.std.specs.List.{AllByRecursion}
use Rattle.std.proofs.lemmas.Bool.{cases_lt}
use Rattle.std.proofs.lemmas.List.Elements.{recursion_from_All}
use Rattle.type_store.specs.Store.{Cell, Open, Bound, Built, Row, Constant, Slot, Store, slot_at}
use Rattle.type_store.specs.Shape.{IsCell, IsStore, parts_of}
use Rattle.type_store.specs.Steps.{Leads, Here, Through, is_bound}
use Rattle.type_store.proofs.Parts.{slot_past}
use Rattle.type_schemes.specs.Ends.{follow, end_in, end_of}
use Rattle.type_schemes.specs.Walk.{Ranks}

free_follow : (f : ℕ → ℕ) (v : ℕ) (c : Cell) → is_bound c ≡ false → follow f v c ≡ v
free_follow f v Open e = refl
free_follow f v (Bound w) e = absurd (cc)
free_follow f v (Built h ws) e = refl
free_follow f v (Row fs end) e = refl
free_follow f v (Constant r) e = refl

pub cell_is : (s : Store) → IsStore s → (v : ℕ) → IsCell v (slot_at s v).cell
cell_is s whole v =
    ⊎_elim (λ l. (whole.each v l).cell) (λ h. subst (λ (x : Slot). IsCell v x.cell) (sym (slot_past s v h)) tt) (cases_lt v (length s))

end_in_is : (s : Store) → IsStore s → (v u n : ℕ) → v < n → Leads s v u → is_bound (slot_at s u).cell ≡ false → end_in n s v ≡ u
unfolding end_in
end_in_is s whole v u zero l h b = absurd (omega (arith, l))
end_in_is s whole v u (suc n) l (Here x) b = free_follow (end_in n s) v (slot_at s v).cell b
end_in_is s whole v u (suc n) l (Through x y z e h) b =
    let c : y < v = subst (IsCell v) e (cell_is s whole v) in
    ap (follow (end_in n s) v) e ∙ end_in_is s whole y u n (omega (arith, c, l)) h b

pub end_is : (s : Store) → IsStore s → (v u : ℕ) → Leads s v u → is_bound (slot_at s u).cell ≡ false → end_of s v ≡ u
unfolding end_of
end_is s whole v u h b = end_in_is s whole v u (suc v) (omega arith) h b

-- ---- ranks

pub ranks_of : (s : Store) → IsStore s → Ranks s
ranks_of s whole = record {
  rank = whole.ranked.rank;
  each = λ v. recursion_from_All (λ w. whole.ranked.rank w < whole.ranked.rank v) (parts_of (slot_at s v).cell) (whole.ranked.each v);
}

follow_rank : (rank f : ℕ → ℕ) (v : ℕ) → ((w : ℕ) → rank (f w) ≤ rank w) → (c : Cell) → AllByRecursion (λ w. rank w < rank v) (parts_of c)
    → rank (follow f v c) ≤ rank v
follow_rank rank f v g Open h = omega arith
follow_rank rank f v g (Bound w) h = let i = g w in omega (arith, i, h.0)
follow_rank rank f v g (Built b ws) h = omega arith
follow_rank rank f v g (Row fs end) h = omega arith
follow_rank rank f v g (Constant c) h = omega arith

end_in_rank : (s : Store) (r : Ranks s) (n v : ℕ) → r.rank (end_in n s v) ≤ r.rank v
unfolding end_in
end_in_rank s r zero v = omega arith
end_in_rank s r (suc n) v = follow_rank r.rank (end_in n s) v (end_in_rank s r n) (slot_at s v).cell (r.each v)

pub end_rank : (s : Store) (r : Ranks s) (v : ℕ) → r.rank (end_of s v) ≤ r.rank v
unfolding end_of
end_rank s r v = end_in_rank s r (suc v) v
