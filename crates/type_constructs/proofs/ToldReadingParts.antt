-- What holds of the type of a variable where it holds of the types of its parts.
use Rattle.std.proofs.Common.{◌≡◌, ℕ, zero, suc, ◌<◌, List, [], ◌∷◌, length, false, refl, sym, subst, arith}
use Rattle.std.specs.List.{AllByRecursion}
use Rattle.type_store.specs.Store.{Cell, Open, Bound, Built, Row, Constant, Store, slot_at}
use Rattle.type_store.specs.Shape.{IsStore, parts_of}
use Rattle.type_store.specs.Steps.{is_bound}
use Rattle.type_schemes.specs.Ends.{follow, end_in, end_of}
use Rattle.type_schemes.specs.Order.{IsListed, PartsFirst}
use Rattle.type_schemes.specs.Walk.{Ranks}
use Rattle.type_schemes.proofs.Ends.{ranks_of, end_rank}
use Rattle.type_schemes.specs.Reading.{Graph, read_cell, read_in}
use Rattle.type_schemes.specs.Bases.{type_in}
use Rattle.type_schemes.proofs.Types.{parts_listed, read_is}
use Rattle.type_schemes.proofs.Listed.{listed_inside, listed_free}

-- ---- chains of variables that are bound

module _ (s : Store) (R : ℕ → ℕ → Type 0) (here : (v : ℕ) → R v v)
    (through : (v w u : ℕ) → (slot_at s v).cell ≡ Bound w → R w u → R v u) where
  followed : (f : ℕ → ℕ) → ((w : ℕ) → R w (f w)) → (v : ℕ) (c : Cell) → (slot_at s v).cell ≡ c → R v (follow f v c)
  followed f h v Open e = here v
  followed f h v (Bound w) e = through v w (f w) e (h w)
  followed f h v (Built b ws) e = here v
  followed f h v (Row fs end) e = here v
  followed f h v (Constant r) e = here v

  in_steps : (n v : ℕ) → R v (end_in n s v)
  unfolding end_in
  in_steps zero v = here v
  in_steps (suc n) v = followed (end_in n s) (in_steps n) v (slot_at s v).cell refl

  -- what holds of a variable and the end of its chain
  pub to_end : (v : ℕ) → R v (end_of s v)
  unfolding end_of
  to_end v = in_steps (suc v) v

-- ---- types

module _ (s : Store) (whole : IsStore s) (older : List ℕ) (first : PartsFirst 0 s older) (P : ℕ → Graph → Type 0)
    (step : (v : ℕ) → v < length s → is_bound (slot_at s v).cell ≡ false
    → AllByRecursion (λ w. P (end_of s w) (type_in s older w)) (parts_of (slot_at s v).cell)
    → P v (read_cell (type_in s older) v (slot_at s v).cell)) where
  abbrev ranks : Ranks s
  ranks = ranks_of s whole

  abbrev Holds : ℕ → Type 0
  Holds w = P (end_of s w) (type_in s older w)

  under : (n v : ℕ) → ((u : ℕ) → ranks.rank u < n → IsListed older u → P u (read_in s older u)) → ranks.rank v < suc n
      → (ws : List ℕ)
      → AllByRecursion (λ w. ranks.rank w < ranks.rank v) ws → AllByRecursion (λ w. IsListed older (end_of s w)) ws →
      AllByRecursion Holds ws
  under n v again l [] r h = tt
  under n v again l (w ∷ ws) r h = (
    (let e = end_rank s ranks w in again (end_of s w) (omega (arith, e, r.0, l)) h.0),
    under n v again l ws r.1 h.1,
  )

  by_rank : (n v : ℕ) → ranks.rank v < n → IsListed older v → P v (read_in s older v)
  by_rank zero v l h = absurd (omega (arith, l))
  by_rank (suc n) v l h =
      subst (P v) (sym (read_is s older v first h))
      (step v (listed_inside s older v first h) (listed_free s older v first h)
      (under n v (by_rank n) l (parts_of (slot_at s v).cell) (ranks.each v) (parts_listed s older v first h)))

  -- so it holds of each variable that is listed
  pub of_listed : (v : ℕ) → IsListed older v → P v (read_in s older v)
  of_listed v h = by_rank (suc (ranks.rank v)) v (omega arith) h
