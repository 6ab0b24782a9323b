-- The comparison of runs: an equivalence, and exact where a run is not cut off.
use Rattle.std.proofs.Common.{◌≡◌, ℕ, refl, ap}
use Rattle.runs.specs.Trace.{Trace, Ends, Then, Covers, cut_off, same_last, same_event, SameRun, IsCutOff}

-- a run covers itself
covers_itself : (a : Trace) → Covers a a
covers_itself (Ends l) = same_last
covers_itself (Then e a) = same_event (covers_itself a)

-- what covers one that covers a covers a
covers_through : {a b c : Trace} → Covers a b → Covers b c → Covers a c
covers_through cut_off q = cut_off
covers_through same_last q = q
covers_through (same_event p) (same_event q) = same_event (covers_through p q)

-- a run that is not cut off is covered by itself alone
covers_exactly : {a b : Trace} → Covers a b → (IsCutOff a → ⊥) → b ≡ a
covers_exactly cut_off whole = absurd (whole tt)
covers_exactly same_last whole = refl
covers_exactly (same_event {e} c) whole = ap (Then e) (covers_exactly c whole)

-- each run is the same as itself
pub same_run_itself : (f : ℕ → Trace) → SameRun f f
same_run_itself f = record { there = λ n. (n, covers_itself (f n)); back = λ m. (m, covers_itself (f m)) }

-- through a third run
pub same_run_through : {f g h : ℕ → Trace} → SameRun f g → SameRun g h → SameRun f h
same_run_through p q = record {
  there = λ n. let m = p.there n in let k = q.there m.0 in (k.0, covers_through m.1 k.1);
  back = λ k. let m = q.back k in let n = p.back m.0 in (n.0, covers_through m.1 n.1);
}

-- what a run does that is not cut off, the other one does
pub same_run_exactly : {f g : ℕ → Trace} → SameRun f g → (n : ℕ) → (IsCutOff (f n) → ⊥) → (m : ℕ) × (g m ≡ f n)
same_run_exactly p n whole = let m = p.there n in (m.0, covers_exactly m.1 whole)
