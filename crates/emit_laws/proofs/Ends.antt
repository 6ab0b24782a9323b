-- Ends on both sides, where nothing is metered.
use Rattle.std.proofs.Common.{◌≡◌, ℕ, List, refl}
use Rattle.runs.specs.Ends.{End, Val, Crashed, OutOfFuel, Unsafe, Stuck, then_do, Metered, MVal, MCrashed, MOutOfFuel, MUnsafe, MStuck, and_then, with_budget}
use Rattle.runs.specs.Pay.{Follows, gives, crashes, starves, unclaimed_unsafe, unclaimed_stuck}
use Rattle.runs.proofs.Spends.{spends_none}

-- values that stand for each other, or the same end; of one that is Unsafe or Stuck nothing is claimed
pub data EndFor {A B : Type 0} (R : A → B → Type 0) : End A → End B → Type 0 where
  both_give : {a : A} {b : B} → R a b → EndFor R (Val a) (Val b)
  both_crash : {t : List ℕ} → EndFor R (Crashed t) (Crashed t)
  both_starve : EndFor R OutOfFuel OutOfFuel
  any_unsafe : {o : End B} → EndFor R Unsafe o
  any_stuck : {o : End B} → EndFor R Stuck o

pub end_then : {A B C D : Type 0} {R : A → B → Type 0} {S : C → D → Type 0} {o : End A} {p : End B} (f : A → End C) (g : B → End D) → EndFor R o p → ((a : A) (b : B) → R a b → EndFor S (f a) (g b)) → EndFor S (then_do o f) (then_do p g)
end_then f g (both_give {a} {b} r) next = next a b r
end_then f g both_crash next = both_crash
end_then f g both_starve next = both_starve
end_then f g any_unsafe next = any_unsafe
end_then f g any_stuck next = any_stuck

pub end_right : {A B C : Type 0} {R : A → B → Type 0} {S : A → C → Type 0} {o : End A} {p : End B} (g : B → End C) → EndFor R o p → ((a : A) (b : B) → R a b → EndFor S (Val a) (g b)) → EndFor S o (then_do p g)
end_right g (both_give {a} {b} r) next = next a b r
end_right g both_crash next = both_crash
end_right g both_starve next = both_starve
end_right g any_unsafe next = any_unsafe
end_right g any_stuck next = any_stuck

pub follows_end : {A B : Type 0} {R : A → B → Type 0} {n : ℕ} {o : End A} {p : End B} → EndFor R o p → Follows R n o (λ _ m. with_budget p m)
follows_end (both_give {b} r) = gives b r spends_none
follows_end both_crash = crashes spends_none
follows_end both_starve = starves (λ b m le ln. refl)
follows_end any_unsafe = unclaimed_unsafe
follows_end any_stuck = unclaimed_stuck

-- ---- stretches, however they are put together

pub and_and : {A B C : Type 0} (o : Metered A) (f : A → ℕ → Metered B) (g : B → ℕ → Metered C) → and_then (and_then o f) g ≡ and_then o (λ a m. and_then (f a m) g)
and_and (MVal a m) f g = refl
and_and (MCrashed t) f g = refl
and_and MOutOfFuel f g = refl
and_and MUnsafe f g = refl
and_and MStuck f g = refl

pub and_same : {A B : Type 0} (o : Metered A) {f g : A → ℕ → Metered B} → ((a : A) (m : ℕ) → f a m ≡ g a m) → and_then o f ≡ and_then o g
and_same (MVal a m) h = h a m
and_same (MCrashed t) h = refl
and_same MOutOfFuel h = refl
and_same MUnsafe h = refl
and_same MStuck h = refl

-- what takes nothing of the budget
pub budget_then : {A B : Type 0} (o : End A) (f : A → End B) (m : ℕ) → with_budget (then_do o f) m ≡ and_then (with_budget o m) (λ a k. with_budget (f a) k)
budget_then (Val a) f m = refl
budget_then (Crashed t) f m = refl
budget_then OutOfFuel f m = refl
budget_then Unsafe f m = refl
budget_then Stuck f m = refl
