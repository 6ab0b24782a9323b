-- Stretches of metered runs, and how a metered run follows a nested one: one after the other, and after a call.
use Rattle.std.proofs.Common.{◌≡◌, ℕ, zero, suc, ◌≤◌, ◌⊎◌, inl, inr, refl, ap, ◌∙◌, arith}
use Rattle.runs.specs.Ends.{End, Val, Crashed, OutOfFuel, Unsafe, Stuck, then_do, Metered, MVal, MCrashed, MOutOfFuel}
use Rattle.runs.specs.Ends.{and_then, with_budget}
use Rattle.runs.specs.Pay.{pay, Run, Spends, Follows, gives, crashes, starves, unclaimed_unsafe, unclaimed_stuck}

-- what comes after a payment is paid for as well
pub pay_then : {A B : Type 0} (c m : ℕ) (f : ℕ → Metered A) (g : A → ℕ → Metered B) → and_then (pay c m f) g ≡ pay c m (λ k. and_then (f k) g)
pay_then zero m f g = refl
pay_then (suc c) zero f g = refl
pay_then (suc c) (suc m) f g = pay_then c m f g

-- equal runs at each budget that may be left
pub pay_same : {A : Type 0} (c m : ℕ) (f g : ℕ → Metered A) → ((k : ℕ) → k ≤ m → f k ≡ g k) → pay c m f ≡ pay c m g
pay_same zero m f g h = h m (omega arith)
pay_same (suc c) zero f g h = refl
pay_same (suc c) (suc m) f g h = pay_same c m f g (λ k le. h k (omega arith))

-- what runs out at each budget that may be left runs out
pub pay_out : {A : Type 0} (c m : ℕ) (f : ℕ → Metered A) → ((k : ℕ) → k ≤ m → f k ≡ MOutOfFuel) → pay c m f ≡ MOutOfFuel
pay_out zero m f h = h m (omega arith)
pay_out (suc c) zero f h = refl
pay_out (suc c) (suc m) f h = pay_out c m f (λ k le. h k (omega arith))

-- two payments are one
pub pay_pay : {A : Type 0} (c d : ℕ) → (t : ℕ) × ((m : ℕ) (f : ℕ → Metered A) → pay c m (λ k. pay d k f) ≡ pay t m f)
pay_pay zero d = (d, λ m f. refl)
pay_pay {A} (suc c) d = let r = pay_pay {A = A} c d in (suc r.0, elim [ zero ↦ λ f. refl | suc m ↦ λ f. r.1 m f ])

-- a payment of the whole budget
pub pay_exact : {A : Type 0} (c : ℕ) (f : ℕ → Metered A) → pay c c f ≡ f zero
pay_exact zero f = refl
pay_exact (suc c) f = pay_exact c f

-- a budget that is enough
pub pay_enough : {A : Type 0} (c m : ℕ) (t : ℕ → Metered A) → c ≤ m → (r : ℕ) × (pay c m t ≡ t r)
pay_enough zero m t le = (m, refl)
pay_enough (suc c) zero t le = absurd (omega arith)
pay_enough (suc c) (suc m) t le = pay_enough c m t (omega arith)

-- any budget: it is enough, or runs out
pub pay_or_out : {A : Type 0} (c m : ℕ) (t : ℕ → Metered A) → (pay c m t ≡ MOutOfFuel) ⊎ ((r : ℕ) × (pay c m t ≡ t r))
pay_or_out zero m t = inr (m, refl)
pay_or_out (suc c) zero t = inl refl
pay_or_out (suc c) (suc m) t = pay_or_out c m t

-- a run goes on as itself
pub spends_none : {A : Type 0} {f : Run A} → Spends f f
spends_none = record { cost = zero; by = λ b m le. refl }

-- one stretch after another
pub spends_on : {A : Type 0} {f g h : Run A} → Spends f g → Spends g h → Spends f h
spends_on {A} {f} {g} {h} p q =
    let r = pay_pay {A = A} p.cost q.cost in
    record {
      cost = r.0;
      by = λ b m le. p.by b m le ∙ pay_same p.cost m (g b) (λ k. pay q.cost k (h b)) (λ k l. q.by b k (omega arith)) ∙ r.1 m (h b);
    }

-- a stretch, with what follows from the value
pub spends_then : {A B : Type 0} {f g : Run A} (h : ℕ → A → ℕ → Metered B) → Spends f g → Spends (λ b m. and_then (f b m) (h b)) (λ b m. and_then (g b m) (h b))
spends_then {f} {g} h p = record {
  cost = p.cost;
  by = λ b m le. ap (λ o. and_then o (h b)) (p.by b m le) ∙ pay_then p.cost m (g b) (h b);
}

-- equal at each budget
pub spends_same : {A : Type 0} {f g : Run A} → ((b m : ℕ) → f b m ≡ g b m) → Spends f g
spends_same h = record { cost = zero; by = λ b m le. h b m }

-- a run after one call, which takes one unit
abbrev pub behind : {A : Type 0} → Run A → Run A
behind f zero m = MOutOfFuel
behind f (suc b) zero = MOutOfFuel
behind f (suc b) (suc m) = f b m

-- a run that goes on as one that does not ask for the bound: after a call it costs one unit more
pub spends_call : {A : Type 0} {f : Run A} (t : ℕ → Metered A) → Spends f (λ _ m. t m) → Spends (behind f) (λ _ m. t m)
spends_call {A} {f} t p = record { cost = suc p.cost; by = go }
  where
    go : (b m : ℕ) → m ≤ b → behind f b m ≡ pay (suc p.cost) m t
    go zero zero le = refl
    go zero (suc m) le = absurd (omega arith)
    go (suc b) zero le = refl
    go (suc b) (suc m) le = p.by b m (omega arith)

-- after a stretch
pub follows_after : {A B : Type 0} {R : A → B → Type 0} {n : ℕ} {o : End A} {f g : Run B} → Spends f g → Follows R n o g → Follows R n o f
follows_after p (gives b r q) = gives b r (spends_on p q)
follows_after p (crashes q) = crashes (spends_on p q)
follows_after p (starves h) = starves (λ b m le ln. p.by b m le ∙ pay_out p.cost m _ (λ k l. h b k (omega arith) (omega arith)))
follows_after p unclaimed_unsafe = unclaimed_unsafe
follows_after p unclaimed_stuck = unclaimed_stuck

-- one run and what follows from its value
pub follows_then : {A B C D : Type 0} {R : A → B → Type 0} {S : C → D → Type 0} {n : ℕ} {o : End A} {f : Run B} (go : A → End C) (h : ℕ → B → ℕ → Metered D) → Follows R n o f → ((a : A) (b : B) → R a b → Follows S n (go a) (λ c. h c b)) → Follows S n (then_do o go) (λ b m. and_then (f b m) (h b))
follows_then go h (gives {a} b r p) next = follows_after (spends_then h p) (next a b r)
follows_then go h (crashes p) next = crashes (spends_then h p)
follows_then go h (starves q) next = starves (λ b m le ln. ap (λ o. and_then o (h b)) (q b m le ln))
follows_then go h unclaimed_unsafe next = unclaimed_unsafe
follows_then go h unclaimed_stuck next = unclaimed_stuck

-- after a call, whose body has one unit of fuel less
pub follows_call : {A B : Type 0} {R : A → B → Type 0} {n : ℕ} {o : End A} {f : Run B} → Follows R n o f → Follows R (suc n) o (behind f)
follows_call (gives b r p) = gives b r (spends_call (λ m. MVal b m) p)
follows_call (crashes {t} p) = crashes (spends_call (λ _. MCrashed t) p)
follows_call {n} (starves {f} h) = starves go
  where
    go : (b m : ℕ) → m ≤ b → m ≤ suc n → behind f b m ≡ MOutOfFuel
    go zero m le ln = refl
    go (suc b) zero le ln = refl
    go (suc b) (suc m) le ln = h b m (omega arith) (omega arith)
follows_call unclaimed_unsafe = unclaimed_unsafe
follows_call unclaimed_stuck = unclaimed_stuck

-- an end follows itself, and takes nothing of the budget
pub follows_same_end : {A : Type 0} {n : ℕ} (o : End A) → Follows (λ (a : A) (b : A). a ≡ b) n o (λ _ m. with_budget o m)
follows_same_end (Val a) = gives a refl spends_none
follows_same_end (Crashed t) = crashes spends_none
follows_same_end OutOfFuel = starves (λ b m le ln. refl)
follows_same_end Unsafe = unclaimed_unsafe
follows_same_end Stuck = unclaimed_stuck
