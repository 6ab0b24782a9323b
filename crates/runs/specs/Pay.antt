-- A stretch of a metered run: what it costs, and how it goes on.
use Rattle.std.specs.Prelude.{◌≡◌, ℕ, zero, suc, ◌≤◌, List}
use Rattle.runs.specs.Ends.{End, Val, Crashed, OutOfFuel, Unsafe, Stuck, Metered, MVal, MCrashed, MOutOfFuel}

-- takes c units, or runs out
abbrev pub pay : {A : Type 0} → ℕ → ℕ → (ℕ → Metered A) → Metered A
pay zero m f = f m
pay (suc c) zero f = MOutOfFuel
pay (suc c) (suc m) f = pay c m f

-- a metered run, by a bound on its length and by its budget, which the bound is not below
abbrev pub Run : Type 0 → Type 0
Run A = ℕ → ℕ → Metered A

-- one run takes some units, and is another from there
pub record Spends {A : Type 0} (f g : Run A) : Type 0 where
  pub cost : ℕ
  pub by : (b m : ℕ) → m ≤ b → f b m ≡ pay cost m (g b)

-- How a metered run ends, where a nested one ends so with fuel n. Of one that ends Unsafe or Stuck nothing is claimed.
pub data Follows {A B : Type 0} (R : A → B → Type 0) (n : ℕ) : End A → Run B → Type 0 where
  gives : {a : A} {f : Run B} (b : B) → R a b → Spends f (λ _ m. MVal b m) → Follows R n (Val a) f
  crashes : {t : List ℕ} {f : Run B} → Spends f (λ _ _. MCrashed t) → Follows R n (Crashed t) f
  starves : {f : Run B} → ((b m : ℕ) → m ≤ b → m ≤ n → f b m ≡ MOutOfFuel) → Follows R n OutOfFuel f
  unclaimed_unsafe : {f : Run B} → Follows R n Unsafe f
  unclaimed_stuck : {f : Run B} → Follows R n Stuck f
