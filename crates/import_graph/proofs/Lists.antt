-- Places in lists that grow.
use Rattle.std.proofs.Common.{◌≡◌, ◌≢◌, ℕ, zero, suc, ◌<◌, ◌≤◌, List, [], ◌∷◌, ◌++◌, length, set, map, Some}
use Rattle.std.proofs.Common.{refl, sym, ap, ◌∙◌, arith}
use Rattle.std.specs.Prelude.{slice_get}
use Rattle.std.specs.List.{Contains}
use Rattle.std.proofs.Common.{get_or}
use Rattle.import_graph.specs.Modules.{Source, Module, sources}

module _ {A : Type 0} where
  pub get_front : (xs ys : List A) (i : ℕ) (m : A) → slice_get xs i ≡ Some m → slice_get (xs ++ ys) i ≡ Some m
  get_front [] ys i m e = absurd (cc)
  get_front (x ∷ xs) ys zero m e = e
  get_front (x ∷ xs) ys (suc i) m e = get_front xs ys i m e

  -- another place than the one that is written
  pub get_other : (xs : List A) (k : ℕ) (y : A) (i : ℕ) → i ≢ k → slice_get (set xs k y) i ≡ slice_get xs i
  get_other [] k y i ne = refl
  get_other (x ∷ xs) zero y zero ne = absurd (ne refl)
  get_other (x ∷ xs) zero y (suc i) ne = refl
  get_other (x ∷ xs) (suc k) y zero ne = refl
  get_other (x ∷ xs) (suc k) y (suc i) ne = get_other xs k y i (λ e. ne (ap suc e))

  pub get_same : (xs : List A) (k : ℕ) (y m : A) → slice_get (set xs k y) k ≡ Some m → y ≡ m
  get_same [] k y m e = absurd (cc)
  get_same (x ∷ xs) zero y m e = cc
  get_same (x ∷ xs) (suc k) y m e = get_same xs k y m e

  pub no_more : (xs : List A) (i : ℕ) (m : A) → length xs ≤ i → slice_get xs i ≡ Some m → ⊥
  no_more [] i m l e = cc
  no_more (x ∷ xs) zero m l e = omega (arith, l)
  no_more (x ∷ xs) (suc i) m l e = no_more xs i m (omega (arith, l)) e

  pub there_is : (xs : List A) (m : A) → Contains xs m → (i : ℕ) × (i < length xs) × (slice_get xs i ≡ Some m)
  there_is xs m c = (c.0, c.1, at xs c.0 c.1 c.2)
    where
      at : (xs : List A) (i : ℕ) → i < length xs → get_or xs i m ≡ m → slice_get xs i ≡ Some m
      at [] i l e = absurd (omega (arith, l))
      at (x ∷ xs) zero l e = ap Some e
      at (x ∷ xs) (suc i) l e = at xs i (omega (arith, l)) e

-- what is written looks the same by f as what stood there
pub same_map : {A B : Type 0} (f : A → B) (xs : List A) (k : ℕ) (x y : A) → slice_get xs k ≡ Some x → f y ≡ f x → map f (set xs k y) ≡ map f xs
same_map f [] k x y e s = refl
same_map f (z ∷ zs) zero x y e s = let h : z ≡ x = cc in ap (λ w. w ∷ map f zs) (s ∙ sym (ap f h))
same_map f (z ∷ zs) (suc k) x y e s = ap (λ ws. f z ∷ ws) (same_map f zs k x y e s)

-- the module of a source
pub module_there : (ms : List Module) (m : Source) → Contains (sources ms) m → (i : ℕ) × (x : Module) × (i < length ms) × (slice_get ms i ≡ Some x) × (x.source ≡ m)
module_there ms m c = at ms c.0 c.1 c.2
  where
    at : (ms : List Module) (i : ℕ) → i < length (sources ms) → get_or (sources ms) i m ≡ m → (i : ℕ) × (x : Module) × (i < length ms) × (slice_get ms i ≡ Some x) × (x.source ≡ m)
    at [] i l e = absurd (omega (arith, l))
    at (y ∷ ys) zero l e = (zero, y, omega arith, refl, e)
    at (y ∷ ys) (suc i) l e = let r = at ys i (omega (arith, l)) e in (suc r.0, r.1, omega (arith, r.2), r.3, r.4)

pub item_at : {A : Type 0} (xs : List A) (i : ℕ) → i < length xs → (x : A) × (slice_get xs i ≡ Some x)
item_at [] i l = absurd (omega (arith, l))
item_at (x ∷ xs) zero l = (x, refl)
item_at (x ∷ xs) (suc i) l = item_at xs i (omega (arith, l))
