-- Tasks that go on in the place of one.
use Rattle.std.proofs.Common.{◌≡◌, ℕ, zero, suc, ◌+◌, ◌*◌, ◌^◌, ◌<◌, ◌≤◌, List, ◌∷◌, length, Bool, sym, ap, arith}
use Rattle.std.proofs.Common.{subst, ◌⊎◌, inl, inr}
use Rattle.std.proofs.Math.Nat.{pow-succ'}
use Rattle.std.proofs.lemmas.Bool.{cases_order}
use Rattle.std.specs.Prelude.{◌&&◌}
use Rattle.js_tree.specs.declared.tree.Node.{Node}
use Rattle.js_scope.specs.declared.tasks.Task.{Task}
use Rattle.js_scope.specs.Walk.{State, Step, ends_well}
use Rattle.js_scope.specs.Steps.{step_of, steps_of, reach, GoesOn}

-- powers of 8
power : (n : ℕ) → 0 < 8 ^ n
power zero = omega arith
power (suc n) = let h = power n in let e = pow-succ' 8 n in omega arith

pub lighter_by : (a b : ℕ) → a < b → 8 * 8 ^ a ≤ 8 ^ b
lighter_by a zero h = absurd (omega (arith, h))
lighter_by a (suc b) h = go (lighter_by a b) (cases_order a b)
  where
    go : (a < b → 8 * 8 ^ a ≤ 8 ^ b) → (a ≡ b) ⊎ ((a < b) ⊎ (b < a)) → 8 * 8 ^ a ≤ 8 ^ suc b
    go f (inl e) = let p = ap (λ n. 8 ^ n) e in let q = pow-succ' 8 b in omega arith
    go f (inr (inl l)) = let p = f l in let q = pow-succ' 8 b in omega arith
    go f (inr (inr g)) = absurd (omega (arith, g))

-- with nothing more to do
pub goes_nowhere : (nodes : List Node) (step : Step) (far : ℕ) (old : List Task) (before : State) (fine : Bool) (now : State)
    → ends_well (step ∷ steps_of nodes old) before.start before.bound ≡ (fine && ends_well (steps_of nodes old) now.start now.bound)
    → GoesOn nodes step far old before fine old now
goes_nowhere nodes step far old before fine now e = record { ends = e; within = λ w. w; lighter = let p = power far in omega arith }

pub goes_to_one : (nodes : List Node) (step : Step) (far : ℕ) (old : List Task) (before : State) (fine : Bool) (t : Task) (new : List Task) (now : State)
    → new ≡ t ∷ old → reach t < far → far ≤ 2 * length nodes + 1
    → ends_well (step ∷ steps_of nodes old) before.start before.bound ≡ (fine && ends_well (step_of nodes t ∷ steps_of nodes old) now.start now.bound)
    → GoesOn nodes step far old before fine new now
goes_to_one nodes step far old before fine t new now is h l e = subst (λ ts. GoesOn nodes step far old before fine ts now) (sym is) (record {
  ends = e;
  within = λ w. (omega arith, w);
  lighter = let p = power far in let q = lighter_by (reach t) far h in omega arith;
})

pub goes_to_two : (nodes : List Node) (step : Step) (far : ℕ) (old : List Task) (before : State) (fine : Bool) (t u : Task) (new : List Task) (now : State)
    → new ≡ t ∷ u ∷ old → reach t < far → reach u < far → far ≤ 2 * length nodes + 1
    → ends_well (step ∷ steps_of nodes old) before.start before.bound ≡ (fine && ends_well (step_of nodes t ∷ step_of nodes u ∷ steps_of nodes old) now.start now.bound)
    → GoesOn nodes step far old before fine new now
goes_to_two nodes step far old before fine t u new now is h k l e = subst (λ ts. GoesOn nodes step far old before fine ts now) (sym is) (record {
  ends = e;
  within = λ w. (omega arith, (omega arith, w));
  lighter = let p = power far in let q = lighter_by (reach t) far h in let r = lighter_by (reach u) far k in omega arith;
})

pub goes_to_three : (nodes : List Node) (step : Step) (far : ℕ) (old : List Task) (before : State) (fine : Bool) (t u v : Task) (new : List Task) (now : State)
    → new ≡ t ∷ u ∷ v ∷ old → reach t < far → reach u < far → reach v < far → far ≤ 2 * length nodes + 1
    → ends_well (step ∷ steps_of nodes old) before.start before.bound
    ≡ (fine && ends_well (step_of nodes t ∷ step_of nodes u ∷ step_of nodes v ∷ steps_of nodes old) now.start now.bound)
    → GoesOn nodes step far old before fine new now
goes_to_three nodes step far old before fine t u v new now is h k j l e = subst (λ ts. GoesOn nodes step far old before fine ts now) (sym is) (record {
  ends = e;
  within = λ w. (omega arith, (omega arith, (omega arith, w)));
  lighter = let p = power far in let q = lighter_by (reach t) far h in let r = lighter_by (reach u) far k in let s = lighter_by (reach v) far j in omega arith;
})
