-- The fixed end, after the bytes before it.
use Rattle.std.proofs.Common.{◌≡◌, ℕ, List, [], ◌∷◌, ◌++◌, true, ◌==◌, if◌then◌else◌, refl, ap, ◌∙◌, arith}
use Rattle.std.proofs.lemmas.Bool.Decides.{nat_tests}
use Rattle.js_tree.specs.declared.runtime.TheConstants.{TAIL}
use Rattle.js_tree.specs.Automaton.{State, Known, Dead, known, step}

same : (c : ℕ) → (c == c) ≡ true
same c = grind (arith, nat_tests)

rest_known : (rest : List ℕ) (s : State) → known (rest ++ TAIL.now) s ≡ Known (rest ++ TAIL.now) s
rest_known [] s = refl
rest_known (c ∷ cs) s = refl

pub closing_step : (c : ℕ) (rest : List ℕ) (s : State) → step (Known ((c ∷ rest) ++ TAIL.now) s) c ≡ Known (rest ++ TAIL.now) s
closing_step c rest s = ap (λ b. if b then known (rest ++ TAIL.now) s else Dead) (same c) ∙ rest_known rest s
