-- The steps are done from the last to the first: what stands from place i on is `run` of those steps, and one step more
-- is `after_step` (`run_back`).
use Rattle.std.proofs.Common.{◌≡◌, ℕ, zero, suc, ◌-◌, ◌<◌, ◌≤◌, List, [], ◌∷◌, length, get_or, drop, refl, ap, ◌∙◌}
use Rattle.std.proofs.Common.{arith}
use Rattle.elm_lexer.specs.Tokens.{Token}
use Rattle.parse_machine.specs.declared.table.Step.{Step}
use Rattle.elm_values.specs.Stack.{empty, after_step, run}

drop_whole : (ss : List Step) (n : ℕ) → n ≡ length ss → drop n ss ≡ []
drop_whole [] zero h = refl
drop_whole [] (suc n) h = refl
drop_whole (s ∷ ss) zero h = absurd (omega arith)
drop_whole (s ∷ ss) (suc n) h = drop_whole ss n (omega arith)

pub run_end : (tokens : List Token) (ss : List Step) (n : ℕ) → n ≡ length ss → run tokens (drop n ss) ≡ empty
run_end tokens ss n h = ap (run tokens) (drop_whole ss n h)

drop_at : (ss : List Step) (i : ℕ) (d : Step) → i < length ss → drop i ss ≡ get_or ss i d ∷ drop (suc i) ss
drop_at [] i d h = absurd (omega arith)
drop_at (x ∷ ss) zero d h = refl
drop_at (x ∷ ss) (suc i) d h = drop_at ss i d (omega arith)

pub run_back : (tokens : List Token) (ss : List Step) (i : ℕ) (d : Step) → 0 < i → i ≤ length ss →
    run tokens (drop (i - 1) ss) ≡ after_step tokens (get_or ss (i - 1) d) (run tokens (drop i ss))
run_back tokens ss i d h k =
    let n : suc (i - 1) ≡ i = omega arith in
    ap (run tokens) (drop_at ss (i - 1) d (omega arith)) ∙
    ap (λ z. after_step tokens (get_or ss (i - 1) d) (run tokens (drop z ss))) n

pub run_start : (tokens : List Token) (ss : List Step) (i : ℕ) → i ≤ 0 → run tokens (drop i ss) ≡ run tokens ss
run_start tokens ss zero h = refl
run_start tokens ss (suc i) h = absurd (omega arith)
