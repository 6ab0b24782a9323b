-- Each expression does what it does, with any fuel.
use Rattle.std.proofs.Common.{◌≡◌, ℕ, zero, suc, ◌⊎◌, inl, inr, refl, sym, ◌∙◌, subst, arith}
use Rattle.runs.specs.Ends.{End, Val, Crashed, OutOfFuel, MVal, MCrashed, MOutOfFuel}
use Rattle.runs.specs.Pay.{pay, Run, Follows, gives, crashes, starves, unclaimed_unsafe, unclaimed_stuck}
use Rattle.runs.proofs.Spends.{pay_exact, pay_or_out}
use Rattle.elm_meaning.specs.Values.{Value}
use Rattle.elm_meaning.specs.Eval.{Eval}
use Rattle.js_meaning.specs.Values.{JVal}
use Rattle.js_emit.specs.Names.{now}
use Rattle.js_emit.specs.Loops.{Outside}
use Rattle.js_emit.specs.Emit.{emit}
use Rattle.emit_laws.specs.For.{For}
use Rattle.emit_laws.specs.Expressions.{JsEval, SameEnd, same_value, same_crash, no_claim_unsafe, no_claim_stuck, ExpressionsAlike}
use Rattle.emit_laws.proofs.Expressions.{AllMeanSo}
use Rattle.emit_laws.proofs.Follows.{calls_follow, expressions_follow}
use Rattle.emit_laws.proofs.Spots.{CallsFollow}
use Rattle.emit_laws.proofs.Calls.{Lower}
use Rattle.emit_laws.proofs.Performs.{performs}
use Rattle.emit_laws.proofs.Lets.{rounds, last}
use Rattle.emit_laws.proofs.Primitives.{known_follows}

pub all_mean : (n : ℕ) → AllMeanSo n
all_mean = expressions_follow performs rounds last known_follows

-- with less fuel than that
less : (n : ℕ) → Lower n
less zero = tt
less (suc n) = all_mean n

-- and each call
pub all_calls : (n : ℕ) → CallsFollow n
all_calls n = calls_follow n (less n) (last n (less n)) (known_follows n)

-- a run that follows, with a budget that is enough
there : {f : Run JVal} {o : End Value} (n : ℕ) → Follows For n o f → (o ≡ OutOfFuel) ⊎ ((m : ℕ) × SameEnd o (f m m))
there n (gives {a} {f} b r p) = inr (p.cost, subst (λ z. SameEnd (Val a) z) (sym (p.by p.cost p.cost (omega arith) ∙ pay_exact p.cost (λ m. MVal b m))) (same_value r))
there n (crashes {t} {f} p) = inr (p.cost, subst (λ z. SameEnd (Crashed t) z) (sym (p.by p.cost p.cost (omega arith) ∙ pay_exact p.cost (λ _. MCrashed t))) same_crash)
there n (starves h) = inl refl
there n unclaimed_unsafe = inr (0, no_claim_unsafe)
there n unclaimed_stuck = inr (0, no_claim_stuck)

-- and the other way, with as much fuel
back : {f : Run JVal} {o : End Value} (m : ℕ) → Follows For m o f → (f m m ≡ MOutOfFuel) ⊎ SameEnd o (f m m)
back {f} m (gives {a} b r p) = go (pay_or_out p.cost m (λ k. MVal b k))
  where
    go : (pay p.cost m (λ k. MVal b k) ≡ MOutOfFuel) ⊎ ((k : ℕ) × (pay p.cost m (λ k. MVal b k) ≡ MVal b k)) → (f m m ≡ MOutOfFuel) ⊎ SameEnd (Val a) (f m m)
    go (inl e) = inl (p.by m m (omega arith) ∙ e)
    go (inr e) = inr (subst (λ z. SameEnd (Val a) z) (sym (p.by m m (omega arith) ∙ e.1)) (same_value r))
back {f} m (crashes {t} p) = go (pay_or_out p.cost m (λ _. MCrashed t))
  where
    go : (pay {A = JVal} p.cost m (λ _. MCrashed t) ≡ MOutOfFuel) ⊎ ((k : ℕ) × (pay {A = JVal} p.cost m (λ _. MCrashed t) ≡ MCrashed t)) → (f m m ≡ MOutOfFuel) ⊎ SameEnd (Crashed t) (f m m)
    go (inl e) = inl (p.by m m (omega arith) ∙ e)
    go (inr e) = inr (subst (λ z. SameEnd (Crashed t) z) (sym (p.by m m (omega arith) ∙ e.1)) same_crash)
back m (starves h) = inl (h m m (omega arith) (omega arith))
back m unclaimed_unsafe = inr no_claim_unsafe
back m unclaimed_stuck = inr no_claim_stuck

pub expressions_alike : ExpressionsAlike
expressions_alike scope e d env jenv pr few re = record {
  there = λ n. there n (((all_mean n) e Outside scope d pr few).gives tt env jenv re);
  back = λ m. with_fuel m (back m (((all_mean m) e Outside scope d pr few).gives tt env jenv re));
}
  where
    with_fuel : (m : ℕ) → (JsEval jenv (now (emit d Outside e)) m ≡ MOutOfFuel) ⊎ SameEnd (Eval env e m) (JsEval jenv (now (emit d Outside e)) m) → (JsEval jenv (now (emit d Outside e)) m ≡ MOutOfFuel) ⊎ ((n : ℕ) × SameEnd (Eval env e n) (JsEval jenv (now (emit d Outside e)) m))
    with_fuel m (inl e) = inl e
    with_fuel m (inr s) = inr (m, s)
