use Rattle.std.proofs.Common.{◌≡◌, ℕ, zero, suc, ◌<◌, List, [], ◌∷◌, length, drop, false, refl, sym, ◌∙◌, arith}
use Rattle.core_modules.specs.declared.port_faults_sign.Row.{Row}
use Rattle.core_modules.specs.declared.port_faults_sign.Sign.{Sign}
use Rattle.core_modules.specs.Same.{rows_view}
use Rattle.core_modules.specs.Faults.{is_map}
use Rattle.core_modules.proofs.same.is_map.Goals as goal

-- where a row is left, signs must be left
ended : (rs : List Row) (i : ℕ) (s : List Sign) → i < length rs → length s ≡ 0 →
    is_map (rows_view (drop i rs)) s ≡ false
ended [] i s lt e = absurd (omega arith)
ended (r ∷ rs) zero [] lt e = refl
ended (r ∷ rs) zero (x ∷ s) lt e = absurd (omega arith)
ended (r ∷ rs) (suc i) s lt e = ended rs i s (omega arith) e

pub returns-in-None : goal.returns-in-None
returns-in-None c =
    sym (ended c.args.rows.now c.loop-row.row-index c.loop-row.rest.now (omega arith) c.in-None.ensures.cases)
    ∙ c.loop-row.invariant
