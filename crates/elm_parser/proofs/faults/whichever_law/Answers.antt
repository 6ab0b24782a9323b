-- Where faults stand: `whichever`.
use Rattle.std.proofs.Common.{◌<◌, sym, subst}
use Rattle.elm_parser.proofs.Standings.{whichever}
use Rattle.elm_parser.proofs.faults.whichever_law.Goals as goal

pub returns : goal.returns
returns c = λ tokens n column front x y d l h w.
    whichever c.rows-plan.result.now c.rows-plan.ensures.planned tokens n column
    (subst (λ z. n < z) (sym c.rows-plan.ensures.count) l) front x y.more y.tree d y.spells h w
