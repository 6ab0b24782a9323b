-- Where faults stand: `front_finds`.
-- One step of the pass over the steps: `mapped`.
use Rattle.std.proofs.Common.{◌≡◌, ◌<◌, map, None, false, sym, subst}
use Rattle.elm_lexer.specs.View.{token_view}
use Rattle.elm_parser.specs.Standing.{Finds}
use Rattle.elm_parser.specs.Scan.{found_view, first_among, scan, bottom}
use Rattle.elm_parser.proofs.Standings.{front_finds}
use Rattle.elm_parser.proofs.Steps.{mapped}
use Rattle.elm_parser.proofs.faults.front_fault.Goals as goal

pub returns : goal.returns
returns c = λ n column ts front at l h i.
    let tokens = map token_view c.args.tokens.now in
    mapped c.scan.result (λ r. found_view r ≡ first_among false None (scan tokens bottom c.args.steps.now))
    (λ r. Finds tokens n column ts (found_view r))
    (λ r e. subst (Finds tokens n column ts) (sym e)
    (front_finds c.rows-plan.result.now c.rows-plan.ensures.planned tokens n column
    (subst (λ z. n < z) (sym c.rows-plan.ensures.count) l) ts front at c.args.steps.now h i))
    c.scan.ensures
