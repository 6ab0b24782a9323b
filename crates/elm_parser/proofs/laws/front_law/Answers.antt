-- The tree and the fault are determined by the tokens, and there are not both: `front_law`.
use Rattle.elm_parser.proofs.Determined.{front_law}
use Rattle.elm_parser.proofs.laws.front_law.Goals as goal

pub returns : goal.returns
returns c = front_law c.rows-plan.result.now c.rows-plan.ensures.planned c.rows-plan.ensures.count
