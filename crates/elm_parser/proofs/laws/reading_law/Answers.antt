-- The tree and the fault are determined by the tokens, and there are not both: `tokens_law`.
use Rattle.elm_parser.proofs.Determined.{tokens_law}
use Rattle.elm_parser.proofs.laws.reading_law.Goals as goal

pub returns : goal.returns
returns c = tokens_law c.rows-plan.result.now c.rows-plan.ensures.planned c.rows-plan.ensures.count
