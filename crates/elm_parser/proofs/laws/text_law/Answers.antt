-- The tree and the fault are determined by the tokens, and there are not both: `text_law`.
use Rattle.elm_parser.proofs.Determined.{text_law}
use Rattle.elm_parser.proofs.laws.text_law.Goals as goal

pub returns : goal.returns
returns c = text_law c.rows-plan.result.now c.rows-plan.ensures.planned c.rows-plan.ensures.count
