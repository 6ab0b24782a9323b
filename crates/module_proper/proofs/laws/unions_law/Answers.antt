-- By the kinds of their tags: `unions_are`.
use Rattle.module_proper.proofs.Unions.{unions_are}
use Rattle.module_proper.proofs.laws.unions_law.Goals as goal

pub returns : goal.returns
returns c = unions_are
