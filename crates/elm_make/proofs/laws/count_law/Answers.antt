use Rattle.elm_make.proofs.Counted.{counted_once}
use Rattle.elm_make.proofs.laws.count_law.Goals as goal

pub returns : goal.returns
returns c = counted_once c.imports_law.ensures
