-- Classes that meet: `allows_some`.
use Rattle.elm_type.proofs.Meeting.{allows_some}
use Rattle.elm_type.proofs.laws.allows_law.Goals as goal

pub returns : goal.returns
returns c = allows_some
