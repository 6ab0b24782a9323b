-- Classes that meet: `meets_both`.
use Rattle.elm_type.proofs.Meeting.{meets_both}
use Rattle.elm_type.proofs.laws.meet_law.Goals as goal

pub returns : goal.returns
returns c = meets_both
