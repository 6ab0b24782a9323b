use Rattle.pattern_check.proofs.Building.{construct_same}
use Rattle.pattern_check.proofs.build.item_of.Goals as goal

pub returns : goal.returns
returns c = construct_same _ _ _ _ c.args.parts c.in_ok-union.ensures c.in_ok-alternative.ensures
