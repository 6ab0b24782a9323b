use Rattle.std.proofs.Common.{rules}
use Rattle.pattern_check.proofs.Building.{construct_same}
use Rattle.pattern_check.proofs.build.constructed.Goals as goal

pub returns : goal.returns
returns c = construct_same _ _ _ _ c.args.parts (search rules) (search rules)
