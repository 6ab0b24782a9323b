use Rattle.std.proofs.Common.{◌≡◌, take, map}
use Rattle.elm_type.specs.View.{kind_view}
use Rattle.infer_groups.specs.Given.{constants_at}
use Rattle.infer_groups.proofs.making.constants.Given as goal

abbrev pub invariant-loop-at : goal.invariant-loop-at
invariant-loop-at l = l.rigids.items ≡ constants_at l.place (take l.at l.names) (map kind_view (take l.at l.kinds))
