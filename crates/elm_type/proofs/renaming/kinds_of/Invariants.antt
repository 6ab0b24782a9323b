use Rattle.std.proofs.Common.{◌≡◌, map, take}
use Rattle.elm_type.specs.Types.{kind_at}
use Rattle.elm_type.specs.View.{kind_view}
use Rattle.elm_type.proofs.renaming.kinds_of.Given as goal

abbrev pub invariant-loop-number : goal.invariant-loop-number
invariant-loop-number l = map kind_view l.others.items ≡ map (kind_at (map kind_view l.kinds)) (take l.number-index l.order)
