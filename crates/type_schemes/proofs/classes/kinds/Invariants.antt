use Rattle.std.proofs.Common.{◌≡◌, map, take}
use Rattle.elm_type.specs.View.{kind_view}
use Rattle.type_schemes.specs.Kinds.{kind_in, pair_view}
use Rattle.type_schemes.proofs.classes.kinds.Given as goal

abbrev pub invariant-loop-name : goal.invariant-loop-name
invariant-loop-name l = map kind_view l.kinds.items ≡ map (kind_in (map pair_view l.pairs)) (take l.name-index l.names)
