use Rattle.std.proofs.Common.{◌≡◌, take, false}
use Rattle.elm_type.specs.Ground.{contains}
use Rattle.type_store.proofs.lookup.is_in.Given as goal

abbrev pub invariant-loop-other : goal.invariant-loop-other
invariant-loop-other l = contains l.name (take l.other-index l.names) ≡ false
