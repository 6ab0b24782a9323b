use Rattle.std.proofs.Common.{take}
use Rattle.infer_groups.specs.Names.{named_views}
use Rattle.infer.specs.Told.{AddsSchemes, told_views}
use Rattle.infer.proofs.told.tell_each.Given as goal

abbrev pub invariant-loop-name : goal.invariant-loop-name
invariant-loop-name l =
    AddsSchemes l.store (named_views (take l.name-index l.names)) (told_views l.fn.told.items) (told_views l.told.items)
