use Rattle.std.proofs.Common.{take, map}
use Rattle.infer_groups.specs.General.{AreFrozen}
use Rattle.infer_groups.specs.Names.{named_views, general_view}
use Rattle.infer_groups.proofs.names.freeze_named.Given as goal

abbrev pub invariant-loop-each : goal.invariant-loop-each
invariant-loop-each l =
    AreFrozen l.depth l.store (named_views (take l.each-index l.names)) (map general_view l.general.items)
