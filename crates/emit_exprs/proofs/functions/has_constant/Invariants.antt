use Rattle.std.proofs.Common.{◌≡◌, drop, map}
use Rattle.elm_canon.specs.Tree.{groups_of}
use Rattle.elm_canon.specs.View.{group_view}
use Rattle.emit_exprs.specs.Frames.{has_constant}
use Rattle.emit_exprs.proofs.functions.has_constant.Given as goal

abbrev pub invariant-loop-group : goal.invariant-loop-group
invariant-loop-group l =
    has_constant (groups_of (map group_view (drop l.group-index l.group-items)))
    ≡ has_constant (groups_of (map group_view l.group-items))
