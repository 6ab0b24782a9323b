use Rattle.std.proofs.Common.{◌≡◌, ◌++◌, map, drop}
use Rattle.std.specs.List.{flat_map}
use Rattle.elm_canon.specs.View.{group_view}
use Rattle.decl_groups.specs.View.{members_of}
use Rattle.canon_expr.specs.Blocks.{NoMade, group_of}
use Rattle.canon_expr.specs.Kept.{made_view, taken_each}
use Rattle.canon_expr.proofs.groups.groups_of.Given as goal

-- the groups so far, and those of the rest
abbrev pub invariant-loop-group : goal.invariant-loop-group
invariant-loop-group l =
    map group_view l.groups.items
    ++ flat_map group_of
    (taken_each NoMade (map made_view l.made.items) (members_of (drop l.group-index l.order.groups.items)))
    ≡ flat_map group_of (taken_each NoMade (map made_view l.initial.made.items) (members_of l.order.groups.items))
