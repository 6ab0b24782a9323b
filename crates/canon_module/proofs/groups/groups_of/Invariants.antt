use Rattle.std.proofs.Common.{◌≡◌, ◌++◌, map, drop}
use Rattle.std.specs.List.{flat_map}
use Rattle.elm_canon.specs.View.{declaration_view}
use Rattle.decl_groups.specs.View.{members_of}
use Rattle.canon_expr.specs.Kept.{taken_each}
use Rattle.canon_module.specs.Items.{grouped}
use Rattle.canon_module.specs.CanonValuesKept.{item_view, nothing}
use Rattle.canon_module.proofs.groups.groups_of.Given as goal

-- the groups so far, and those of the rest
abbrev pub invariant-loop-group : goal.invariant-loop-group
invariant-loop-group l =
    map declaration_view l.declarations.items ++ flat_map grouped
    (taken_each nothing (map item_view l.items.items) (members_of (drop l.group-index l.order.groups.items)))
    ≡ flat_map grouped (taken_each nothing (map item_view l.initial.items.items) (members_of l.order.groups.items))
