use Rattle.std.proofs.Common.{◌≡◌, map, take, flat_map}
use Rattle.elm_canon.specs.Tree.{groups_of}
use Rattle.elm_canon.specs.View.{group_view, declaration_view}
use Rattle.type_items.specs.Expressions.{definitions}
use Rattle.type_items.specs.Modules.{definitions_in}
use Rattle.infer_order.proofs.order.module_groups.Given as goal

abbrev pub invariant-loop-declaration : goal.invariant-loop-declaration
invariant-loop-declaration l =
    definitions (groups_of (map (λ g. group_view g.now) l.found.items))
    ≡ flat_map definitions_in (map declaration_view (take l.declaration-index l.declarations))
