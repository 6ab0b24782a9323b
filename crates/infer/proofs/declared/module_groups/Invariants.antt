use Rattle.std.proofs.Common.{◌≡◌, map, take, flat_map}
use Rattle.elm_canon.specs.View.{group_view, declaration_view}
use Rattle.infer.specs.Modules.{groups_in}
use Rattle.infer.proofs.declared.module_groups.Given as goal

abbrev pub invariant-loop-declaration : goal.invariant-loop-declaration
invariant-loop-declaration l =
    map (λ g. group_view g.now) l.found.items
    ≡ flat_map groups_in (map declaration_view (take l.declaration-index l.declarations))
