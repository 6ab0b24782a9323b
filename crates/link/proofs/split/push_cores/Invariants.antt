use Rattle.std.proofs.Common.{◌≡◌, ◌++◌, map, take}
use Rattle.std.specs.List.{filter_map}
use Rattle.elm_canon.specs.View.{declaration_view}
use Rattle.emit_program.specs.Programs.{core_view}
use Rattle.link.specs.Cores.{core_of}
use Rattle.link.proofs.split.push_cores.Given as goal

-- what was found
abbrev pub invariant-loop-declaration : goal.invariant-loop-declaration
invariant-loop-declaration l =
    map core_view l.core_names.items
    ≡ map core_view l.initial.core_names.items
    ++ filter_map core_of (map declaration_view (take l.declaration-index l.declarations))
