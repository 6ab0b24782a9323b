use Rattle.std.specs.Prelude.{◌≡◌, ◌++◌, map, take}
use Rattle.import_graph.specs.ModuleWalkView.{module_view}
use Rattle.project_parts.specs.Modules.{core_part}
use Rattle.project_parts.specs.View.{part_view}
use Rattle.project_parts.proofs.parts.push_core.Given as goal

-- the modules so far
abbrev pub invariant-loop-module : goal.invariant-loop-module
invariant-loop-module l =
    map part_view l.parts.items
    ≡ map part_view l.initial.parts.items ++ map core_part (map module_view (take l.module-index l.modules))
