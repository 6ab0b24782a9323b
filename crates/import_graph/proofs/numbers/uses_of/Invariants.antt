use Rattle.std.specs.Prelude.{◌≡◌, map, take}
use Rattle.std.specs.List.{filter_map}
use Rattle.decl_groups.specs.Groups.{plain}
use Rattle.import_graph.specs.Graph.{used}
use Rattle.import_graph.specs.ModuleGraphView.{modules_of}
use Rattle.import_graph.proofs.numbers.uses_of.Given as goal

-- the uses of the modules so far
abbrev pub invariant-loop-index : goal.invariant-loop-index
invariant-loop-index l = plain l.uses.items ≡ map (λ m. filter_map (used (modules_of l.modules)) m.imports) (take l.index (modules_of l.modules))
