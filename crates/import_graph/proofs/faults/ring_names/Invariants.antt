use Rattle.std.specs.Prelude.{◌≡◌, ◌++◌, drop, codes}
use Rattle.std.specs.List.{flat_map}
use Rattle.import_graph.specs.Faults.{detail_of, name_at}
use Rattle.import_graph.specs.ModuleGraphView.{modules_of}
use Rattle.import_graph.proofs.faults.ring_names.Given as goal

-- the names that are written, and those that are left
abbrev pub invariant-loop-number : goal.invariant-loop-number
invariant-loop-number l =
    l.detail.items ++ flat_map (λ k. codes ", " ++ name_at (modules_of l.modules) k) (drop l.number-index l.others) ≡ detail_of (modules_of l.modules) l.ring
