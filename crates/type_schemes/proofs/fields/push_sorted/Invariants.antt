use Rattle.std.proofs.Common.{◌≡◌, ◌++◌, map, take}
use Rattle.std.specs.List.{flat_map}
use Rattle.type_schemes.specs.Names.{part_view, title_nodes}
use Rattle.type_schemes.proofs.fields.push_sorted.Given as goal

abbrev pub invariant-loop-part : goal.invariant-loop-part
invariant-loop-part l =
    l.nodes.items ≡ l.fn.nodes.items ++ flat_map title_nodes (map part_view (take l.part-index l.part-items))
