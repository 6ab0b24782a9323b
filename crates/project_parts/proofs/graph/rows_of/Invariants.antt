use Rattle.std.specs.Prelude.{◌≡◌, map, take}
use Rattle.std.specs.List.{filter_map}
use Rattle.decl_groups.specs.Groups.{plain}
use Rattle.project_parts.specs.Modules.{imported_names}
use Rattle.project_parts.specs.View.{part_view, number_at}
use Rattle.project_parts.proofs.graph.rows_of.Given as goal

-- the rows of the parts so far
abbrev pub invariant-loop-part : goal.invariant-loop-part
invariant-loop-part l =
    plain l.rows.items
    ≡ map (λ p. filter_map (number_at l.numbers) (imported_names p)) (map part_view (take l.part-index l.parts))
