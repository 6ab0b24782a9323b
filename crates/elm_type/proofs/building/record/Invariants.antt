use Rattle.std.proofs.Common.{◌≡◌, ◌∷◌, ◌++◌, take, length}
use Rattle.std.specs.List.{flat_map}
use Rattle.elm_type.specs.Spelling.{record_node}
use Rattle.elm_type.specs.View.{end_view}
use Rattle.elm_type.specs.declared.node.Node.TheVariants as node
use Rattle.elm_type.proofs.building.record.Given as goal

abbrev pub invariant-loop-field : goal.invariant-loop-field
invariant-loop-field l =
    l.nodes.items ≡ record_node (length l.fields) (end_view l.fn.base) ∷ flat_map (λ f. node.Field f.name ∷ f.ty.nodes.items) (take l.field-index l.fields)
