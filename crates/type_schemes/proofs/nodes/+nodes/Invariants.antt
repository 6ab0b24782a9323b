use Rattle.std.proofs.Common.{◌≡◌, ◌<◌, ◌++◌, length, map, take}
use Rattle.std.specs.List.{flat_map}
use Rattle.elm_canon.specs.View.{annotation_view, field_type_view, function_type}
use Rattle.type_schemes.specs.Names.{type_nodes, titled, part_view, parameter_nodes}
use Rattle.type_schemes.proofs.nodes.+nodes.Given as goal

abbrev pub invariant-push_parts-loop-t : goal.invariant-push_parts-loop-t
invariant-push_parts-loop-t l =
    l.nodes.items ≡ l.fn.nodes.items ++ flat_map (type_nodes l.order.names.items)
    (map annotation_view (take l.t-index l.types))

abbrev pub invariant-parts_of-loop-field : goal.invariant-parts_of-loop-field
invariant-parts_of-loop-field l =
    map part_view l.parts.items ≡ map (titled l.order.names.items) (map field_type_view (take l.field-index l.fields))

-- the parameters so far; the whole of it after the last type
abbrev pub invariant-push_function-loop-index : goal.invariant-push_function-loop-index
invariant-push_function-loop-index l = record {
  parameters : l.index < length l.types → l.nodes.items ≡ l.fn.nodes.items ++ flat_map
      (parameter_nodes l.order.names.items) (map annotation_view (take l.index l.types));
  whole : l.index ≡ length l.types → l.nodes.items ≡ l.fn.nodes.items ++ type_nodes l.order.names.items
      (function_type (map annotation_view l.types));
}
