use Rattle.std.proofs.Common.{◌≡◌, ◌<◌, ◌++◌, length, map, take}
use Rattle.std.specs.List.{flat_map}
use Rattle.elm_canon.specs.View.{annotation_view, field_type_view, function_type}
use Rattle.interface.specs.Steps.{steps_of, part_steps, parameter_steps, field_steps}
use Rattle.interface.proofs.forms.steps.+steps.Given as goal

abbrev pub invariant-push_fields-loop-field : goal.invariant-push_fields-loop-field
invariant-push_fields-loop-field l = l.steps.items ≡ l.fn.steps.items ++ flat_map field_steps (map field_type_view (take l.field-index l.fields))

abbrev pub invariant-push_parts-loop-part : goal.invariant-push_parts-loop-part
invariant-push_parts-loop-part l = l.steps.items ≡ l.fn.steps.items ++ flat_map part_steps (map annotation_view (take l.part-index l.types))

-- the parameters so far; the whole of it after the last type
abbrev pub invariant-push_function-loop-index : goal.invariant-push_function-loop-index
invariant-push_function-loop-index l = record {
  parameters : l.index < length l.types → l.steps.items ≡ l.fn.steps.items ++ flat_map parameter_steps (map annotation_view (take l.index l.types));
  whole : l.index ≡ length l.types → l.steps.items ≡ l.fn.steps.items ++ steps_of (function_type (map annotation_view l.types));
}
