use Rattle.std.proofs.Common.{◌≡◌, ◌++◌, map, take}
use Rattle.std.specs.Prelude.{flat_map}
use Rattle.elm_tree.specs.View as tree
use Rattle.elm_tree.specs.Turns.{tokens_view}
use Rattle.elm_canon.specs.View.{annotation_view, field_type_view}
use Rattle.canon_env.specs.Naming.{World, IsWorld}
use Rattle.canon_env.specs.Types.{type_of}
use Rattle.canon_type.specs.Walking.{faults_in, field_faults, named_of}
use Rattle.canon_type.proofs.annotation.+annotation.Given as goal

abbrev pub invariant-annotations-loop-one : goal.invariant-annotations-loop-one
invariant-annotations-loop-one l = record {
  types : (w : World) → IsWorld l.world w → map annotation_view l.types.items
      ≡ map (type_of w) (map (tree.type_view (tokens_view l.tokens)) (take l.one-index l.written));
  faults : (w : World) → IsWorld l.world w → l.findings.items ≡ l.initial.findings.items
      ++ flat_map (faults_in w) (map (tree.type_view (tokens_view l.tokens)) (take l.one-index l.written));
}

abbrev pub invariant-field_annotations-loop-field : goal.invariant-field_annotations-loop-field
invariant-field_annotations-loop-field l = record {
  types : (w : World) → IsWorld l.world w → map field_type_view l.types.items
      ≡ map (named_of w) (map (tree.field_type_view (tokens_view l.tokens)) (take l.field-index l.written));
  faults : (w : World) → IsWorld l.world w → l.findings.items ≡ l.initial.findings.items
      ++ flat_map (field_faults w) (map (tree.field_type_view (tokens_view l.tokens)) (take l.field-index l.written));
}
