use Rattle.std.proofs.Common.{map, length}
use Rattle.std.specs.List.{AllByRecursion}
use Rattle.type_store.specs.Shape.{IsStore}
use Rattle.infer_steps.specs.View.{here}
use Rattle.infer_parts.specs.Reading.{field_view, FieldLive}
use Rattle.infer_parts.proofs.Reading.{Ending}
use Rattle.infer_parts.proofs.reads.end_reads.Given as goal

abbrev pub invariant-loop-field : goal.invariant-loop-field
invariant-loop-field l = record {
  whole : IsStore (here l.state).store;
  live : AllByRecursion (FieldLive (here l.state).depth (here l.state).store) (map field_view l.rest.items);
  ending : Ending l.position l.names (map field_view l.fn.fields.items) (here l.initial.state)
      (map field_view l.rest.items) (here l.state);
}

abbrev pub decreases-loop-field : goal.decreases-loop-field
decreases-loop-field l = length l.rest.items
