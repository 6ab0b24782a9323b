use Rattle.std.proofs.Common.{◌-◌, map, drop}
use Rattle.type_store.specs.Shape.{IsStore}
use Rattle.type_walks.specs.Links.{Live}
use Rattle.infer_steps.specs.Codes.{Code}
use Rattle.infer_steps.specs.View.{here}
use Rattle.infer_parts.specs.Steps.{CanWalk}
use Rattle.infer_parts.specs.Reading.{field_view, BeginsReads}
use Rattle.infer_parts.proofs.reads.begin_reads.Given as goal

abbrev pub invariant-loop-i : goal.invariant-loop-i
invariant-loop-i l = record {
  whole : IsStore (here l.state).store;
  live : Live (here l.state).depth (here l.state).store l.owner;
  reads : (code : Code) → CanWalk code (here l.initial.state)
      → BeginsReads code l.position (drop (l.count - l.i) l.names) (map field_view l.fields.items)
      (here l.initial.state) l.wanted (here l.state) l.owner;
}
