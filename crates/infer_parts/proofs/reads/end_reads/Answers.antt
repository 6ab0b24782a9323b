use Rattle.std.proofs.Common.{map, ◌∙◌, arith}
use Rattle.std.proofs.lemmas.List.{nil_from_length}
use Rattle.infer_steps.specs.View.{here, bad_view}
use Rattle.infer_parts.specs.Reading.{field_view}
use Rattle.infer_parts.proofs.Reading.{fields_front, fields_later, ends_next, ends_stuck, ends_last}
use Rattle.infer_parts.proofs.reads.end_reads.Goals as goal

pub end_read-requires-clause-live : goal.end_read-requires-clause-live
end_read-requires-clause-live c =
    (fields_front (here c.loop-field.state) c.loop-field.rest.items c.pop.new.self.items c.in-Some.field
    c.in-Some.ensures.items c.loop-field.invariant.live).1

pub loop-field-preserved : goal.loop-field-preserved
loop-field-preserved c = record {
  whole = c.in-Ok.ensures.later.whole;
  live =
      fields_later _ (here c.end_read.new.state) (map field_view c.pop.new.self.items) c.in-Ok.ensures.later
      (fields_front (here c.loop-field.state) c.loop-field.rest.items c.pop.new.self.items c.in-Some.field
      c.in-Some.ensures.items c.loop-field.invariant.live).0;
  ending =
      ends_next c.args.position c.args.names.now (map field_view c.args.fields.items) (here c.args.state.now)
      c.loop-field.rest.items c.pop.new.self.items c.in-Some.field (here c.loop-field.state)
      (here c.end_read.new.state) c.in-Some.ensures.items c.loop-field.invariant.ending c.in-Ok.ensures.closes;
}

pub returns-in-Err-clause-stops : goal.returns-in-Err-clause-stops
returns-in-Err-clause-stops c b e =
    ends_stuck c.args.position c.args.names.now (map field_view c.args.fields.items) (here c.args.state.now)
    c.loop-field.rest.items c.pop.new.self.items c.in-Some.field (here c.loop-field.state)
    (here c.end_read.new.state) (bad_view b) c.in-Some.ensures.items c.loop-field.invariant.ending
    (c.end_read.ensures.stops b (c.in-Err.is ∙ e))

pub returns-clause-closes : goal.returns-clause-closes
returns-clause-closes c =
    ends_last c.args.position c.args.names.now (map field_view c.args.fields.items) (here c.args.state.now)
    c.loop-field.rest.items (here c.loop-field.state)
    (nil_from_length c.loop-field.rest.items
    (omega (arith, c.loop-field.rest.ok.0, c.in_default.ensures.cases.0)))
    c.loop-field.invariant.ending
