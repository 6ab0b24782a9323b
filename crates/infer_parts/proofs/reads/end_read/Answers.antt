use Rattle.std.proofs.Common.{sym, subst}
use Rattle.type_store.specs.Shape.{IsStore}
use Rattle.infer_steps.specs.View.{here, bad_view}
use Rattle.infer_parts.specs.Reading.{field_view}
use Rattle.infer_parts.proofs.Reading.{ok_on, later_than, closes_read, stops_read}
use Rattle.infer_parts.proofs.reads.end_read.Goals as goal

pub same-requires-clause-whole : goal.same-requires-clause-whole
same-requires-clause-whole c = subst IsStore (sym c.leave_owner.ensures.store) c.requires.whole

pub same-requires-clause-first : goal.same-requires-clause-first
same-requires-clause-first c = rw c.leave_owner.ensures.store c.requires.live.0.inside

pub same-requires-clause-second : goal.same-requires-clause-second
same-requires-clause-second c = rw c.leave_owner.ensures.store c.requires.live.1.inside

pub returns-clause-later : goal.returns-clause-later
returns-clause-later c =
    ok_on c.same.result c.same.ensures.asks
    (λ k. later_than (here c.args.state.now) (here c.leave_owner.new.state) (here c.same.new.state)
    c.leave_owner.ensures.store c.leave_owner.ensures.depth k.follows)

pub returns-clause-closes : goal.returns-clause-closes
returns-clause-closes c =
    ok_on c.same.result c.same.ensures.asks
    (closes_read c.args.position (field_view c.args.field) (here c.args.state.now) (here c.leave_owner.new.state)
    (here c.same.new.state) c.leave_owner.ensures.back)

pub returns-clause-stops : goal.returns-clause-stops
returns-clause-stops c b e =
    stops_read c.args.position (field_view c.args.field) (here c.args.state.now) (here c.leave_owner.new.state)
    (here c.same.new.state) c.leave_owner.ensures.back (bad_view b) (c.same.ensures.refuses b e)
