use Rattle.std.proofs.Common.{◌≡◌, ◌-◌, length, map, drop, subst, arith}
use Rattle.infer_steps.specs.View.{here, bad_view}
use Rattle.infer_steps.specs.declared.bad.InferError.TheVariants as error
use Rattle.infer_parts.specs.Reading.{field_view, BeginsReads}
use Rattle.infer_parts.proofs.Reading.{err_is, reads_next, reads_unbegun}
use Rattle.infer_parts.proofs.reads.begin_reads.Goals as goal

pub returns-in-Err-clause-stops : goal.returns-in-Err-clause-stops
returns-in-Err-clause-stops c b e code can x =
    reads_unbegun code c.args.position c.args.names.now (map field_view c.loop-i.fields.items) c.loop-i.i
    c.index-names-count.result (here c.args.state.now) c.args.wanted (here c.loop-i.state) c.loop-i.owner
    (here c.begin_read.new.state) (bad_view b) x c.loop-i-test.true c.index-names-count.is
    (c.loop-i.invariant.reads code can)
    (λ d. c.begin_read.ensures.stops b (err_is c.begin_read.result c.in-Err.error (error.Bad b) c.in-Err.is e) code d)

pub loop-i-preserved : goal.loop-i-preserved
loop-i-preserved c = record {
  whole = c.in-Ok.ensures.whole;
  live = c.in-Ok.ensures.owner;
  reads = λ code can.
      reads_next code c.args.position c.args.names.now c.loop-i.fields.items c.in_ok-fields.fields.items _ c.loop-i.i
      c.index-names-count.result (here c.args.state.now) c.args.wanted (here c.loop-i.state) c.loop-i.owner
      (here c.begin_read.new.state) c.in-Ok.access.owner c.loop-i-test.true c.index-names-count.is
      c.in_ok-fields.ensures (c.loop-i.invariant.reads code can) (λ k. c.in-Ok.ensures.begins code k);
}

pub returns-clause-begins : goal.returns-clause-begins
returns-clause-begins c code can =
    let none : length c.args.names.now - c.loop-i.i ≡ 0 = omega (arith, c.loop-i-test.false) in
    subst
    (λ n. BeginsReads code c.args.position (drop n c.args.names.now) (map field_view c.loop-i.fields.items)
    (here c.args.state.now) c.args.wanted (here c.loop-i.state) c.loop-i.owner)
    none (c.loop-i.invariant.reads code can)
