use Rattle.std.proofs.Common.{arith, subst, sym}
use Rattle.std.specs.List.{Contains}
use Rattle.std.proofs.lemmas.List.{take_all}
use Rattle.type_store.specs.Steps.{written}
use Rattle.type_store.specs.View.{trail_view}
use Rattle.type_store.specs.declared.change.Change.{Change}
use Rattle.std.specs.Prelude.{List}
use Rattle.type_store.proofs.Noting.{noted_more}
use Rattle.type_store.proofs.changed.note_written.Goals as goal

pub loop-change-init : goal.loop-change-init
loop-change-init c = record { within = c.requires; noted = λ v h q. absurd (omega (arith, q.1)) }

pub loop-change-preserved : goal.loop-change-preserved
loop-change-preserved c = record {
  within = c.in_ok-note_one.ensures.within;
  noted = noted_more c.args.trail.now c.loop-change.change-index c.args.to c.change-item.result c.loop-change.changed.items c.note_one.new.changed.items c.loop-change-test.true c.change-item.is
      c.loop-change.invariant.noted c.in_ok-note_one.ensures.kept c.in_ok-note_one.ensures.written;
}

pub returns-clause-written : goal.returns-clause-written
returns-clause-written c v h q =
    c.loop-change.invariant.noted v h
    (subst (λ (cs : List Change). Contains (written (trail_view cs)) v) (sym (take_all c.loop-change.change-index c.args.trail.now (omega (arith, c.loop-change-test.false)))) q)
