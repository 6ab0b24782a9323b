use Rattle.std.proofs.Common.{arith}
use Rattle.type_store.specs.View.{trail_view}
use Rattle.type_store.proofs.Growing.{undone_through}
use Rattle.type_store.proofs.run.lack_step.Goals as goal

pub returns-clause-undone : goal.returns-clause-undone
returns-clause-undone c =
    undone_through c.args.slots.now.items c.deref_mut.result.now c.step_lacks.new.slots c.args.slots.now.len (trail_view c.args.trail.now.items) (trail_view c.step_lacks.new.trail.items)
    (omega (arith, c.args.slots.now.ok)) (omega (arith, c.step_lacks.auto.slots, c.deref_mut.ensures.len)) c.deref_mut.ensures.value c.step_lacks.ensures.undone
