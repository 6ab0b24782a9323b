use Rattle.std.proofs.Common.{length}
use Rattle.type_store.specs.View.{ask_view, store_view, trail_view, work_view}
use Rattle.type_store.proofs.Growing.{undone_same, undone_on}
use Rattle.type_store.proofs.SameSteps.{runs_none, runs_on, runs_clash, next_inside, popped, there, ask_there, more_there}
use Rattle.type_store.proofs.run.run.Goals as goal

pub loop-init : goal.loop-init
loop-init c = record {
  undone = undone_same c.args.slots.now.items (trail_view c.args.trail.now.items);
  runs = runs_none (store_view c.args.slots.now.items) (work_view c.args.work.now.items) c.requires.graph (there c.args.slots.now.items (work_view c.args.work.now.items) c.requires.inside);
}

pub step-requires-clause-inside : goal.step-requires-clause-inside
step-requires-clause-inside c =
    ask_there c.loop.slots.items (ask_view c.in-Some.ask)
    (next_inside (length (store_view c.loop.slots.items)) (work_view c.loop.work.items) (work_view c.pop.new.self.items) (ask_view c.in-Some.ask)
    (popped c.loop.work.items c.pop.new.self.items c.in-Some.ask c.in-Some.ensures.items) c.loop.invariant.runs.inside)

pub returns-then-not-branch-clause-no : goal.returns-then-not-branch-clause-no
returns-then-not-branch-clause-no c done =
    runs_clash (store_view c.args.slots.now.items) (store_view c.loop.slots.items) (work_view c.args.work.now.items) (work_view c.loop.work.items) (work_view c.pop.new.self.items) (ask_view c.in-Some.ask)
    (popped c.loop.work.items c.pop.new.self.items c.in-Some.ask c.in-Some.ensures.items) c.loop.invariant.runs (c.in_ok-step.ensures.no c.if-not-branch.true)

pub loop-preserved : goal.loop-preserved
loop-preserved c =
    let runs = runs_on (store_view c.args.slots.now.items) (store_view c.loop.slots.items) (store_view c.step.new.slots.items) (work_view c.args.work.now.items) (work_view c.loop.work.items)
    (work_view c.pop.new.self.items) (work_view c.step.new.work.items) (ask_view c.in-Some.ask)
    (popped c.loop.work.items c.pop.new.self.items c.in-Some.ask c.in-Some.ensures.items) c.loop.invariant.runs (c.in_ok-step.ensures.yes c.if-not-branch.false) in
    record {
      undone = undone_on (length c.args.slots.now.items) (length c.loop.slots.items) (store_view c.args.slots.now.items) (store_view c.loop.slots.items) (store_view c.step.new.slots.items)
          (trail_view c.args.trail.now.items) (trail_view c.loop.trail.items) (trail_view c.step.new.trail.items)
          (more_there c.args.slots.now.items c.loop.slots.items c.loop.invariant.runs.becomes.grows) c.in_ok-step.ensures.undone c.loop.invariant.undone;
      runs = runs;
    }
