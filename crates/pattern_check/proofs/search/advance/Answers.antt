use Rattle.std.proofs.Common.{◌≡◌, ◌∙◌, [], arith}
use Rattle.pattern_check.specs.Search.{task_found, task_work}
use Rattle.pattern_check.proofs.Searching.{advance_found, advance_work, dropped_found, dropped_work, no_items}
use Rattle.pattern_check.proofs.search.advance.Goals as goal

pub returns-in-Some-pop-clause-found : goal.returns-in-Some-pop-clause-found
returns-in-Some-pop-clause-found c =
    advance_found c.pop.new.self.items c.loop-frame.frames.items c.push.new.self.items c.in-Some.frame c.in-Some-pop.start
    c.pop-in-Some.new.self (task_found c.in_ok-task.task) c.in-Some.ensures.items c.in_ok-push.ensures.items
    c.in-Some-pop.ensures.items c.in_ok-task.ensures.found
    ∙ c.loop-frame.invariant.found

pub returns-in-Some-pop-clause-light : goal.returns-in-Some-pop-clause-light
returns-in-Some-pop-clause-light c =
    let a =
    advance_work c.pop.new.self.items c.loop-frame.frames.items c.push.new.self.items c.in-Some.frame c.in-Some-pop.start
    c.pop-in-Some.new.self (task_work c.in_ok-task.task) c.in-Some.ensures.items c.in_ok-push.ensures.items
    c.in-Some-pop.ensures.items c.in_ok-task.ensures.light in
    omega (arith, a, c.loop-frame.invariant.light)

pub loop-frame-preserved : goal.loop-frame-preserved
loop-frame-preserved c =
    let a = dropped_work c.pop.new.self.items c.loop-frame.frames.items c.in-Some.frame c.in-Some.ensures.items in
    let none : c.in-Some.frame.candidates.items ≡ [] =
    no_items c.in-Some.frame.candidates.items (omega (arith, c.in_default-pop.ensures.cases.0, c.in-Some.frame.candidates.ok.0)) in
    record {
      found = dropped_found c.pop.new.self.items c.loop-frame.frames.items c.in-Some.frame c.in-Some.ensures.items none ∙ c.loop-frame.invariant.found;
      light = omega (arith, a, c.loop-frame.invariant.light);
    }
