-- Turns of the loop over the tasks: `next_inside`, `comes_next`, `less_left`.
use Rattle.js_printer.proofs.Turns.{next_inside, comes_next, less_left}
use Rattle.js_printer.proofs.print.Goals as goal

-- src/lib.rt:35:9
pub write_task-requires : goal.write_task-requires
write_task-requires c = next_inside c.args.trees.now _ c.loop-task.text.items c.loop-task.tasks.items c.pop.new.self.items c.in-Some.task c.loop-task.invariant c.in-Some.ensures.items

-- src/lib.rt:34:5
pub loop-task-smaller : goal.loop-task-smaller
loop-task-smaller c =
    less_left c.args.trees.now c.loop-task.text.items c.write_task.new.text.items c.loop-task.tasks.items c.pop.new.self.items c.write_task.new.tasks.items c.in-Some.task c.in-Some.ensures.items c.in_ok-write_task.ensures

-- src/lib.rt:34:5
pub loop-task-preserved : goal.loop-task-preserved
loop-task-preserved c =
    comes_next c.args.trees.now _ c.loop-task.text.items c.write_task.new.text.items c.loop-task.tasks.items c.pop.new.self.items c.write_task.new.tasks.items c.in-Some.task c.loop-task.invariant c.in-Some.ensures.items c.in_ok-write_task.ensures
