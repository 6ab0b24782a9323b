-- What a step of the printer leaves: `next_whole`, `less_left`.
use Rattle.wire_value.proofs.Printing.{next_whole, less_left}
use Rattle.wire_value.proofs.print.to_text.Goals as goal

pub loop-task-smaller : goal.loop-task-smaller
loop-task-smaller c =
    less_left c.loop-task.text.items c.put_task.new.text.items c.loop-task.tasks.items c.pop.new.self.items c.put_task.new.tasks.items c.in-Some.task c.in-Some.ensures.items c.in_ok-put_task.ensures

pub loop-task-preserved : goal.loop-task-preserved
loop-task-preserved c =
    next_whole _ c.loop-task.text.items c.put_task.new.text.items c.loop-task.tasks.items c.pop.new.self.items c.put_task.new.tasks.items c.in-Some.task c.loop-task.invariant c.in-Some.ensures.items c.in_ok-put_task.ensures
