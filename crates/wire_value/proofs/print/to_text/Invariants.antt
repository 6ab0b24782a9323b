use Rattle.std.proofs.Common.{◌≡◌, ◌++◌}
use Rattle.wire_value.specs.View.{wire_view}
use Rattle.wire_value.specs.Text.{wire_text}
use Rattle.wire_value.specs.Tasks.{left_text, tasks_weight}
use Rattle.wire_value.proofs.print.to_text.Given as goal

abbrev pub decreases-loop-task : goal.decreases-loop-task
decreases-loop-task l = tasks_weight l.tasks.items

abbrev pub invariant-loop-task : goal.invariant-loop-task
invariant-loop-task l = l.text.items ++ left_text l.tasks.items ≡ wire_text (wire_view l.wire)
