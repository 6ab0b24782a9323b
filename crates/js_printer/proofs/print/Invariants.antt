use Rattle.js_tree.specs.Postorder.{top, trees_of}
use Rattle.js_printer.specs.Whole.{tree_text}
use Rattle.js_printer.specs.Tasks.{tasks_weight}
use Rattle.js_printer.proofs.Turns.{Comes}
use Rattle.js_printer.proofs.print.Given as goal

abbrev pub decreases-loop-task : goal.decreases-loop-task
decreases-loop-task l = tasks_weight l.tasks.items

abbrev pub invariant-loop-task : goal.invariant-loop-task
invariant-loop-task l = Comes l.trees (tree_text (top (trees_of l.trees))) l.text.items l.tasks.items
