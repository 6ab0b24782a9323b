use Rattle.std.proofs.Common.{length}
use Rattle.elm_type.specs.Spelling.{spell}
use Rattle.type_schemes.specs.Bases.{type_in}
use Rattle.type_schemes.specs.Rows.{older_in}
use Rattle.type_schemes.specs.Tasks.{all_nodes, tasks_of}
use Rattle.type_schemes.proofs.TypeSchemesNodes.{Writing}
use Rattle.type_schemes.proofs.writing.nodes.Given as goal

abbrev pub invariant-loop-task : goal.invariant-loop-task
invariant-loop-task l =
    Writing l.store (older_in l.order) (type_in l.store (older_in l.order))
    (spell (type_in l.store (older_in l.order) l.variable)) l.writer

abbrev pub decreases-loop-task : goal.decreases-loop-task
decreases-loop-task l = length (all_nodes (type_in l.store (older_in l.order)) (tasks_of l.writer))
