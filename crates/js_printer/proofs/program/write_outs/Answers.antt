-- What a step leaves, from how a task comes apart: `skipped`, `written_whole`.
-- Nodes that are not of a kind: `no_outs`.
-- How the task of each node comes apart: `here`.
use Rattle.std.proofs.Common.{ap, ◌∙◌}
use Rattle.js_tree.specs.Postorder.{top}
use Rattle.js_printer.specs.declared.task.Task as task
use Rattle.js_printer.specs.Tasks.{outs_of}
use Rattle.js_printer.proofs.Splits.{skipped, written_whole}
use Rattle.js_printer.proofs.Others.{no_outs}
use Rattle.js_printer.proofs.Parts.{here}
use Rattle.js_printer.proofs.program.write_outs.Goals as goal

pub returns-in_default : goal.returns-in_default
returns-in_default c = λ tasks. skipped c.args.trees.now (task.Task.Outs c.args.place) c.args.text.now.items tasks (ap (λ ts. (outs_of (top ts))) (c.in_default.ensures.none c.requires))

pub returns-in_default-node : goal.returns-in_default-node
returns-in_default-node c =
    let no = no_outs c.in-Some.node.now _ c.in_default-node.not-Program in
    λ tasks. skipped c.args.trees.now (task.Task.Outs c.args.place) c.args.text.now.items tasks (ap (λ ts. (outs_of (top ts))) c.in-Some.ensures.some ∙ ap (λ x. x) no)

pub returns : goal.returns
returns c =
    let n = here c.args.trees.now c.args.place _ _ c.in-Some.ensures.some c.in-Program.is c.in-Some.ensures.inside c.requires in
    λ tasks. written_whole c.args.trees.now (task.Task.Outs c.args.place) _ _ _ tasks _ (ap (λ ts. outs_of (top ts)) n.trees) (c.write_ports.ensures)
