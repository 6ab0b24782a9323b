-- What a step leaves, from how a task comes apart: `skipped`, `valued`.
-- Nodes that are not of a kind: `no_line`.
-- How the task of each node comes apart: `here`, `line_splits`.
use Rattle.std.proofs.Common.{ap, ◌∙◌, refl}
use Rattle.js_tree.specs.Postorder.{top, lines}
use Rattle.js_printer.specs.declared.task.Task as task
use Rattle.js_printer.specs.Tasks.{line_text}
use Rattle.js_printer.proofs.Splits.{skipped, valued}
use Rattle.js_printer.proofs.Others.{no_line}
use Rattle.js_printer.proofs.Parts.{here, line_splits}
use Rattle.js_printer.proofs.program.write_line.Goals as goal

pub returns-in_default : goal.returns-in_default
returns-in_default c = skipped c.args.trees.now (task.Task.Line c.args.place) c.args.text.now.items c.args.tasks.now.items (ap (λ ts. line_text (lines (top ts))) (c.in_default.ensures.none c.requires))

pub returns-in_default-node : goal.returns-in_default-node
returns-in_default-node c =
    let no = no_line c.in-Some.node.now _ c.in_default-node.not-Line in
    skipped c.args.trees.now (task.Task.Line c.args.place) c.args.text.now.items c.args.tasks.now.items (ap (λ ts. line_text (lines (top ts))) c.in-Some.ensures.some ∙ ap (λ x. line_text x) no)

pub returns : goal.returns
returns c =
    let n = here c.args.trees.now c.args.place _ _ c.in-Some.ensures.some c.in-Line.is c.in-Some.ensures.inside c.requires in
    valued c.args.trees.now _ c.args.text.now.items _ _ _ _ c.args.tasks.now.items _ _ c.write_value.result (line_splits c.args.trees.now c.args.place _ _ n refl) c.in_ok-extend_from_slice.ensures.items c.write_value.ensures.written c.write_value.ensures.left
