-- What a step leaves, from how a task comes apart: `skipped`, `pushed`.
-- Nodes that are not of a kind: `no_line`.
-- How the task of each node comes apart: `here`, `starts`, `lines_splits`.
use Rattle.std.proofs.Common.{◌-◌, ap, ◌∙◌, sym, append-nil}
use Rattle.js_tree.specs.Tree.{NoLine}
use Rattle.js_tree.specs.Text.{lines_text}
use Rattle.js_tree.specs.Postorder.{top, lines, lines_then}
use Rattle.js_printer.specs.declared.task.Task as task
use Rattle.js_printer.proofs.Splits.{skipped, pushed}
use Rattle.js_printer.proofs.Others.{no_line}
use Rattle.js_printer.proofs.Parts.{here, starts, lines_splits}
use Rattle.js_printer.proofs.program.leave_lines.Goals as goal

pub returns-in_default : goal.returns-in_default
returns-in_default c = λ text. skipped c.args.trees.now (task.Task.Lines c.args.place) text c.args.tasks.now.items (ap (λ ts. lines_text (lines_then (lines (top ts)) NoLine)) (c.in_default.ensures.none c.requires))

pub returns-in_default-node : goal.returns-in_default-node
returns-in_default-node c =
    let no = no_line c.in-Some.node.now _ c.in_default-node.not-Line in
    λ text. skipped c.args.trees.now (task.Task.Lines c.args.place) text c.args.tasks.now.items (ap (λ ts. lines_text (lines_then (lines (top ts)) NoLine)) c.in-Some.ensures.some ∙ ap (λ x. lines_text (lines_then x NoLine)) no)

pub returns : goal.returns
returns c =
    let n = here c.args.trees.now c.args.place _ _ c.in-Some.ensures.some c.in-Line.is c.in-Some.ensures.inside c.requires in
    let before_below = starts c.args.trees.now (c.args.place - 1) c.below-before.result c.below-before.ensures.trees c.below-before.ensures.before in
    λ text. pushed c.args.trees.now _ text _ _ c.args.tasks.now.items _ _ _ (lines_splits c.args.trees.now c.args.place c.below-before.result _ n before_below) (sym (append-nil text)) c.push_parts.ensures
