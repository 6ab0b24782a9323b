-- What a step leaves, from how a task comes apart: `skipped`, `pushed`.
-- Nodes that are not of a kind: `no_program`.
-- How the task of each node comes apart: `here`, `starts`, `program_splits`.
use Rattle.std.proofs.Common.{◌-◌, ap, ◌∙◌, refl}
use Rattle.js_tree.specs.Postorder.{top}
use Rattle.js_printer.specs.declared.task.Task as task
use Rattle.js_printer.specs.Tasks.{program_of}
use Rattle.js_printer.proofs.Splits.{skipped, pushed}
use Rattle.js_printer.proofs.Others.{no_program}
use Rattle.js_printer.proofs.Parts.{here, starts, program_splits}
use Rattle.js_printer.proofs.program.write_program.Goals as goal

pub returns-in_default : goal.returns-in_default
returns-in_default c = skipped c.args.trees.now (task.Task.Program c.args.place) c.args.text.now.items c.args.tasks.now.items (ap (λ ts. (program_of (top ts))) (c.in_default.ensures.none c.requires))

pub returns-in_default-node : goal.returns-in_default-node
returns-in_default-node c =
    let no = no_program c.in-Some.node.now _ c.in_default-node.not-Program in
    skipped c.args.trees.now (task.Task.Program c.args.place) c.args.text.now.items c.args.tasks.now.items (ap (λ ts. (program_of (top ts))) c.in-Some.ensures.some ∙ ap (λ x. x) no)

pub returns : goal.returns
returns c =
    let n = here c.args.trees.now c.args.place _ _ c.in-Some.ensures.some c.in-Program.is c.in-Some.ensures.inside c.requires in
    let flags_below = starts c.args.trees.now (c.args.place - 1) c.below-flags.result c.below-flags.ensures.trees c.below-flags.ensures.before in
    let main_below = starts c.args.trees.now c.below-flags.result c.below-main.result c.below-main.ensures.trees c.below-main.ensures.before in
    let lines_below = starts c.args.trees.now c.below-main.result c.below-lines.result c.below-lines.ensures.trees c.below-lines.ensures.before in
    pushed c.args.trees.now _ c.args.text.now.items _ _ c.args.tasks.now.items _ _ _ (program_splits c.args.trees.now c.args.place c.below-flags.result c.below-main.result c.below-lines.result _ _ _ n flags_below main_below lines_below refl) c.in_ok-extend_from_slice.ensures.items c.push_parts.ensures
