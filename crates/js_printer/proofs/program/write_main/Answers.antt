-- What a step leaves, from how a task comes apart: `skipped`, `pushed`, `after_three`.
-- Nodes that are not of a kind: `no_main`.
-- How the task of each node comes apart: `here`, `starts`, `main_splits`.
use Rattle.std.proofs.Common.{◌-◌, ap, ◌∙◌, refl}
use Rattle.js_tree.specs.Postorder.{top}
use Rattle.js_printer.specs.declared.task.Task as task
use Rattle.js_printer.specs.Tasks.{main_of}
use Rattle.js_printer.proofs.Splits.{skipped, pushed, after_three}
use Rattle.js_printer.proofs.Others.{no_main}
use Rattle.js_printer.proofs.Parts.{here, starts, main_splits}
use Rattle.js_printer.proofs.program.write_main.Goals as goal

pub returns-in_default : goal.returns-in_default
returns-in_default c = skipped c.args.trees.now (task.Task.Main c.args.place) c.args.text.now.items c.args.tasks.now.items (ap (λ ts. (main_of (top ts))) (c.in_default.ensures.none c.requires))

pub returns-in_default-node : goal.returns-in_default-node
returns-in_default-node c =
    let no = no_main c.in-Some.node.now _ c.in_default-node.not-Program in
    skipped c.args.trees.now (task.Task.Main c.args.place) c.args.text.now.items c.args.tasks.now.items (ap (λ ts. (main_of (top ts))) c.in-Some.ensures.some ∙ ap (λ x. x) no)

pub returns : goal.returns
returns c =
    let e = rw c.as_slice.ensures at c.in_ok-write_text.ensures in
    let n = here c.args.trees.now c.args.place _ _ c.in-Some.ensures.some c.in-Program.is c.in-Some.ensures.inside c.requires in
    let flags_below = starts c.args.trees.now (c.args.place - 1) c.below-flags.result c.below-flags.ensures.trees c.below-flags.ensures.before in
    let main_below = starts c.args.trees.now c.below-flags.result c.below-main.result c.below-main.ensures.trees c.below-main.ensures.before in
    pushed c.args.trees.now _ c.args.text.now.items _ _ c.args.tasks.now.items _ _ _ (main_splits c.args.trees.now c.args.place c.below-flags.result c.below-main.result _ _ _ _ _ _ n flags_below main_below refl refl refl refl) (after_three c.args.text.now.items _ _ _ _ _ _ c.in_ok-extend_from_slice.ensures.items e c.in_ok-extend_from_slice-2.ensures.items) c.push_parts.ensures
