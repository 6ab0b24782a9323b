-- What a step leaves, from how a task comes apart: `skipped`, `pushed`.
-- Nodes that are not of a kind: `no_item`.
-- How the task of each node comes apart: `here`, `starts`, `items_before_splits`.
use Rattle.std.proofs.Common.{◌-◌, ap, ◌∙◌, refl, sym, append-nil}
use Rattle.js_tree.specs.Postorder.{top, items}
use Rattle.js_printer.specs.declared.task.Task as task
use Rattle.js_printer.specs.Tasks.{items_text}
use Rattle.js_printer.proofs.Splits.{skipped, pushed}
use Rattle.js_printer.proofs.Others.{no_item}
use Rattle.js_printer.proofs.Parts.{here, starts, items_before_splits}
use Rattle.js_printer.proofs.expression.leave_items_before.Goals as goal

pub returns-in_default : goal.returns-in_default
returns-in_default c = λ text. skipped c.args.trees.now (task.Task.ItemsBefore c.args.place) text c.args.tasks.now.items (ap (λ ts. items_text (items (top ts))) (c.in_default.ensures.none c.requires))

pub returns-in_default-node : goal.returns-in_default-node
returns-in_default-node c =
    let no = no_item c.in-Some.node.now _ c.in_default-node.not-Item in
    λ text. skipped c.args.trees.now (task.Task.ItemsBefore c.args.place) text c.args.tasks.now.items (ap (λ ts. items_text (items (top ts))) c.in-Some.ensures.some ∙ ap (λ x. items_text x) no)

pub returns : goal.returns
returns c =
    let n = here c.args.trees.now c.args.place _ _ c.in-Some.ensures.some c.in-Item.is c.in-Some.ensures.inside c.requires in
    let start_below = starts c.args.trees.now (c.args.place - 1) c.below.result c.below.ensures.trees c.below.ensures.before in
    λ text. pushed c.args.trees.now _ text _ _ c.args.tasks.now.items _ _ _ (items_before_splits c.args.trees.now c.args.place c.below.result _ n start_below refl) (sym (append-nil text)) c.push_parts.ensures
