-- What a step leaves, from how a task comes apart: `skipped`, `written_whole`, `after_two`, `last_ok`.
-- Nodes that are not of a kind: `no_property`.
-- How the task of each node comes apart: `here`.
use Rattle.std.proofs.Common.{ap, ◌∙◌}
use Rattle.js_tree.specs.Postorder.{top, expression}
use Rattle.js_printer.specs.declared.task.Task as task
use Rattle.js_printer.specs.Tasks.{key_text}
use Rattle.js_printer.proofs.Splits.{skipped, written_whole, after_two, last_ok}
use Rattle.js_printer.proofs.Others.{no_property}
use Rattle.js_printer.proofs.Parts.{here}
use Rattle.js_printer.proofs.expression.write_key.Goals as goal

pub returns-in_default : goal.returns-in_default
returns-in_default c = λ tasks. skipped c.args.trees.now (task.Task.Key c.args.place) c.args.text.now.items tasks (ap (λ ts. (key_text (expression (top ts)))) (c.in_default.ensures.none c.requires))

pub returns-in_default-node : goal.returns-in_default-node
returns-in_default-node c =
    let no = no_property c.in-Some.node.now _ c.in_default-node.not-Property in
    λ tasks. skipped c.args.trees.now (task.Task.Key c.args.place) c.args.text.now.items tasks (ap (λ ts. (key_text (expression (top ts)))) c.in-Some.ensures.some ∙ ap (λ x. x) no)

pub returns : goal.returns
returns c =
    let e = rw c.as_slice.ensures at c.in_ok-write_text.ensures in
    let n = here c.args.trees.now c.args.place _ _ c.in-Some.ensures.some c.in-Property.is c.in-Some.ensures.inside c.requires in
    λ tasks. written_whole c.args.trees.now (task.Task.Key c.args.place) _ _ _ tasks _ (ap (λ ts. key_text (expression (top ts))) n.trees) (last_ok c.extend_from_slice.result c.args.text.now.items _ _ _ _ (after_two c.args.text.now.items _ _ _ _ c.in_ok-push.ensures.items e) c.extend_from_slice.ensures.items)
