-- What a step leaves, from how a task comes apart: `skipped`, `pushed`, `after_two`.
-- Nodes that are not of a kind: `no_member`.
-- How the task of each node comes apart: `here`, `member_splits`.
use Rattle.std.proofs.Common.{ap, ◌∙◌}
use Rattle.js_tree.specs.Postorder.{top, members}
use Rattle.js_printer.specs.declared.task.Task as task
use Rattle.js_printer.specs.Tasks.{member_text}
use Rattle.js_printer.proofs.Splits.{skipped, pushed, after_two}
use Rattle.js_printer.proofs.Others.{no_member}
use Rattle.js_printer.proofs.Parts.{here, member_splits}
use Rattle.js_printer.proofs.object.write_member.Goals as goal

pub returns-in_default : goal.returns-in_default
returns-in_default c = skipped c.args.trees.now (task.Task.Member c.args.place) c.args.text.now.items c.args.tasks.now.items (ap (λ ts. member_text (members (top ts))) (c.in_default.ensures.none c.requires))

pub returns-in_default-node : goal.returns-in_default-node
returns-in_default-node c =
    let no = no_member c.in-Some.node.now _ c.in_default-node.not-Field in
    skipped c.args.trees.now (task.Task.Member c.args.place) c.args.text.now.items c.args.tasks.now.items (ap (λ ts. member_text (members (top ts))) c.in-Some.ensures.some ∙ ap (λ x. member_text x) no)

pub returns : goal.returns
returns c =
    let e = rw c.as_slice.ensures at c.in_ok-write_text.ensures in
    let n = here c.args.trees.now c.args.place _ _ c.in-Some.ensures.some c.in-Field.is c.in-Some.ensures.inside c.requires in
    pushed c.args.trees.now _ c.args.text.now.items _ _ c.args.tasks.now.items _ _ _ (member_splits c.args.trees.now c.args.place _ n) (after_two c.args.text.now.items _ _ _ _ e c.in_ok-push.ensures.items) c.push_parts.ensures
