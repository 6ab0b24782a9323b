-- What a step leaves, from how a task comes apart: `skipped`, `pushed`.
-- Nodes that are not of a kind: `no_member`.
-- How the task of each node comes apart: `here`, `starts`, `members_before_splits`.
use Rattle.std.proofs.Common.{◌-◌, ap, ◌∙◌, refl, sym, append-nil}
use Rattle.js_tree.specs.Postorder.{top, members}
use Rattle.js_printer.specs.declared.task.Task as task
use Rattle.js_printer.specs.Tasks.{members_text}
use Rattle.js_printer.proofs.Splits.{skipped, pushed}
use Rattle.js_printer.proofs.Others.{no_member}
use Rattle.js_printer.proofs.Parts.{here, starts, members_before_splits}
use Rattle.js_printer.proofs.object.leave_members_before.Goals as goal

pub returns-in_default : goal.returns-in_default
returns-in_default c = λ text. skipped c.args.trees.now (task.Task.MembersBefore c.args.place) text c.args.tasks.now.items (ap (λ ts. members_text (members (top ts))) (c.in_default.ensures.none c.requires))

pub returns-in_default-node : goal.returns-in_default-node
returns-in_default-node c =
    let no = no_member c.in-Some.node.now _ c.in_default-node.not-Field in
    λ text. skipped c.args.trees.now (task.Task.MembersBefore c.args.place) text c.args.tasks.now.items (ap (λ ts. members_text (members (top ts))) c.in-Some.ensures.some ∙ ap (λ x. members_text x) no)

pub returns : goal.returns
returns c =
    let n = here c.args.trees.now c.args.place _ _ c.in-Some.ensures.some c.in-Field.is c.in-Some.ensures.inside c.requires in
    let before_below = starts c.args.trees.now (c.args.place - 1) c.below-before.result c.below-before.ensures.trees c.below-before.ensures.before in
    λ text. pushed c.args.trees.now _ text _ _ c.args.tasks.now.items _ _ _ (members_before_splits c.args.trees.now c.args.place c.below-before.result _ _ n before_below refl) (sym (append-nil text)) c.push_parts.ensures
