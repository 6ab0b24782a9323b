-- What a step leaves, from how a task comes apart: `written_whole`, `pushed`, `if_ok`.
-- Nodes that are not of a kind: `no_block`.
-- How the task of each node comes apart: `here`, `starts`, `return_splits`, `if_splits`, and others.
use Rattle.std.proofs.Common.{◌-◌, ap, ◌∙◌, refl, sym, append-nil}
use Rattle.js_tree.specs.Text.{stmts_text}
use Rattle.js_tree.specs.Postorder.{top, block}
use Rattle.js_printer.specs.declared.task.Task as task
use Rattle.js_printer.proofs.Splits.{written_whole, pushed, if_ok}
use Rattle.js_printer.proofs.Others.{no_block}
use Rattle.js_printer.proofs.Parts.{here, starts, return_splits, if_splits, while_splits, ended_splits}
use Rattle.js_printer.proofs.statement.write_block.Goals as goal

pub returns-in_default : goal.returns-in_default
returns-in_default c = written_whole c.args.trees.now (task.Task.Block c.args.place) _ _ _ c.args.tasks.now.items _ (ap (λ ts. stmts_text (block (top ts))) (c.in_default.ensures.none c.requires)) (if_ok _ _ _ _ c.extend_from_slice.ensures.items)

pub returns-in_default-node : goal.returns-in_default-node
returns-in_default-node c = written_whole c.args.trees.now (task.Task.Block c.args.place) _ _ _ c.args.tasks.now.items _ (ap (λ ts. stmts_text (block (top ts))) c.in-Some.ensures.some ∙ ap (λ x. stmts_text x) (no_block c.in-Some.node.now _ c.in_default-node.not-Return c.in_default-node.not-If c.in_default-node.not-While c.in_default-node.not-Ended)) (if_ok _ _ _ _ c.extend_from_slice-in_default-node.ensures.items)

pub returns-in_ok-extend_from_slice-in-Return : goal.returns-in_ok-extend_from_slice-in-Return
returns-in_ok-extend_from_slice-in-Return c =
    let n = here c.args.trees.now c.args.place _ _ c.in-Some.ensures.some c.in-Return.is c.in-Some.ensures.inside c.requires in
    pushed c.args.trees.now _ c.args.text.now.items _ _ c.args.tasks.now.items _ _ _ (return_splits c.args.trees.now c.args.place _ n refl) c.in_ok-extend_from_slice-in-Return.ensures.items c.push_parts.ensures

pub returns-in_ok-extend_from_slice-in-If : goal.returns-in_ok-extend_from_slice-in-If
returns-in_ok-extend_from_slice-in-If c =
    let n = here c.args.trees.now c.args.place _ _ c.in-Some.ensures.some c.in-If.is c.in-Some.ensures.inside c.requires in
    let middle_below = starts c.args.trees.now (c.args.place - 1) c.below-middle.result c.below-middle.ensures.trees c.below-middle.ensures.before in
    let start_below = starts c.args.trees.now c.below-middle.result c.below.result c.below.ensures.trees c.below.ensures.before in
    pushed c.args.trees.now _ c.args.text.now.items _ _ c.args.tasks.now.items _ _ _ (if_splits c.args.trees.now c.args.place c.below-middle.result c.below.result _ _ _ n middle_below start_below refl refl refl) c.in_ok-extend_from_slice-in-If.ensures.items c.push_parts-in-If.ensures

pub returns-in_ok-extend_from_slice-in-While : goal.returns-in_ok-extend_from_slice-in-While
returns-in_ok-extend_from_slice-in-While c =
    let n = here c.args.trees.now c.args.place _ _ c.in-Some.ensures.some c.in-While.is c.in-Some.ensures.inside c.requires in
    pushed c.args.trees.now _ c.args.text.now.items _ _ c.args.tasks.now.items _ _ _ (while_splits c.args.trees.now c.args.place _ n refl) c.in_ok-extend_from_slice-in-While.ensures.items c.push_parts-in-While.ensures

pub returns-in-Ended : goal.returns-in-Ended
returns-in-Ended c =
    let n = here c.args.trees.now c.args.place _ _ c.in-Some.ensures.some c.in-Ended.is c.in-Some.ensures.inside c.requires in
    let ended_below = starts c.args.trees.now (c.args.place - 1) c.below-in-Ended.result c.below-in-Ended.ensures.trees c.below-in-Ended.ensures.before in
    pushed c.args.trees.now _ c.args.text.now.items _ _ c.args.tasks.now.items _ _ _ (ended_splits c.args.trees.now c.args.place c.below-in-Ended.result n ended_below) (sym (append-nil c.args.text.now.items)) c.push_parts-in-Ended.ensures
