-- What a step leaves, from how a task comes apart: `skipped`, `valued`.
-- Nodes that are not of a kind: `no_statement`.
-- How the task of each node comes apart: `here`, `const_value_splits`, `let_value_splits`, `assign_value_splits`.
use Rattle.std.proofs.Common.{[], ap, ◌∙◌, refl, sym, append-nil}
use Rattle.js_tree.specs.Postorder.{top, statements}
use Rattle.js_printer.specs.declared.task.Task as task
use Rattle.js_printer.specs.Tasks.{statement_text}
use Rattle.js_printer.proofs.Splits.{skipped, valued}
use Rattle.js_printer.proofs.Others.{no_statement}
use Rattle.js_printer.proofs.Parts.{here, const_value_splits, let_value_splits, assign_value_splits}
use Rattle.js_printer.proofs.statement.write_statement.Goals as goal

pub returns-in_default : goal.returns-in_default
returns-in_default c = skipped c.args.trees.now (task.Task.Statement c.args.place) c.args.text.now.items c.args.tasks.now.items (ap (λ ts. statement_text (statements (top ts))) (c.in_default.ensures.none c.requires))

pub returns-in_default-node : goal.returns-in_default-node
returns-in_default-node c =
    let no = no_statement c.in-Some.node.now _ c.in_default-node.not-Const c.in_default-node.not-Let c.in_default-node.not-Assign in
    skipped c.args.trees.now (task.Task.Statement c.args.place) c.args.text.now.items c.args.tasks.now.items (ap (λ ts. statement_text (statements (top ts))) c.in-Some.ensures.some ∙ ap (λ x. statement_text x) no)

pub returns-in_ok-extend_from_slice-in-Const : goal.returns-in_ok-extend_from_slice-in-Const
returns-in_ok-extend_from_slice-in-Const c =
    let n = here c.args.trees.now c.args.place _ _ c.in-Some.ensures.some c.in-Const.is c.in-Some.ensures.inside c.requires in
    valued c.args.trees.now _ c.args.text.now.items _ _ _ _ c.args.tasks.now.items _ _ c.write_value.result (const_value_splits c.args.trees.now c.args.place _ _ n refl) c.in_ok-extend_from_slice-in-Const.ensures.items c.write_value.ensures.written c.write_value.ensures.left

pub returns-in_ok-extend_from_slice-in-Let : goal.returns-in_ok-extend_from_slice-in-Let
returns-in_ok-extend_from_slice-in-Let c =
    let n = here c.args.trees.now c.args.place _ _ c.in-Some.ensures.some c.in-Let.is c.in-Some.ensures.inside c.requires in
    valued c.args.trees.now _ c.args.text.now.items _ _ _ _ c.args.tasks.now.items _ _ c.write_value-in-Let.result (let_value_splits c.args.trees.now c.args.place _ _ n refl) c.in_ok-extend_from_slice-in-Let.ensures.items c.write_value-in-Let.ensures.written c.write_value-in-Let.ensures.left

pub returns-in-Assign : goal.returns-in-Assign
returns-in-Assign c =
    let n = here c.args.trees.now c.args.place _ _ c.in-Some.ensures.some c.in-Assign.is c.in-Some.ensures.inside c.requires in
    valued c.args.trees.now _ c.args.text.now.items [] _ _ _ c.args.tasks.now.items _ _ c.write_value-in-Assign.result (assign_value_splits c.args.trees.now c.args.place _ _ n refl) (sym (append-nil c.args.text.now.items)) c.write_value-in-Assign.ensures.written c.write_value-in-Assign.ensures.left
