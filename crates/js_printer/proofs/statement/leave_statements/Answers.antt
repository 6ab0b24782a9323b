-- What a step leaves, from how a task comes apart: `skipped`, `pushed`.
-- Nodes that are not of a kind: `no_statement`.
-- How the task of each node comes apart: `here`, `starts`, `statements_split`.
use Rattle.std.proofs.Common.{◌-◌, ap, ◌∙◌, refl, sym, append-nil}
use Rattle.js_tree.specs.Postorder.{top, statements}
use Rattle.js_printer.specs.declared.task.Task as task
use Rattle.js_printer.specs.Whole.{before_text}
use Rattle.js_printer.proofs.Splits.{skipped, pushed}
use Rattle.js_printer.proofs.Others.{no_statement}
use Rattle.js_printer.proofs.Parts.{here, starts, statements_split}
use Rattle.js_printer.proofs.statement.leave_statements.Goals as goal

pub returns-in_default : goal.returns-in_default
returns-in_default c = λ text. skipped c.args.trees.now (task.Task.Statements c.args.place) text c.args.tasks.now.items (ap (λ ts. before_text (statements (top ts))) (c.in_default.ensures.none c.requires))

pub returns-in_default-node : goal.returns-in_default-node
returns-in_default-node c =
    let no = no_statement c.in-Some.node.now _ c.in_default-node.not-Const c.in_default-node.not-Let c.in_default-node.not-Assign in
    λ text. skipped c.args.trees.now (task.Task.Statements c.args.place) text c.args.tasks.now.items (ap (λ ts. before_text (statements (top ts))) c.in-Some.ensures.some ∙ ap (λ x. before_text x) no)

pub returns-in-Const : goal.returns-in-Const
returns-in-Const c =
    let n = here c.args.trees.now c.args.place _ _ c.in-Some.ensures.some refl c.in-Some.ensures.inside c.requires in
    let before_below = starts c.args.trees.now (c.args.place - 1) c.below-before.result c.below-before.ensures.trees c.below-before.ensures.before in
    λ text. pushed c.args.trees.now _ text _ _ c.args.tasks.now.items _ _ _ (statements_split c.args.trees.now c.args.place c.below-before.result c.in-Some.node.now n before_below c.in-Const.is) (sym (append-nil text)) c.push_parts.ensures
