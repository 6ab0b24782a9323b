-- What a step leaves, from how a task comes apart: `written_whole`, `pushed`, `after_two`, `after_three`, and
-- others.
-- The texts of units and of ports, one on: `zero_text`.
-- Nodes that are not of a kind: `no_expression`.
use Rattle.std.proofs.Common.{◌-◌, ap, ◌∙◌, refl, sym, append-nil, rules}
use Rattle.std.proofs.lemmas.Int.{ints}
use Rattle.js_tree.specs.Text.{js_text, text_text, int_text}
use Rattle.js_tree.specs.Postorder.{top, expression}
use Rattle.js_printer.specs.declared.task.Task as task
use Rattle.js_printer.proofs.Splits.{written_whole, pushed, after_two, after_three, if_ok}
use Rattle.js_printer.proofs.Texts.{zero_text}
use Rattle.js_printer.proofs.Others.{no_expression}
use Rattle.js_printer.proofs.Parts.{here, starts, arrow_splits, block_splits, call_splits, binary_splits}
use Rattle.js_printer.proofs.Parts.{conditional_splits, object_splits, property_splits, list_splits, helper_splits}
use Rattle.js_printer.proofs.expression.write_expression.Goals as goal

pub returns-in_default : goal.returns-in_default
returns-in_default c = written_whole c.args.trees.now (task.Task.Expression c.args.place) _ _ _ c.args.tasks.now.items _ (ap (λ ts. js_text (expression (top ts))) (c.in_default.ensures.none c.requires) ∙ zero_text) (if_ok _ _ _ _ c.extend_from_slice.ensures.items)

pub returns-in_default-node : goal.returns-in_default-node
returns-in_default-node c = written_whole c.args.trees.now (task.Task.Expression c.args.place) _ _ _ c.args.tasks.now.items _ (ap (λ ts. js_text (expression (top ts))) c.in-Some.ensures.some ∙ ap (λ x. js_text x) (no_expression c.in-Some.node.now _ c.in_default-node.not-Int c.in_default-node.not-Bool c.in_default-node.not-Text c.in_default-node.not-Var c.in_default-node.not-Arrow c.in_default-node.not-Block c.in_default-node.not-Call c.in_default-node.not-Binary c.in_default-node.not-Conditional c.in_default-node.not-Object c.in_default-node.not-Property c.in_default-node.not-List c.in_default-node.not-Helper) ∙ zero_text) (if_ok _ _ _ _ c.extend_from_slice-in_default-node.ensures.items)

pub returns-in-Int : goal.returns-in-Int
returns-in-Int c =
    let n = here c.args.trees.now c.args.place _ _ c.in-Some.ensures.some c.in-Int.is c.in-Some.ensures.inside c.requires in
    written_whole c.args.trees.now (task.Task.Expression c.args.place) _ _ _ c.args.tasks.now.items _ (ap (λ ts. js_text (expression (top ts))) n.trees ∙ ap int_text (sym (search (rules, ints)))) (c.write_int.ensures)

pub returns-in-Bool : goal.returns-in-Bool
returns-in-Bool c =
    let n = here c.args.trees.now c.args.place _ _ c.in-Some.ensures.some c.in-Bool.is c.in-Some.ensures.inside c.requires in
    written_whole c.args.trees.now (task.Task.Expression c.args.place) _ _ _ c.args.tasks.now.items _ (ap (λ ts. js_text (expression (top ts))) n.trees ∙ sym c.bool_bytes.ensures) (if_ok _ _ _ _ c.extend_from_slice-in-Bool.ensures.items)

pub returns-in-Text : goal.returns-in-Text
returns-in-Text c =
    let n = here c.args.trees.now c.args.place _ _ c.in-Some.ensures.some c.in-Text.is c.in-Some.ensures.inside c.requires in
    written_whole c.args.trees.now (task.Task.Expression c.args.place) _ _ _ c.args.tasks.now.items _ (ap (λ ts. js_text (expression (top ts))) n.trees ∙ ap text_text (sym c.as_slice.ensures)) (c.write_text.ensures)

pub returns-in-Var : goal.returns-in-Var
returns-in-Var c =
    let n = here c.args.trees.now c.args.place _ _ c.in-Some.ensures.some c.in-Var.is c.in-Some.ensures.inside c.requires in
    written_whole c.args.trees.now (task.Task.Expression c.args.place) _ _ _ c.args.tasks.now.items _ (ap (λ ts. js_text (expression (top ts))) n.trees) (c.write_name.ensures)

pub returns-in_ok-extend_from_slice-in-Arrow : goal.returns-in_ok-extend_from_slice-in-Arrow
returns-in_ok-extend_from_slice-in-Arrow c =
    let n = here c.args.trees.now c.args.place _ _ c.in-Some.ensures.some c.in-Arrow.is c.in-Some.ensures.inside c.requires in
    pushed c.args.trees.now _ c.args.text.now.items _ _ c.args.tasks.now.items _ _ _ (arrow_splits c.args.trees.now c.args.place _ _ n refl) (after_three c.args.text.now.items _ _ _ _ _ _ c.in_ok-push-in-Arrow.ensures.items c.in_ok-write_name-in-Arrow.ensures c.in_ok-extend_from_slice-in-Arrow.ensures.items) c.push_parts.ensures

pub returns-in_ok-extend_from_slice-in-Block : goal.returns-in_ok-extend_from_slice-in-Block
returns-in_ok-extend_from_slice-in-Block c =
    let n = here c.args.trees.now c.args.place _ _ c.in-Some.ensures.some c.in-Block.is c.in-Some.ensures.inside c.requires in
    pushed c.args.trees.now _ c.args.text.now.items _ _ c.args.tasks.now.items _ _ _ (block_splits c.args.trees.now c.args.place _ n refl) c.in_ok-extend_from_slice-in-Block.ensures.items c.push_parts-in-Block.ensures

pub returns-in-Call : goal.returns-in-Call
returns-in-Call c =
    let n = here c.args.trees.now c.args.place _ _ c.in-Some.ensures.some c.in-Call.is c.in-Some.ensures.inside c.requires in
    let start_below = starts c.args.trees.now (c.args.place - 1) c.below.result c.below.ensures.trees c.below.ensures.before in
    pushed c.args.trees.now _ c.args.text.now.items _ _ c.args.tasks.now.items _ _ _ (call_splits c.args.trees.now c.args.place c.below.result _ _ n start_below refl refl) (sym (append-nil c.args.text.now.items)) c.push_parts-in-Call.ensures

pub returns-in_ok-push-in-Binary : goal.returns-in_ok-push-in-Binary
returns-in_ok-push-in-Binary c =
    let n = here c.args.trees.now c.args.place _ _ c.in-Some.ensures.some c.in-Binary.is c.in-Some.ensures.inside c.requires in
    let left_below = starts c.args.trees.now (c.args.place - 1) c.below-left.result c.below-left.ensures.trees c.below-left.ensures.before in
    pushed c.args.trees.now _ c.args.text.now.items _ _ c.args.tasks.now.items _ _ _ (binary_splits c.args.trees.now c.args.place c.below-left.result _ _ _ n left_below c.operator_bytes.ensures refl) c.in_ok-push-in-Binary.ensures.items c.push_parts-in-Binary.ensures

pub returns-in_ok-push-in-Conditional : goal.returns-in_ok-push-in-Conditional
returns-in_ok-push-in-Conditional c =
    let n = here c.args.trees.now c.args.place _ _ c.in-Some.ensures.some c.in-Conditional.is c.in-Some.ensures.inside c.requires in
    let middle_below = starts c.args.trees.now (c.args.place - 1) c.below-middle.result c.below-middle.ensures.trees c.below-middle.ensures.before in
    let conditional_below = starts c.args.trees.now c.below-middle.result c.below-in-Conditional.result c.below-in-Conditional.ensures.trees c.below-in-Conditional.ensures.before in
    pushed c.args.trees.now _ c.args.text.now.items _ _ c.args.tasks.now.items _ _ _ (conditional_splits c.args.trees.now c.args.place c.below-middle.result c.below-in-Conditional.result _ _ _ n middle_below conditional_below refl refl refl) c.in_ok-push-in-Conditional.ensures.items c.push_parts-in-Conditional.ensures

pub returns-in_ok-push-in-Object : goal.returns-in_ok-push-in-Object
returns-in_ok-push-in-Object c =
    let n = here c.args.trees.now c.args.place _ _ c.in-Some.ensures.some c.in-Object.is c.in-Some.ensures.inside c.requires in
    pushed c.args.trees.now _ c.args.text.now.items _ _ c.args.tasks.now.items _ _ _ (object_splits c.args.trees.now c.args.place _ n refl) c.in_ok-push-in-Object.ensures.items c.push_parts-in-Object.ensures

pub returns-in-Property : goal.returns-in-Property
returns-in-Property c =
    let n = here c.args.trees.now c.args.place _ _ c.in-Some.ensures.some c.in-Property.is c.in-Some.ensures.inside c.requires in
    pushed c.args.trees.now _ c.args.text.now.items _ _ c.args.tasks.now.items _ _ _ (property_splits c.args.trees.now c.args.place _ n) (sym (append-nil c.args.text.now.items)) c.push_parts-in-Property.ensures

pub returns-in_ok-extend_from_slice-in-List : goal.returns-in_ok-extend_from_slice-in-List
returns-in_ok-extend_from_slice-in-List c =
    let n = here c.args.trees.now c.args.place _ _ c.in-Some.ensures.some c.in-List.is c.in-Some.ensures.inside c.requires in
    pushed c.args.trees.now _ c.args.text.now.items _ _ c.args.tasks.now.items _ _ _ (list_splits c.args.trees.now c.args.place _ n refl) c.in_ok-extend_from_slice-in-List.ensures.items c.push_parts-in-List.ensures

pub returns-in_ok-push-in-Helper : goal.returns-in_ok-push-in-Helper
returns-in_ok-push-in-Helper c =
    let e = rw c.helper_bytes.ensures at c.in_ok-extend_from_slice-in-Helper.ensures.items in
    let n = here c.args.trees.now c.args.place _ _ c.in-Some.ensures.some c.in-Helper.is c.in-Some.ensures.inside c.requires in
    pushed c.args.trees.now _ c.args.text.now.items _ _ c.args.tasks.now.items _ _ _ (helper_splits c.args.trees.now c.args.place _ _ n refl) (after_two c.args.text.now.items _ _ _ _ e c.in_ok-push-in-Helper.ensures.items) c.push_parts-in-Helper.ensures
