-- A closed record: `record_node`.
use Rattle.std.proofs.Common.{◌≡◌, [], ◌∷◌, ◌++◌, ◌<◌, length, take, drop, None, sym, ap, ◌∙◌, subst}
use Rattle.std.specs.Prelude.{All}
use Rattle.elm_type.specs.declared.node.Node.TheVariants as node
use Rattle.type_store.specs.Store.{Row, field_slots}
use Rattle.type_store.specs.Shape.{Ascending, IsCell}
use Rattle.infer_steps.specs.View.{here}
use Rattle.infer_steps.specs.Made.{IsMade, OfRow}
use Rattle.infer_types.specs.Stacks.{waiting}
use Rattle.infer_types.specs.Writing.{NodeWritten}
use Rattle.infer_types.proofs.ByNodes.{record_node, closed_inside, closed_cell, taken_live}
use Rattle.infer_types.proofs.Stacks.{map_take}
use Rattle.infer_types.proofs.writing.write_record.Goals as goal

pub row-requires-clause-inside : goal.row-requires-clause-inside
row-requires-clause-inside c =
    let old = here c.args.state.now in
    subst (λ fs. All (λ w. w < length old.store) (field_slots fs ++ [])) (sym c.in_ok-fields.ensures.taken)
    (closed_inside old.depth old.store (take c.args.count (waiting c.args.stack.now.items))
    (taken_live old.depth old.store c.args.count (waiting c.args.stack.now.items) c.requires.waiting))

pub row-requires-clause-cell : goal.row-requires-clause-cell
row-requires-clause-cell c =
    subst (λ fs. IsCell 0 (Row fs None)) (sym c.in_ok-fields.ensures.taken)
    (closed_cell (take c.args.count (waiting c.args.stack.now.items))
    (subst Ascending (sym (map_take (λ f. f.0) c.args.count (waiting c.args.stack.now.items))) c.requires.ascending))

pub returns : goal.returns
returns c = λ leaves. (
    let old = here c.args.state.now in
    let new = here c.row.new.state in
    let w = waiting c.args.stack.now.items in
    let made : IsMade old new c.in_ok-slot.slot (OfRow (take c.args.count w) None) =
    subst (λ fs. IsMade old new c.in_ok-slot.slot (OfRow fs None)) c.in_ok-fields.ensures.taken c.in_ok-slot.ensures in
    let stack : waiting c.push_part.new.stack.items ≡ ([], c.in_ok-slot.slot) ∷ drop c.args.count w =
    c.in_ok-push_part.ensures ∙ (ap (λ k. (k, c.in_ok-slot.slot) ∷ waiting c.take_parts.new.stack.items)
    c.requires.blank
    ∙ ap (λ fs. ([], c.in_ok-slot.slot) ∷ fs) c.in_ok-fields.ensures.left) in
    subst (λ fs. NodeWritten leaves (node.Record c.args.count) w old fs new) (sym stack)
    (record_node leaves w old new c.requires.waiting c.args.count c.in_ok-slot.slot made))
