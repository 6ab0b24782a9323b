-- A record over a variable: `open_node`; or the variable itself: `leaf_node`.
use Rattle.std.proofs.Common.{◌≡◌, [], ◌∷◌, ◌++◌, ◌<◌, length, map, take, drop, Some, sym, ap, ◌∙◌, subst, arith}
use Rattle.std.proofs.lemmas.List.{length-map}
use Rattle.std.specs.Prelude.{All, slice_index}
use Rattle.elm_type.specs.declared.node.Node.TheVariants as node
use Rattle.elm_type.specs.declared.node.Leaf.TheVariants as leaf
use Rattle.type_store.specs.Store.{Row, field_slots, field_names}
use Rattle.type_store.specs.Shape.{Ascending, AllIn, IsCell}
use Rattle.type_store.proofs.Lacking.{all_in_itself}
use Rattle.type_store.specs.View.{field_view}
use Rattle.infer_steps.specs.View.{here}
use Rattle.infer_steps.specs.Made.{IsMade, OfRow}
use Rattle.infer_types.specs.Stacks.{waiting, names}
use Rattle.infer_types.specs.Writing.{NodeWritten}
use Rattle.infer_types.proofs.ByNodes.{open_node, leaf_node, open_inside, open_cell, taken_live, at_leaf, itself}
use Rattle.infer_types.proofs.Stacks.{map_take, nothing_left}
use Rattle.infer_types.proofs.writing.write_open.Goals as goal

pub row-requires-clause-inside : goal.row-requires-clause-inside
row-requires-clause-inside c =
    let old = here c.args.state.now in
    let w = waiting c.args.stack.now.items in
    subst (λ fs. All (λ u. u < length old.store) (field_slots fs ++ slice_index c.args.leaves.now c.args.number ∷ []))
    (sym c.in_ok-fields.ensures.taken)
    (open_inside old.depth old.store (take c.args.count w) (slice_index c.args.leaves.now c.args.number)
    (taken_live old.depth old.store c.args.count w c.requires.waiting)
    (at_leaf old.depth old.store c.args.leaves.now c.args.number c.requires.fits.0 c.requires.leaves))

pub row-requires-clause-cell : goal.row-requires-clause-cell
row-requires-clause-cell c =
    let w = waiting c.args.stack.now.items in
    let end = slice_index c.args.leaves.now c.args.number in
    subst (λ fs. IsCell 0 (Row fs (Some end))) (sym c.in_ok-fields.ensures.taken)
    (open_cell (take c.args.count w) end
    (λ e. (
    let none : length (map field_view c.in_ok-fields.fields.items) ≡ 0 = ap length (c.in_ok-fields.ensures.taken ∙ e) in
    c.if-len-eq0.false (omega (arith, c.len.ensures, none, length-map c.in_ok-fields.fields.items field_view))))
    (subst Ascending (sym (map_take (λ f. f.0) c.args.count w)) c.requires.fits.1))

pub row-requires-clause-lacking : goal.row-requires-clause-lacking
row-requires-clause-lacking c =
    let w = waiting c.args.stack.now.items in
    let end = slice_index c.args.leaves.now c.args.number in
    let named : field_names (map field_view c.in_ok-fields.fields.items) ≡ take c.args.count (names w) =
    ap field_names c.in_ok-fields.ensures.taken ∙ map_take (λ f. f.0) c.args.count w in
    c.lack_law.ensures.open c.args.state.now.store (map field_view c.in_ok-fields.fields.items) end
    (take c.args.count (names w)) c.requires.fits.2
    (subst (λ ys. AllIn ys (take c.args.count (names w))) (sym named) (all_in_itself (take c.args.count (names w))))

pub returns-then-len-eq0 : goal.returns-then-len-eq0
returns-then-len-eq0 c =
    let s = here c.args.state.now in
    let w = waiting c.args.stack.now.items in
    let end = slice_index c.args.leaves.now c.args.number in
    let none : take c.args.count w ≡ [] =
    sym c.in_ok-fields.ensures.taken ∙ ap (map field_view)
    (nothing_left c.in_ok-fields.fields.items (omega (arith, c.len.ensures, c.if-len-eq0.true))) in
    let stack : waiting c.push_part.new.stack.items ≡ ([], end) ∷ drop c.args.count w =
    c.in_ok-push_part.ensures ∙ (ap (λ k. (k, end) ∷ waiting c.take_parts.new.stack.items) c.requires.blank
    ∙ ap (λ fs. ([], end) ∷ fs) c.in_ok-fields.ensures.left) in
    subst (λ fs. NodeWritten c.args.leaves.now (node.Open (leaf.Free c.args.number) c.args.count) w s fs s) (sym stack)
    (leaf_node c.args.leaves.now w s (itself s c.requires.whole) c.requires.waiting c.args.number c.args.count
    c.requires.fits.0
    (at_leaf s.depth s.store c.args.leaves.now c.args.number c.requires.fits.0 c.requires.leaves) none)

pub returns : goal.returns
returns c =
    let old = here c.args.state.now in
    let new = here c.row.new.state in
    let w = waiting c.args.stack.now.items in
    let end = slice_index c.args.leaves.now c.args.number in
    let made : IsMade old new c.in_ok-slot.slot (OfRow (take c.args.count w) (Some end)) =
    subst (λ fs. IsMade old new c.in_ok-slot.slot (OfRow fs (Some end))) c.in_ok-fields.ensures.taken
    c.in_ok-slot.ensures in
    let stack : waiting c.push_part-2.new.stack.items ≡ ([], c.in_ok-slot.slot) ∷ drop c.args.count w =
    c.in_ok-push_part-2.ensures ∙ (ap (λ k. (k, c.in_ok-slot.slot) ∷ waiting c.take_parts.new.stack.items)
    c.requires.blank
    ∙ ap (λ fs. ([], c.in_ok-slot.slot) ∷ fs) c.in_ok-fields.ensures.left) in
    subst (λ fs. NodeWritten c.args.leaves.now (node.Open (leaf.Free c.args.number) c.args.count) w old fs new)
    (sym stack)
    (open_node c.args.leaves.now w old new c.requires.waiting c.args.count c.in_ok-slot.slot c.args.number
    c.requires.fits.0 made)
