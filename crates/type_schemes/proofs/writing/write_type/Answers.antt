-- The nodes of tasks: `writes_one`, `open_written`, `constant_written`, `built_written`.
use Rattle.std.proofs.Common.{◌≡◌, ◌∷◌, ◌++◌, [], ◌∙◌, refl, ap, sym, subst, length, map, rules, reverse, arith}
use Rattle.elm_type.specs.Spelling.{spell}
use Rattle.elm_type.specs.declared.node.Leaf.TheVariants as leaf
use Rattle.elm_type.specs.declared.node.Node.TheVariants as node
use Rattle.type_store.specs.Store as plain
use Rattle.type_store.specs.Store.{slot_at}
use Rattle.type_store.specs.declared.slot.Cell.TheVariants as cell
use Rattle.type_store.specs.View as stored
use Rattle.type_schemes.specs.Order.{IsListed}
use Rattle.type_schemes.proofs.Ends.{end_is}
use Rattle.type_schemes.specs.Reading.{read_in}
use Rattle.type_schemes.specs.Bases.{type_in}
use Rattle.type_schemes.specs.Rows.{is_row, older_in}
use Rattle.type_schemes.specs.Tasks.{Writes}
use Rattle.type_schemes.specs.declared.writing.Task.TheVariants.{Whole}
use Rattle.type_schemes.specs.declared.writing.Writer.{Writer}
use Rattle.type_schemes.proofs.Along.{never_bound}
use Rattle.type_schemes.proofs.Listed.{cell_read}
use Rattle.type_schemes.proofs.TypeSchemesNodes.{writes_one, open_written, constant_written, built_written, built_known}
use Rattle.type_schemes.proofs.writing.write_type.Goals as goal

pub write_record-requires-clause-listed : goal.write_record-requires-clause-listed
write_record-requires-clause-listed c =
    let e = end_is c.args.store.now c.requires.whole c.args.variable c.root-at.result c.root-at.ensures.leads
    c.root-at.ensures.ends in
    subst (IsListed (older_in c.args.order.now)) e c.requires.known.listed

pub write_record-requires-clause-row : goal.write_record-requires-clause-row
write_record-requires-clause-row c =
    let k : (slot_at c.args.store.now c.root-at.result).cell ≡ plain.Row (map stored.field_view c.in-Row.field-0.items)
    c.in-Row.field-1 =
    cell_read c.slots.result.now c.args.store.now c.root-at.result c.index-slots-at.result
    (cell.Row c.in-Row.field-0 c.in-Row.field-1) c.slots.ensures c.root-at.ensures.inside
    c.index-slots-at.is (ap (λ x. x.cell) c.index-slots-at.is ∙ c.in-Row.is) in
    ap is_row k

pub unreachable-requires : goal.unreachable-requires
unreachable-requires c =
    let e = end_is c.args.store.now c.requires.whole c.args.variable c.root-at.result c.root-at.ensures.leads
    c.root-at.ensures.ends in
    let l = subst (IsListed (older_in c.args.order.now)) e c.requires.known.listed in
    let k : (slot_at c.args.store.now c.root-at.result).cell ≡ plain.Bound c.in-Bound.field-0 =
    cell_read c.slots.result.now c.args.store.now c.root-at.result c.index-slots-at.result
    (cell.Bound c.in-Bound.field-0) c.slots.ensures c.root-at.ensures.inside
    c.index-slots-at.is (ap (λ x. x.cell) c.index-slots-at.is ∙ c.in-Bound.is) in
    never_bound c.args.store.now (older_in c.args.order.now) c.requires.whole c.requires.first c.root-at.result l
    c.in-Bound.field-0 k

pub returns-in_ok-push-in-Open : goal.returns-in_ok-push-in-Open
returns-in_ok-push-in-Open c =
    let e = end_is c.args.store.now c.requires.whole c.args.variable c.root-at.result c.root-at.ensures.leads
    c.root-at.ensures.ends in
    let l = subst (IsListed (older_in c.args.order.now)) e c.requires.known.listed in
    let k : (slot_at c.args.store.now c.root-at.result).cell ≡ plain.Open =
    cell_read c.slots.result.now c.args.store.now c.root-at.result c.index-slots-at.result cell.Open c.slots.ensures
    c.root-at.ensures.inside
    c.index-slots-at.is (ap (λ x. x.cell) c.index-slots-at.is ∙ c.in-Open.is) in
    let new : Writer = record { nodes = c.push.new.self; todo = c.args.writer.now.todo } in
    subst (λ u. Writes c.args.store.now (older_in c.args.order.now)
    (type_in c.args.store.now (older_in c.args.order.now))
    (spell (read_in c.args.store.now (older_in c.args.order.now) u)) c.args.writer.now new) (sym e)
    (writes_one c.args.store.now (older_in c.args.order.now) (type_in c.args.store.now (older_in c.args.order.now))
    (node.Open (leaf.Free c.root-at.result) 0) []
    (spell (read_in c.args.store.now (older_in c.args.order.now) c.root-at.result)) c.args.writer.now new
    (open_written c.args.store.now (older_in c.args.order.now) c.requires.whole c.requires.first c.root-at.result l k)
    c.in_ok-push-in-Open.ensures.items refl tt)

pub returns-in_ok-push-in-Constant : goal.returns-in_ok-push-in-Constant
returns-in_ok-push-in-Constant c =
    let e = end_is c.args.store.now c.requires.whole c.args.variable c.root-at.result c.root-at.ensures.leads
    c.root-at.ensures.ends in
    let l = subst (IsListed (older_in c.args.order.now)) e c.requires.known.listed in
    let same : c.in_ok-clone-in-Constant.field-0 ≡ c.in-Constant.rigid = search rules in
    let k : (slot_at c.args.store.now c.root-at.result).cell ≡ plain.Constant c.in-Constant.rigid =
    cell_read c.slots.result.now c.args.store.now c.root-at.result c.index-slots-at.result
    (cell.Constant c.in-Constant.rigid) c.slots.ensures c.root-at.ensures.inside
    c.index-slots-at.is (ap (λ x. x.cell) c.index-slots-at.is ∙ c.in-Constant.is) in
    let new : Writer = record { nodes = c.push-in-Constant.new.self; todo = c.args.writer.now.todo } in
    subst (λ u. Writes c.args.store.now (older_in c.args.order.now)
    (type_in c.args.store.now (older_in c.args.order.now))
    (spell (read_in c.args.store.now (older_in c.args.order.now) u)) c.args.writer.now new) (sym e)
    (writes_one c.args.store.now (older_in c.args.order.now) (type_in c.args.store.now (older_in c.args.order.now))
    (node.Open (leaf.Fixed c.in-Constant.rigid) 0) []
    (spell (read_in c.args.store.now (older_in c.args.order.now) c.root-at.result)) c.args.writer.now new
    (constant_written c.args.store.now (older_in c.args.order.now) c.requires.whole c.requires.first c.root-at.result l
    c.in-Constant.rigid k)
    (c.in_ok-push-in-Constant.ensures.items ∙ ap (λ r. c.args.writer.now.nodes.items ++ node.Open (leaf.Fixed r) 0 ∷ [])
    same) refl tt)

pub returns-in_ok-push_types-in-Built : goal.returns-in_ok-push_types-in-Built
returns-in_ok-push_types-in-Built c =
    let e = end_is c.args.store.now c.requires.whole c.args.variable c.root-at.result c.root-at.ensures.leads
    c.root-at.ensures.ends in
    let l = subst (IsListed (older_in c.args.order.now)) e c.requires.known.listed in
    let k : (slot_at c.args.store.now c.root-at.result).cell ≡ plain.Built c.in-Built.head c.in-Built.parts.items =
    cell_read c.slots.result.now c.args.store.now c.root-at.result c.index-slots-at.result
    (cell.Built c.in-Built.head c.in-Built.parts) c.slots.ensures c.root-at.ensures.inside
    c.index-slots-at.is (ap (λ x. x.cell) c.index-slots-at.is ∙ c.in-Built.is) in
    let count : c.len.result ≡ length c.in-Built.parts.items = omega (arith, c.len.ensures, c.in-Built.parts.ok.0) in
    let new : Writer = record { nodes = c.push-in-Built.new.self; todo = c.push_types.new.todo } in
    subst (λ u. Writes c.args.store.now (older_in c.args.order.now)
    (type_in c.args.store.now (older_in c.args.order.now))
    (spell (read_in c.args.store.now (older_in c.args.order.now) u)) c.args.writer.now new) (sym e)
    (writes_one c.args.store.now (older_in c.args.order.now) (type_in c.args.store.now (older_in c.args.order.now))
    (node.Made c.in-Built.head (length c.in-Built.parts.items)) (map Whole c.in-Built.parts.items)
    (spell (read_in c.args.store.now (older_in c.args.order.now) c.root-at.result)) c.args.writer.now new
    (built_written c.args.store.now (older_in c.args.order.now) c.requires.whole c.requires.first c.root-at.result l
    c.in-Built.head c.in-Built.parts.items k)
    (c.in_ok-push-in-Built.ensures.items
    ∙ (ap (λ h. c.args.writer.now.nodes.items ++ node.Made h c.len.result ∷ []) c.in_ok-copy-in-Built.ensures
    ∙ ap (λ n. c.args.writer.now.nodes.items ++ node.Made c.in-Built.head n ∷ []) count))
    (c.in_ok-push_types-in-Built.ensures ∙ ap (λ ws. map Whole ws ++ reverse c.args.writer.now.todo.items)
    c.deref.ensures.value)
    (built_known c.args.store.now (older_in c.args.order.now) c.requires.whole c.requires.first c.root-at.result l
    c.in-Built.head c.in-Built.parts.items k))

pub returns-in_ok-write_record-in-Row : goal.returns-in_ok-write_record-in-Row
returns-in_ok-write_record-in-Row c =
    let e = end_is c.args.store.now c.requires.whole c.args.variable c.root-at.result c.root-at.ensures.leads
    c.root-at.ensures.ends in
    let new : Writer = c.write_record.new.writer in
    subst (λ u. Writes c.args.store.now (older_in c.args.order.now)
    (type_in c.args.store.now (older_in c.args.order.now))
    (spell (read_in c.args.store.now (older_in c.args.order.now) u)) c.args.writer.now new) (sym e)
    c.in_ok-write_record-in-Row.ensures
