use Rattle.std.proofs.Common.{◌≡◌, ◌+◌, ◌∙◌, ap, sym, subst, min, map, arith, Some, None}
use Rattle.std.specs.List.{All}
use Rattle.std.proofs.lemmas.List.Elements.{recursion_from_All}
use Rattle.elm_type.specs.Types.{Record, NoField, Closed, size_all, size_fields, types_of}
use Rattle.elm_type.specs.Rows.{extend}
use Rattle.type_store.specs.Store as plain
use Rattle.type_store.specs.Store.{Slot, slot_at, field_slots, end_slots}
use Rattle.type_store.specs.Shape.{parts_of}
use Rattle.type_store.specs.declared.slot.Cell.TheVariants as cells
use Rattle.type_store.specs.View as stored
use Rattle.type_store.proofs.Parts.{all_first}
use Rattle.type_schemes.proofs.Entering.{slot_is}
use Rattle.type_schemes.specs.Reading.{read_row, read_cell}
use Rattle.type_schemes.specs.Bases.{HasBase, base, most, older_of, type_in}
use Rattle.type_schemes.proofs.Sums.{base_extended}
use Rattle.type_schemes.proofs.Types.{last_in, row_end_record}
use Rattle.type_schemes.proofs.sizes.base.Goals as goal

pub parts_size-requires-clause-known : goal.parts_size-requires-clause-known
parts_size-requires-clause-known c =
    let k : (slot_at c.args.store.now c.args.variable).cell ≡ plain.Built c.in-Built.field-0 c.in-Built.parts.items =
    ap (λ (x : Slot). x.cell) (slot_is c.slots.result.now c.args.store.now c.args.variable c.index-slots-variable.result c.slots.ensures c.requires.inside c.index-slots-variable.is)
    ∙ ap stored.cell_view (ap (λ x. x.cell) c.index-slots-variable.is ∙ c.in-Built.is) in
    subst (All (HasBase c.args.store.now (older_of c.args.known.now) c.args.known.now.bases)) (sym c.deref.ensures.value) (subst (λ x. All (HasBase c.args.store.now (older_of c.args.known.now) c.args.known.now.bases) (parts_of x)) k c.requires.known)

pub fields_size-sum-requires-clause-known : goal.fields_size-sum-requires-clause-known
fields_size-sum-requires-clause-known c =
    let k : (slot_at c.args.store.now c.args.variable).cell ≡ plain.Row (map stored.field_view c.in-Row.fields.items) c.in-Row.end =
    ap (λ (x : Slot). x.cell) (slot_is c.slots.result.now c.args.store.now c.args.variable c.index-slots-variable.result c.slots.ensures c.requires.inside c.index-slots-variable.is)
    ∙ ap stored.cell_view (ap (λ x. x.cell) c.index-slots-variable.is ∙ c.in-Row.is) in
    subst (λ fs. All (HasBase c.args.store.now (older_of c.args.known.now) c.args.known.now.bases) (field_slots (map stored.field_view fs))) (sym c.deref-in-Row.ensures.value)
    (all_first (HasBase c.args.store.now (older_of c.args.known.now) c.args.known.now.bases) (field_slots (map stored.field_view c.in-Row.fields.items)) (end_slots c.in-Row.end) (subst (λ x. All (HasBase c.args.store.now (older_of c.args.known.now) c.args.known.now.bases) (parts_of x)) k c.requires.known))

pub part_base-requires-clause-known : goal.part_base-requires-clause-known
part_base-requires-clause-known c =
    let k : (slot_at c.args.store.now c.args.variable).cell ≡ plain.Row (map stored.field_view c.in-Row.fields.items) (Some c.in-Some.last) =
    ap (λ (x : Slot). x.cell) (slot_is c.slots.result.now c.args.store.now c.args.variable c.index-slots-variable.result c.slots.ensures c.requires.inside c.index-slots-variable.is)
    ∙ ap stored.cell_view (ap (λ x. x.cell) c.index-slots-variable.is ∙ (c.in-Row.is ∙ ap (cells.Row c.in-Row.fields) c.in-Some.is)) in
    last_in c.args.store.now c.requires.whole (HasBase c.args.store.now (older_of c.args.known.now) c.args.known.now.bases) (field_slots (map stored.field_view c.in-Row.fields.items)) c.in-Some.last
    (recursion_from_All (HasBase c.args.store.now (older_of c.args.known.now) c.args.known.now.bases) (parts_of (plain.Row (map stored.field_view c.in-Row.fields.items) (Some c.in-Some.last))) (subst (λ x. All (HasBase c.args.store.now (older_of c.args.known.now) c.args.known.now.bases) (parts_of x)) k c.requires.known))

pub returns-in-Open : goal.returns-in-Open
returns-in-Open c =
    let k : (slot_at c.args.store.now c.args.variable).cell ≡ plain.Open =
    ap (λ (x : Slot). x.cell) (slot_is c.slots.result.now c.args.store.now c.args.variable c.index-slots-variable.result c.slots.ensures c.requires.inside c.index-slots-variable.is)
    ∙ ap stored.cell_view (ap (λ x. x.cell) c.index-slots-variable.is ∙ c.in-Open.is) in
    ap (λ x. min (base (read_cell (type_in c.args.store.now (older_of c.args.known.now)) c.args.variable x)) most) (sym k)

pub returns-in-Constant : goal.returns-in-Constant
returns-in-Constant c =
    let k : (slot_at c.args.store.now c.args.variable).cell ≡ plain.Constant c.in-Constant.field-0 =
    ap (λ (x : Slot). x.cell) (slot_is c.slots.result.now c.args.store.now c.args.variable c.index-slots-variable.result c.slots.ensures c.requires.inside c.index-slots-variable.is)
    ∙ ap stored.cell_view (ap (λ x. x.cell) c.index-slots-variable.is ∙ c.in-Constant.is) in
    ap (λ x. min (base (read_cell (type_in c.args.store.now (older_of c.args.known.now)) c.args.variable x)) most) (sym k)

pub returns-in-Built : goal.returns-in-Built
returns-in-Built c =
    let k : (slot_at c.args.store.now c.args.variable).cell ≡ plain.Built c.in-Built.field-0 c.in-Built.parts.items =
    ap (λ (x : Slot). x.cell) (slot_is c.slots.result.now c.args.store.now c.args.variable c.index-slots-variable.result c.slots.ensures c.requires.inside c.index-slots-variable.is)
    ∙ ap stored.cell_view (ap (λ x. x.cell) c.index-slots-variable.is ∙ c.in-Built.is) in
    let p : c.parts_size.result ≡ min (size_all (types_of (map (type_in c.args.store.now (older_of c.args.known.now)) c.in-Built.parts.items))) most =
    c.parts_size.ensures ∙ ap (λ ws. min (size_all (types_of (map (type_in c.args.store.now (older_of c.args.known.now)) ws))) most) c.deref.ensures.value in
    let g : c.saturating_add.result ≡ min (1 + size_all (types_of (map (type_in c.args.store.now (older_of c.args.known.now)) c.in-Built.parts.items))) most = omega (arith, c.saturating_add.ensures, p) in
    g ∙ ap (λ x. min (base (read_cell (type_in c.args.store.now (older_of c.args.known.now)) c.args.variable x)) most) (sym k)

pub returns-in-None : goal.returns-in-None
returns-in-None c =
    let k : (slot_at c.args.store.now c.args.variable).cell ≡ plain.Row (map stored.field_view c.in-Row.fields.items) None =
    ap (λ (x : Slot). x.cell) (slot_is c.slots.result.now c.args.store.now c.args.variable c.index-slots-variable.result c.slots.ensures c.requires.inside c.index-slots-variable.is)
    ∙ ap stored.cell_view (ap (λ x. x.cell) c.index-slots-variable.is ∙ (c.in-Row.is ∙ ap (cells.Row c.in-Row.fields) c.in-None.is)) in
    let p : c.fields_size-sum.result ≡ min (size_fields (read_row (type_in c.args.store.now (older_of c.args.known.now)) (map stored.field_view c.in-Row.fields.items))) most =
    c.fields_size-sum.ensures ∙ ap (λ fs. min (size_fields (read_row (type_in c.args.store.now (older_of c.args.known.now)) (map stored.field_view fs))) most) c.deref-in-Row.ensures.value in
    let q = base_extended (read_row (type_in c.args.store.now (older_of c.args.known.now)) (map stored.field_view c.in-Row.fields.items)) (Record NoField Closed) tt in
    let g : c.saturating_add-in-None.result ≡ min (base (extend (read_row (type_in c.args.store.now (older_of c.args.known.now)) (map stored.field_view c.in-Row.fields.items)) (Record NoField Closed))) most =
    omega (arith, c.saturating_add-in-None.ensures, p, q) in
    g ∙ ap (λ x. min (base (read_cell (type_in c.args.store.now (older_of c.args.known.now)) c.args.variable x)) most) (sym k)

pub returns-in-Some : goal.returns-in-Some
returns-in-Some c =
    let k : (slot_at c.args.store.now c.args.variable).cell ≡ plain.Row (map stored.field_view c.in-Row.fields.items) (Some c.in-Some.last) =
    ap (λ (x : Slot). x.cell) (slot_is c.slots.result.now c.args.store.now c.args.variable c.index-slots-variable.result c.slots.ensures c.requires.inside c.index-slots-variable.is)
    ∙ ap stored.cell_view (ap (λ x. x.cell) c.index-slots-variable.is ∙ (c.in-Row.is ∙ ap (cells.Row c.in-Row.fields) c.in-Some.is)) in
    let h : HasBase c.args.store.now (older_of c.args.known.now) c.args.known.now.bases c.in-Some.last =
    last_in c.args.store.now c.requires.whole (HasBase c.args.store.now (older_of c.args.known.now) c.args.known.now.bases) (field_slots (map stored.field_view c.in-Row.fields.items)) c.in-Some.last
    (recursion_from_All (HasBase c.args.store.now (older_of c.args.known.now) c.args.known.now.bases) (parts_of (plain.Row (map stored.field_view c.in-Row.fields.items) (Some c.in-Some.last))) (subst (λ x. All (HasBase c.args.store.now (older_of c.args.known.now) c.args.known.now.bases) (parts_of x)) k c.requires.known)) in
    let p : c.fields_size-sum.result ≡ min (size_fields (read_row (type_in c.args.store.now (older_of c.args.known.now)) (map stored.field_view c.in-Row.fields.items))) most =
    c.fields_size-sum.ensures ∙ ap (λ fs. min (size_fields (read_row (type_in c.args.store.now (older_of c.args.known.now)) (map stored.field_view fs))) most) c.deref-in-Row.ensures.value in
    let q =
    base_extended (read_row (type_in c.args.store.now (older_of c.args.known.now)) (map stored.field_view c.in-Row.fields.items)) (type_in c.args.store.now (older_of c.args.known.now) c.in-Some.last)
    (row_end_record c.args.store.now c.requires.whole (older_of c.args.known.now) c.args.variable c.requires.inside (map stored.field_view c.in-Row.fields.items) c.in-Some.last c.requires.first h.listed k) in
    let g : c.saturating_add-in-Some.result ≡ min (base (extend (read_row (type_in c.args.store.now (older_of c.args.known.now)) (map stored.field_view c.in-Row.fields.items)) (type_in c.args.store.now (older_of c.args.known.now) c.in-Some.last))) most =
    omega (arith, c.saturating_add-in-Some.ensures, p, q, c.part_base.ensures) in
    g ∙ ap (λ x. min (base (read_cell (type_in c.args.store.now (older_of c.args.known.now)) c.args.variable x)) most) (sym k)
