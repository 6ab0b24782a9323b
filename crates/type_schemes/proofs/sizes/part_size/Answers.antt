use Rattle.std.proofs.Common.{◌≡◌, ◌∙◌, ap, sym, min, map, arith}
use Rattle.type_store.specs.Store as plain
use Rattle.type_store.specs.Store.{Slot, slot_at}
use Rattle.type_store.specs.View as stored
use Rattle.type_schemes.proofs.Ends.{end_is}
use Rattle.type_schemes.proofs.Entering.{slot_is}
use Rattle.type_schemes.specs.Bases.{most, older_of}
use Rattle.type_schemes.proofs.Types.{sized_end}
use Rattle.type_schemes.proofs.sizes.part_size.Goals as goal

pub returns-in-Open : goal.returns-in-Open
returns-in-Open c =
    let e = end_is c.args.store.now c.requires.whole c.args.variable c.root-at.result c.root-at.ensures.leads c.root-at.ensures.ends in
    let k : (slot_at c.args.store.now c.root-at.result).cell ≡ plain.Open =
    ap (λ (x : Slot). x.cell) (slot_is c.slots.result.now c.args.store.now c.root-at.result c.index-slots-at.result c.slots.ensures c.root-at.ensures.inside c.index-slots-at.is) ∙ ap stored.cell_view (ap (λ x. x.cell) c.index-slots-at.is ∙ c.in-Open.is) in
    let h = sized_end c.args.store.now c.requires.whole (older_of c.args.known.now) c.args.variable c.root-at.result e c.root-at.ensures.inside c.requires.first c.requires.known.listed plain.Open k in
    omega (arith, h)

pub returns-in-Constant : goal.returns-in-Constant
returns-in-Constant c =
    let e = end_is c.args.store.now c.requires.whole c.args.variable c.root-at.result c.root-at.ensures.leads c.root-at.ensures.ends in
    let k : (slot_at c.args.store.now c.root-at.result).cell ≡ plain.Constant c.in-Constant.field-0 =
    ap (λ (x : Slot). x.cell) (slot_is c.slots.result.now c.args.store.now c.root-at.result c.index-slots-at.result c.slots.ensures c.root-at.ensures.inside c.index-slots-at.is) ∙ ap stored.cell_view (ap (λ x. x.cell) c.index-slots-at.is ∙ c.in-Constant.is) in
    let h =
    sized_end c.args.store.now c.requires.whole (older_of c.args.known.now) c.args.variable c.root-at.result e c.root-at.ensures.inside c.requires.first c.requires.known.listed (plain.Constant c.in-Constant.field-0) k in
    omega (arith, h)

pub returns-in-Built : goal.returns-in-Built
returns-in-Built c =
    let e = end_is c.args.store.now c.requires.whole c.args.variable c.root-at.result c.root-at.ensures.leads c.root-at.ensures.ends in
    let k : (slot_at c.args.store.now c.root-at.result).cell ≡ plain.Built c.in-Built.field-0 c.in-Built.field-1.items =
    ap (λ (x : Slot). x.cell) (slot_is c.slots.result.now c.args.store.now c.root-at.result c.index-slots-at.result c.slots.ensures c.root-at.ensures.inside c.index-slots-at.is) ∙ ap stored.cell_view (ap (λ x. x.cell) c.index-slots-at.is ∙ c.in-Built.is) in
    let h =
    sized_end c.args.store.now c.requires.whole (older_of c.args.known.now) c.args.variable c.root-at.result e c.root-at.ensures.inside c.requires.first c.requires.known.listed
    (plain.Built c.in-Built.field-0 c.in-Built.field-1.items) k in
    c.part_base.ensures ∙ ap (λ n. min n most) (sym h)

pub returns-in-Row : goal.returns-in-Row
returns-in-Row c =
    let e = end_is c.args.store.now c.requires.whole c.args.variable c.root-at.result c.root-at.ensures.leads c.root-at.ensures.ends in
    let k : (slot_at c.args.store.now c.root-at.result).cell ≡ plain.Row (map stored.field_view c.in-Row.field-0.items) c.in-Row.field-1 =
    ap (λ (x : Slot). x.cell) (slot_is c.slots.result.now c.args.store.now c.root-at.result c.index-slots-at.result c.slots.ensures c.root-at.ensures.inside c.index-slots-at.is) ∙ ap stored.cell_view (ap (λ x. x.cell) c.index-slots-at.is ∙ c.in-Row.is) in
    let h =
    sized_end c.args.store.now c.requires.whole (older_of c.args.known.now) c.args.variable c.root-at.result e c.root-at.ensures.inside c.requires.first c.requires.known.listed
    (plain.Row (map stored.field_view c.in-Row.field-0.items) c.in-Row.field-1) k in
    c.part_base-in-Row.ensures ∙ ap (λ n. min n most) (sym h)
