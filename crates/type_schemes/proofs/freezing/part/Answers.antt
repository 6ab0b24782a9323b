use Rattle.std.proofs.Common.{◌∙◌, ap, sym, arith}
use Rattle.std.specs.Option.{option_copied}
use Rattle.type_store.specs.Store.{Slot}
use Rattle.type_schemes.specs.Order.{number_in}
use Rattle.type_schemes.proofs.Entering.{slot_is}
use Rattle.type_schemes.specs.Cells.{older_in}
use Rattle.type_schemes.proofs.Parting.{low_part, high_part, high_listed}
use Rattle.type_schemes.proofs.freezing.part.Goals as goal

pub returns-then-slots-at : goal.returns-then-slots-at
returns-then-slots-at c =
    let e = slot_is c.slots.result.now c.args.store.now c.root-at.result c.index-slots-at.result c.slots.ensures c.root-at.ensures.inside c.index-slots-at.is in
    let d = ap (λ (x : Slot). x.depth) e in
    let i = ap (λ x. x.depth) c.index-slots-at.is in
    low_part c.args.depth c.args.store.now c.requires.whole c.args.variable c.root-at.result c.root-at.ensures.leads c.root-at.ensures.ends (number_in (older_in c.args.order.now))
    (omega (arith, d, i, c.if-slots-at.true))

pub unreachable-requires : goal.unreachable-requires
unreachable-requires c =
    let e = slot_is c.slots.result.now c.args.store.now c.root-at.result c.index-slots-at.result c.slots.ensures c.root-at.ensures.inside c.index-slots-at.is in
    let d = ap (λ (x : Slot). x.depth) e in
    let i = ap (λ x. x.depth) c.index-slots-at.is in
    high_listed c.args.depth c.args.store.now c.requires.whole c.args.variable c.root-at.result c.root-at.ensures.leads c.root-at.ensures.ends (older_in c.args.order.now) c.requires.name.ready
    (omega (arith, d, i, c.if-slots-at.false)) (sym (c.requires.table.each c.root-at.result) ∙ (sym c.get.ensures.value ∙ ap option_copied c.in-None.is))

pub returns : goal.returns
returns c =
    let e = slot_is c.slots.result.now c.args.store.now c.root-at.result c.index-slots-at.result c.slots.ensures c.root-at.ensures.inside c.index-slots-at.is in
    let d = ap (λ (x : Slot). x.depth) e in
    let i = ap (λ x. x.depth) c.index-slots-at.is in
    high_part c.args.depth c.args.store.now c.requires.whole c.args.variable c.root-at.result c.root-at.ensures.leads c.root-at.ensures.ends (number_in (older_in c.args.order.now)) c.in-Some.number.now
    (omega (arith, d, i, c.if-slots-at.false)) (sym (c.requires.table.each c.root-at.result) ∙ (sym c.get.ensures.value ∙ ap option_copied c.in-Some.is))
