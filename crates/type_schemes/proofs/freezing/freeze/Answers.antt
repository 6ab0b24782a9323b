use Rattle.std.proofs.Common.{◌≡◌, ◌+◌, ◌∙◌, sym, subst, map, reverse}
use Rattle.type_schemes.specs.Order.{number_in, PartsFirst, IsReady}
use Rattle.type_schemes.specs.Cells.{older_in, cell_in}
use Rattle.type_schemes.specs.Freezing.{IsFrozen}
use Rattle.type_schemes.specs.View.{cell_view, part_view}
use Rattle.type_schemes.proofs.Listing.{cells_of, cells_all}
use Rattle.type_schemes.proofs.TypeFreezingInOrder.{is_frozen}
use Rattle.type_schemes.proofs.Reading.{each_names}
use Rattle.type_schemes.proofs.freezing.freeze.Goals as goal

pub cells-requires-clause-names : goal.cells-requires-clause-names
cells-requires-clause-names c =
    each_names c.args.depth c.args.store.now c.requires.whole c.in_ok-order.order.variables.items
    (subst (λ n. PartsFirst (n + 1) c.args.store.now (reverse c.in_ok-order.order.variables.items)) c.from.ensures c.in_ok-order.ensures.first)

pub returns : goal.returns
returns c =
    let older = older_in c.in_ok-order.order in
    let N = number_in older in
    let first : PartsFirst (c.args.depth + 1) c.args.store.now older =
    subst (λ n. PartsFirst (n + 1) c.args.store.now older) c.from.ensures c.in_ok-order.ensures.first in
    let ready : IsReady (c.args.depth + 1) c.args.store.now older c.args.variable =
    subst (λ n. IsReady (n + 1) c.args.store.now older c.args.variable) c.from.ensures c.in_ok-order.ensures.start in
    let e : map cell_view c.in_ok-cells.cells.items ≡ cells_of (cell_in c.args.depth c.args.store.now N) older =
    c.in_ok-cells.ensures ∙ cells_all (cell_in c.args.depth c.args.store.now N) c.in_ok-order.order.variables.items in
    let all = is_frozen c.args.depth c.args.store.now c.requires.whole c.requires.constants older first c.args.variable c.requires.inside ready in
    subst (λ cs. IsFrozen c.args.depth c.args.store.now c.args.variable (record { cells = cs; root = part_view c.part-root.result })) (sym e)
    (subst (λ r. IsFrozen c.args.depth c.args.store.now c.args.variable (record { cells = cells_of (cell_in c.args.depth c.args.store.now N) older; root = r })) (sym c.part-root.ensures) all)
