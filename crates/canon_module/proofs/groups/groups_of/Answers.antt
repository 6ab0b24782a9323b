-- Each declaration stands in one group, so what is taken out is what stood there: `each_taken`.
use Rattle.std.proofs.Common.{◌++◌, map, length, sym, ap, ◌∙◌, arith}
use Rattle.std.specs.List.{flat_map}
use Rattle.std.proofs.Math.ListN.{drop_of_length-le}
use Rattle.std.proofs.lemmas.List.{append-nil}
use Rattle.decl_groups.specs.View.{members_of}
use Rattle.elm_canon.specs.View.{declaration_view}
use Rattle.canon_expr.specs.Kept.{taken_each}
use Rattle.canon_expr.proofs.Taking.{each_taken, flat_of_map}
use Rattle.canon_module.specs.Items.{grouped, items_at}
use Rattle.canon_module.specs.CanonValuesKept.{item_view, nothing}
use Rattle.canon_module.proofs.groups.groups_of.Goals as goal

pub returns : goal.returns
returns c = λ uses o.
    let items = map item_view c.args.items.items in
    let now = map item_view c.loop-group.items.items in
    let groups = map declaration_view c.loop-group.declarations.items in
    let order = c.args.order.now.groups.items in
    let none = drop_of_length-le order {i = c.loop-group.group-index} (omega (arith, c.deref-group-items.ensures.len, ap length c.deref-group-items.ensures.value)) in
    sym (append-nil groups)
    ∙ ap (λ gs. groups ++ flat_map grouped (taken_each nothing now (members_of gs))) (sym none)
    ∙ c.loop-group.invariant
    ∙ ap (flat_map grouped) (each_taken nothing items (members_of order) o.once)
    ∙ flat_of_map nothing grouped items (members_of order)
    ∙ ap (flat_map (λ places. grouped (items_at items places))) o.members
