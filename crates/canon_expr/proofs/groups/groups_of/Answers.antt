-- Each definition stands in one group, so what is taken out is what stood there: `each_taken`.
use Rattle.std.proofs.Common.{◌++◌, map, length, sym, ap, ◌∙◌, arith}
use Rattle.std.specs.List.{flat_map}
use Rattle.std.proofs.Math.ListN.{drop_of_length-le}
use Rattle.std.proofs.lemmas.List.{append-nil}
use Rattle.decl_groups.specs.View.{members_of}
use Rattle.elm_canon.specs.Tree.{groups_of}
use Rattle.elm_canon.specs.View.{group_view}
use Rattle.canon_expr.specs.Blocks.{NoMade, group_of, made_at}
use Rattle.canon_expr.specs.Kept.{made_view, taken_each}
use Rattle.canon_expr.proofs.Taking.{each_taken, flat_of_map}
use Rattle.canon_expr.proofs.groups.groups_of.Goals as goal

pub returns : goal.returns
returns c = λ uses o.
    let made = map made_view c.args.made.items in
    let now = map made_view c.loop-group.made.items in
    let groups = map group_view c.loop-group.groups.items in
    let order = c.args.order.now.groups.items in
    let none = drop_of_length-le order {i = c.loop-group.group-index} (omega (arith, c.deref-group-items.ensures.len, ap length c.deref-group-items.ensures.value)) in
    ap groups_of
    (sym (append-nil groups)
    ∙ ap (λ gs. groups ++ flat_map group_of (taken_each NoMade now (members_of gs))) (sym none)
    ∙ c.loop-group.invariant
    ∙ ap (flat_map group_of) (each_taken NoMade made (members_of order) o.once)
    ∙ flat_of_map NoMade group_of made (members_of order)
    ∙ ap (flat_map (λ places. group_of (made_at made places))) o.members)
