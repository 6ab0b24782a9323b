use Rattle.std.proofs.Common.{◌≡◌, ◌<◌, [], length, map, sym, ap, subst, arith}
use Rattle.std.specs.Prelude.{All}
use Rattle.std.specs.List.{AllByRecursion}
use Rattle.decl_groups.specs.Groups.{plain, IsOrder}
use Rattle.decl_groups.specs.InOrder.{ordered_groups}
use Rattle.decl_groups.proofs.Within.{members_within}
use Rattle.elm_canon.specs.View.{group_view}
use Rattle.type_items.specs.Definitions.{all_uses}
use Rattle.infer_order.specs.Order.{ordered, IsDefinition}
use Rattle.infer_order.proofs.Zips.{zip_length}
use Rattle.infer_order.specs.Owners.{all_numbers, numbers_of}
use Rattle.infer_order.proofs.Rows.{row_below, rows_inside, groups_are}
use Rattle.infer_order.proofs.Listing.{rows_count, if_ok_so, inside_of}
use Rattle.infer_order.proofs.order.type_groups.Goals as goal

pub groups-requires-clause-count : goal.groups-requires-clause-count
groups-requires-clause-count c =
    let gs = map (λ g. group_view g.now) c.args.groups.now in
    let o = c.in_ok-owners.owners in
    let n = rows_count gs c.args.definitions.now (ordered gs) (λ d. all_numbers o d.uses) c.in_ok-rows.rows.items
    c.requires.ordered
    (c.in_ok-rows.ensures (ordered gs) c.requires.ordered) in
    omega (arith, n, c.requires.few, ap length c.deref.ensures.value)

pub groups-requires-clause-places : goal.groups-requires-clause-places
groups-requires-clause-places c =
    let gs = map (λ g. group_view g.now) c.args.groups.now in
    let ds = ordered gs in
    let o = c.in_ok-owners.owners in
    let rows = c.in_ok-rows.rows.items in
    let told = c.in_ok-rows.ensures ds c.requires.ordered in
    let n = rows_count gs c.args.definitions.now ds (λ d. all_numbers o d.uses) rows c.requires.ordered told in
    let m = zip_length (IsDefinition gs) c.args.definitions.now ds c.requires.ordered in
    subst (λ xs. All (λ row. All (λ j. j < length xs) row.items) xs) (sym c.deref.ensures.value)
    (rows_inside (λ d. all_numbers o d.uses) (length rows)
    (λ d j e. let l = row_below (numbers_of o) ds (c.in_ok-owners.ensures ds c.requires.ordered) d j e in omega
    (arith, l, n, m)) rows ds told)

pub returns-clause-groups : goal.returns-clause-groups
returns-clause-groups c =
    let gs = map (λ g. group_view g.now) c.args.groups.now in
    let ds = ordered gs in
    let o = c.in_ok-owners.owners in
    let rows = c.in_ok-rows.rows.items in
    if_ok_so c.groups.result (λ found. IsOrder (plain c.deref.result.now) [] (plain found.items))
    (λ found. plain found.items ≡ ordered_groups (all_uses ds))
    (λ found order.
    groups_are (numbers_of o) ds (c.in_ok-owners.ensures ds c.requires.ordered) (plain rows) (plain found.items)
    (c.in_ok-rows.ensures ds c.requires.ordered)
    (c.computed_law.ensures.order (all_uses ds))
    (subst (λ xs. IsOrder (plain xs) [] (plain found.items)) c.deref.ensures.value order))
    c.groups.ensures

pub returns-clause-inside : goal.returns-clause-inside
returns-clause-inside c =
    let gs = map (λ g. group_view g.now) c.args.groups.now in
    let ds = ordered gs in
    let o = c.in_ok-owners.owners in
    let rows = c.in_ok-rows.rows.items in
    let told = c.in_ok-rows.ensures ds c.requires.ordered in
    let n = rows_count gs c.args.definitions.now ds (λ d. all_numbers o d.uses) rows c.requires.ordered told in
    if_ok_so c.groups.result (λ found. IsOrder (plain c.deref.result.now) [] (plain found.items))
    (λ found. AllByRecursion (All (λ i. i < length c.args.definitions.now)) (plain found.items))
    (λ found order.
    inside_of (length c.args.definitions.now) found.items
    (subst (λ m. All (λ g. All (λ i. i < m) g.items) found.items) n
    (members_within rows found.items (subst (λ xs. IsOrder (plain xs) [] (plain found.items)) c.deref.ensures.value
    order))))
    c.groups.ensures
