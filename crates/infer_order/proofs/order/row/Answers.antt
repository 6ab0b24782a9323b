use Rattle.std.proofs.Common.{◌++◌, ap, ◌∙◌}
use Rattle.infer_order.specs.Owners.{all_numbers}
use Rattle.infer_order.proofs.Standing.{group_there, no_group}
use Rattle.infer_order.proofs.order.row.Goals as goal

pub returns-in_ok-push_uses-in-Some : goal.returns-in_ok-push_uses-in-Some
returns-in_ok-push_uses-in-Some c d is =
    let x = c.args.definition.now in
    c.in_ok-push_uses-in-Some.ensures d
    (group_there c.args.groups.now x.group x.function d is.at c.in-Some.group.now c.in-Some.ensures.lookup.0
    c.in-Some.ensures.lookup.1)
    ∙ ap (λ l. l ++ all_numbers c.args.owners.now d.uses) c.new-found.ensures.items

pub returns-in-None : goal.returns-in-None
returns-in-None c d is =
    let x = c.args.definition.now in
    absurd (no_group c.args.groups.now x.group x.function d is.at c.in-None.ensures.lookup.0)
