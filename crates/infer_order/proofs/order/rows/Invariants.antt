use Rattle.std.proofs.Common.{◌≡◌, map, take, List}
use Rattle.elm_canon.specs.View.{group_view}
use Rattle.decl_groups.specs.Groups.{plain}
use Rattle.type_items.specs.Definitions.{Definition}
use Rattle.infer_order.specs.Order.{AreDefinitions}
use Rattle.infer_order.specs.Owners.{all_numbers}
use Rattle.infer_order.proofs.order.rows.Given as goal

abbrev pub invariant-loop-definition : goal.invariant-loop-definition
invariant-loop-definition l =
    (ds : List Definition)
    → AreDefinitions (map (λ g. group_view g.now) l.groups) (take l.definition-index l.definitions) ds
    → plain l.rows.items ≡ map (λ d. all_numbers l.owners d.uses) ds
