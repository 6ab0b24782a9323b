use Rattle.std.proofs.Common.{◌≡◌, map, take, List}
use Rattle.elm_canon.specs.View.{group_view}
use Rattle.elm_canon.specs.declared.reference.Ref.{Ref}
use Rattle.type_items.specs.Definitions.{Definition}
use Rattle.infer_order.specs.Order.{AreDefinitions}
use Rattle.infer_order.specs.Owners.{numbers_of, put_from, nothing}
use Rattle.infer_order.proofs.order.owners_of.Given as goal

abbrev pub invariant-loop-number : goal.invariant-loop-number
invariant-loop-number l =
    (ds : List Definition) → AreDefinitions (map (λ g. group_view g.now) l.groups) l.definitions ds → (y : Ref)
    → numbers_of l.owners y ≡ put_from 0 (take l.number ds) nothing y
