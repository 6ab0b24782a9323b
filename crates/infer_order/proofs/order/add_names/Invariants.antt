use Rattle.std.proofs.Common.{◌≡◌, take}
use Rattle.elm_canon.specs.declared.reference.Ref.{Ref}
use Rattle.infer_order.specs.Owners.{numbers_of, put_all}
use Rattle.infer_order.proofs.order.add_names.Given as goal

abbrev pub invariant-loop-name : goal.invariant-loop-name
invariant-loop-name l =
    (y : Ref) → numbers_of l.owners y ≡ put_all (take l.name-index l.names) l.number (numbers_of l.initial.owners) y
