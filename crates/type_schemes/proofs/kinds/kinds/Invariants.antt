use Rattle.std.proofs.Common.{◌≡◌, take, map}
use Rattle.elm_type.specs.View.{kind_view}
use Rattle.type_store.specs.Store.{slot_at}
use Rattle.type_schemes.proofs.kinds.kinds.Given as goal

abbrev pub invariant-loop-variable : goal.invariant-loop-variable
invariant-loop-variable l =
    map kind_view l.kinds.items ≡ map (λ v. (slot_at l.store v).kind) (take l.variable-index l.variable-items)
