use Rattle.std.proofs.Common.{◌≡◌, take, map}
use Rattle.type_schemes.specs.Order.{number_in}
use Rattle.type_store.specs.View as stored
use Rattle.type_schemes.specs.Cells.{older_in, field_in}
use Rattle.type_schemes.specs.View.{field_view}
use Rattle.type_schemes.proofs.freezing.fields.Given as goal

abbrev pub invariant-loop-slot : goal.invariant-loop-slot
invariant-loop-slot l =
    map field_view l.fields.items ≡ map (λ f. field_in l.depth l.store (number_in (older_in l.order)) (stored.field_view f)) (take l.slot-index l.slots)
