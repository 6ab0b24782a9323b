-- What the error in place of an order tells.
use Rattle.std.specs.Prelude.{ℕ, List, ⊤}
use Rattle.import_graph.specs.declared.ordering.OrderError.{OrderError}
use Rattle.import_graph.specs.declared.ordering.OrderError.TheVariants.{NoMemory, Ring}

-- the error is out of memory, or a ring of which this holds
abbrev pub IfRing : OrderError → (List ℕ → Type 0) → Type 0
IfRing NoMemory Holds = ⊤
IfRing (Ring ring) Holds = Holds ring.items
