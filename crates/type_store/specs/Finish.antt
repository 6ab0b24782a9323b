-- What is left when all asks are done.
use Rattle.std.specs.Prelude.{ℕ, ◌<◌, length}
use Rattle.std.specs.List.{All}
use Rattle.type_store.specs.Store.{Store, slot_at}
use Rattle.type_store.specs.Shape.{IsCell, Once, Spread}
use Rattle.type_store.specs.Cycles.{parts_at}

-- each slot is as it has to be, but for depths and rings
pub record IsSettled (s : Store) : Type 0 where
  pub inside : (v : ℕ) → v < length s → All (λ w. w < length s) (parts_at s v)
  pub cells : (v : ℕ) → v < length s → IsCell v (slot_at s v).cell
  pub spread : (v : ℕ) → v < length s → Spread s (slot_at s v).kind (slot_at s v).cell
  pub once : Once s
