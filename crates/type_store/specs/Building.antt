-- A cell for a variable that is made.
use Rattle.std.specs.Prelude.{◌≡◌}
use Rattle.std.specs.List.{Contains}
use Rattle.elm_type.specs.Types.{Rigid}
use Rattle.type_store.specs.Store.{Cell, Constant, Store}
use Rattle.type_store.specs.Solutions.{constants_of}

-- if it is a constant, no variable has it yet
abbrev pub IsFresh : Store → Cell → Type 0
IsFresh s c = (r : Rigid) → c ≡ Constant r → Contains (constants_of s) r → ⊥
