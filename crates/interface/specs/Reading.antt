-- What calls that read give, unless memory ran out.
use Rattle.std.specs.Prelude.{◌≡◌, ℕ, List, Option, Some, None, Result, Ok, Err}
use Rattle.elm_canon.specs.Tree.{Annotation}
use Rattle.interface.specs.Formats.{◌>>=◌}
use Rattle.interface.specs.Steps.{built}
use Rattle.interface.specs.Text.{steps_format}
use Rattle.interface.specs.declared.error.ReadError.{ReadError}
use Rattle.interface.specs.declared.error.ReadError.TheVariants.{NoMemory, Refused}

abbrev pub Fails : {Y : Type 0} → ReadError → Option Y → Type 0
Fails NoMemory found = Unit {0}
Fails Refused found = found ≡ None

abbrev pub Gives : {X Y : Type 0} → (X → Y) → Result X ReadError → Option Y → Type 0
Gives view (Ok x) found = found ≡ Some (view x)
Gives view (Err e) found = Fails e found

-- the types of the steps that bytes begin with, and the rest of them
unfoldable pub types_read : List ℕ → Option (List Annotation × List ℕ)
types_read bs = steps_format.get bs >>= λ ss. built ss.0 >>= λ ts. Some (ts, ss.1)
