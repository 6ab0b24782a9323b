-- Where the machine begins, and what is known where it stops.
use Rattle.std.specs.Prelude.{◌≡◌, ℕ, ◌<◌, Bool, true, false, cond, nat_eq, List, [], ◌∷◌, ◌++◌, length, take}
use Rattle.parse_machine.specs.declared.table.Symbol.{Symbol}
use Rattle.parse_machine.specs.declared.table.Symbol.TheVariants.{Part}
use Rattle.parse_machine.specs.declared.table.Token.{Token}
use Rattle.parse_machine.specs.declared.table.Step.{Step}
use Rattle.parse_machine.specs.declared.table.Row.{Row}
use Rattle.parse_machine.specs.declared.machine.Frame.{Frame}
use Rattle.parse_machine.specs.Grammar.{Production, IsReading, IsRefused, IsLongest, IsCommon}

-- the symbols are one part, which has a row
pub record IsStart (rows : List Row) (ss : List Symbol) : Type 0 where
  pub start : ℕ
  pub within : start < length rows
  pub one : ss ≡ Part start ∷ []

-- the stack with the frame on it, unless nothing is left to be read in it
abbrev pub set_aside : Frame → List Frame → List Frame
set_aside f below = cond (nat_eq (length f.rest.now) 0) below (below ++ f ∷ [])

-- the longest viable prefix has a derivation exactly where nothing was left to be read
abbrev pub Ended : List Production → List Symbol → ℕ → List Token → List Step → Bool → Type 0
Ended g ss c front steps true = IsReading g ss c front steps
Ended g ss c front steps false = IsRefused g ss c front

-- the machine stopped after the longest viable prefix
pub record IsStop (g : List Production) (ss : List Symbol) (c : ℕ) (ts : List Token) (steps : List Step) (sure : ℕ)
    (at : List Token) (whole : Bool) : Type 0 where
  pub front : List Token
  pub longest : IsLongest g ss c ts front at
  pub common : IsCommon g ss c front (take sure steps)
  pub ended : Ended g ss c front steps whole
