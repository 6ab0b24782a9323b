-- The results of a call on a file or a sink, and the count of its failures.
use Rattle.std.specs.Prelude.{◌+◌, ◌<◌, nat_lt, if◌then◌else◌, ◌↔◌, ⊤, ℕ, List, Result, Ok, Err}
use Rattle.elm_files.specs.declared.outside.FileError.{FileError}
use Rattle.elm_files.specs.declared.outside.FileError.TheVariants.{Failed, NoMemory}

module _ {T : Type 0} where
  -- the call failed
  abbrev pub IsFailed : Result T FileError → Type 0
  IsFailed (Ok _) = ⊥
  IsFailed (Err Failed) = ⊤
  IsFailed (Err NoMemory) = ⊥

  -- P holds if the call failed
  abbrev pub OnFailed : Result T FileError → Type 0 → Type 0
  OnFailed (Ok _) P = ⊤
  OnFailed (Err Failed) P = P
  OnFailed (Err NoMemory) P = ⊤

  -- P holds if memory ran out
  abbrev pub OnNoMemory : Result T FileError → Type 0 → Type 0
  OnNoMemory (Ok _) P = ⊤
  OnNoMemory (Err Failed) P = ⊤
  OnNoMemory (Err NoMemory) P = P

  -- P holds unless the call failed
  abbrev pub UnlessFailed : Result T FileError → Type 0 → Type 0
  UnlessFailed (Ok _) P = P
  UnlessFailed (Err Failed) P = ⊤
  UnlessFailed (Err NoMemory) P = P

  -- the call failed exactly when the count of failures rose; nothing is said of a count that is full
  abbrev pub FailedIffRose : Result T FileError → ℕ → ℕ → Type 0
  FailedIffRose result before after =
      before < 18446744073709551615 → (IsFailed result ↔ (before < after))

-- the count of some path rose
abbrev pub SomeRose : (List ℕ → ℕ) → (List ℕ → ℕ) → Type 0
SomeRose before after = (path : List ℕ) × (before path < after path)

-- no path's count is full
abbrev pub NoneFull : (List ℕ → ℕ) → Type 0
NoneFull faults = (path : List ℕ) → faults path < 18446744073709551615

-- a count of 64 bits that is one higher, unless it is full
abbrev pub raised : ℕ → ℕ
raised n = if nat_lt n 18446744073709551615 then n + 1 else n

-- the count of failures after a call
abbrev pub faults_after : {T : Type 0} → Result T FileError → ℕ → ℕ
faults_after (Ok _) faults = faults
faults_after (Err Failed) faults = raised faults
faults_after (Err NoMemory) faults = faults
