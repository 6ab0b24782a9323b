-- More fuel changes nothing but where a run is cut off.
use Rattle.std.specs.Prelude.{◌≡◌, ◌≢◌, ℕ, ◌≤◌, List}
use Rattle.wire_value.specs.Wire.{Wire}
use Rattle.runs.specs.Ends.{OutOfFuel}
use Rattle.runs.specs.Trace.{Covers}
use Rattle.elm_canon.specs.Names.{Name}
use Rattle.elm_canon.specs.Tree.{Expr}
use Rattle.elm_meaning.specs.Values.{Env}
use Rattle.elm_meaning.specs.Eval.{Eval}
use Rattle.elm_meaning.specs.Run.{Program, SourceRun}

-- an end that is not for want of fuel stays the same
abbrev pub EndsStay : Type 0
EndsStay = (env : Env) (e : Expr) (n m : ℕ) → n ≤ m → Eval env e n ≢ OutOfFuel → Eval env e m ≡ Eval env e n

-- a run stays the same, or goes on where it was cut off
abbrev pub RunsGoOn : Type 0
RunsGoOn =
    (p : Program) (flags : Wire) (inputs : List (Name × Wire)) (n m : ℕ) → n ≤ m
    → Covers (SourceRun p flags inputs n) (SourceRun p flags inputs m)
