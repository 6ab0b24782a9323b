-- Patterns of a type that leave nothing out: some one of them matches each value of the type. So each single step of
-- evaluation keeps types.
use Rattle.std.specs.Prelude.{◌≡◌, List, Some, None}
use Rattle.std.specs.List.{AllByRecursion, Contains}
use Rattle.runs.specs.Ends.{Val}
use Rattle.elm_canon.specs.Tree.{Pattern}
use Rattle.elm_meaning.specs.Values.{Value, Env}
use Rattle.elm_meaning.specs.Match.{matches}
use Rattle.elm_type.specs.Classes.{Ground}
use Rattle.pattern_check.specs.Missing.{missing}
use Rattle.typed_values.specs.World.{World, IsSound}
use Rattle.typed_values.specs.Typed.{Has}
use Rattle.typed_values.specs.Exhaustive.{IsPatternOf}
use Rattle.typed_values.specs.Steps.{StepsKeepTypes}

-- where nothing is reported missing, some pattern matches
abbrev pub SomePatternMatches : Type 0
SomePatternMatches =
    (w : World) → IsSound w → (ps : List Pattern) (v : Value) (g : Ground) (env : Env)
    → AllByRecursion (IsPatternOf w g) ps → missing ps ≡ None → Has w v g
    → (p : Pattern) × Contains ps p × ((inner : Env) × (matches p v env ≡ Val (Some inner)))

abbrev pub StepsAreSound : Type 0
StepsAreSound = (w : World) → IsSound w → StepsKeepTypes w
