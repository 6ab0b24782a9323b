-- The outcome of a build of the code, as plain data.
use Rattle.elm_make.specs.declared.project.Outcome as program
use Rattle.elm_make.specs.declared.project.Outcome.TheVariants as variant
use Rattle.project_parts.specs.Outcomes.{Outcome, Stopped, Faulty, Text}

abbrev pub outcome_view : program.Outcome → Outcome
outcome_view (variant.Stopped faults) = Stopped faults.items
outcome_view (variant.Faulty faults) = Faulty faults.items
outcome_view (variant.Text text) = Text text.items
