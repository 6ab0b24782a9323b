use Rattle.std.proofs.Common.{◌≡◌, map}
use Rattle.std.specs.Prelude.{flat_map}
use Rattle.project_parts.specs.Outcomes.{faults_of}
use Rattle.elm_make.specs.ProjectCompileView.{value_view}
use Rattle.elm_make.proofs.faults.all_faults.Given as goal

abbrev pub invariant-loop-value : goal.invariant-loop-value
invariant-loop-value l = l.faults.items ≡ flat_map faults_of (map value_view l.yielded)
