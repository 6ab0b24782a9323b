use Rattle.std.proofs.Common.{◌≡◌}
use Rattle.elm_files.specs.Memory.{plan_of}
use Rattle.case_scripts.proofs.case.fill.Given as goal

abbrev pub invariant-loop-file : goal.invariant-loop-file
invariant-loop-file l = plan_of l.files ≡ plan_of l.initial.files
