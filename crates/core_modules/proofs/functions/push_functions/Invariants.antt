use Rattle.std.proofs.Common.{◌≡◌, ◌++◌, drop, map}
use Rattle.std.specs.Prelude.{flat_map}
use Rattle.elm_canon.specs.View.{title_view}
use Rattle.core_modules.specs.Facts.{title_faults}
use Rattle.core_modules.proofs.functions.push_functions.Given as goal

abbrev pub invariant-loop-function : goal.invariant-loop-function
invariant-loop-function l =
    l.findings.items ++ flat_map title_faults (map (λ f. title_view f.title) (drop l.function-index l.functions))
    ≡ l.initial.findings.items ++ flat_map title_faults (map (λ f. title_view f.title) l.functions)
