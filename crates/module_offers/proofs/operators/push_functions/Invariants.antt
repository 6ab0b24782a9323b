use Rattle.std.proofs.Common.{◌≡◌, ◌++◌, drop, map, option_map}
use Rattle.std.specs.Prelude.{flat_map}
use Rattle.elm_canon.specs.View.{module_view}
use Rattle.interface.specs.View.{interface_view}
use Rattle.module_offers.specs.Faults.{function_faults}
use Rattle.module_offers.proofs.operators.push_functions.Given as goal

abbrev pub invariant-loop-function : goal.invariant-loop-function
invariant-loop-function l =
    l.findings.items
    ++ flat_map (function_faults l.home (option_map (λ i. interface_view i.now) l.interface) (module_view l.module))
    (map (λ f. f.now) (drop l.function-index l.functions))
    ≡ l.initial.findings.items
    ++ flat_map (function_faults l.home (option_map (λ i. interface_view i.now) l.interface) (module_view l.module))
    (map (λ f. f.now) l.functions)
