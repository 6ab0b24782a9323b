use Rattle.std.proofs.Common.{◌≡◌, ◌++◌, drop, map}
use Rattle.std.specs.Prelude.{flat_map}
use Rattle.elm_canon.specs.View.{declaration_view}
use Rattle.core_modules.specs.Facts.{declared_faults}
use Rattle.core_modules.proofs.functions.push_all_declared.Given as goal

abbrev pub invariant-loop-declaration : goal.invariant-loop-declaration
invariant-loop-declaration l =
    l.findings.items ++ flat_map declared_faults (map declaration_view (drop l.declaration-index l.declarations))
    ≡ l.initial.findings.items ++ flat_map declared_faults (map declaration_view l.declarations)
