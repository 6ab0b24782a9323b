use Rattle.std.proofs.Common.{◌≡◌, drop, map}
use Rattle.std.specs.List.{list_all}
use Rattle.elm_canon.specs.View.{declaration_view}
use Rattle.core_modules.specs.Faults.{keeps}
use Rattle.core_modules.proofs.faults.all_keep.Given as goal

abbrev pub invariant-loop-declaration : goal.invariant-loop-declaration
invariant-loop-declaration l =
    list_all keeps (map declaration_view (drop l.declaration-index l.declarations))
    ≡ list_all keeps (map declaration_view l.declarations)
