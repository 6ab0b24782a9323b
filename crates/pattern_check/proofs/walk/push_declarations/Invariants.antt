use Rattle.std.proofs.Common.{◌≡◌, ◌++◌, map, take}
use Rattle.elm_canon.specs.View.{declaration_view}
use Rattle.pattern_check.specs.Sites.{declarations_sites}
use Rattle.pattern_check.specs.Faults.{faults}
use Rattle.pattern_check.proofs.walk.push_declarations.Given as goal

abbrev pub invariant-loop-declaration : goal.invariant-loop-declaration
invariant-loop-declaration l =
    l.findings.items
    ≡ l.initial.findings.items ++ faults (declarations_sites (map declaration_view (take l.declaration-index l.declarations)))
