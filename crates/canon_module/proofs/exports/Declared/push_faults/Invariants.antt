use Rattle.std.proofs.Common.{◌≡◌, ◌++◌, List, map, take}
use Rattle.std.specs.List.{flat_map}
use Rattle.elm_tree.specs.View.{exposed_view}
use Rattle.elm_tree.specs.Turns.{tokens_view}
use Rattle.elm_canon.specs.Names.{Name}
use Rattle.canon_module.specs.Names.{Names}
use Rattle.canon_module.specs.Faults.{export_fault}
use Rattle.canon_module.specs.View.{IsDeclaredOf}
use Rattle.canon_module.proofs.exports.Declared.push_faults.Given as goal

abbrev pub invariant-loop-entry : goal.invariant-loop-entry
invariant-loop-entry l =
    (given : List Name) → (n : Names) → IsDeclaredOf l.self given n →
    l.findings.items
    ≡ l.initial.findings.items
    ++ flat_map (export_fault given n) (map (exposed_view (tokens_view l.tokens)) (take l.entry-index l.entries))
