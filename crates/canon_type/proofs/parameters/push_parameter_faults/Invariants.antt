use Rattle.std.proofs.Common.{◌≡◌, ◌++◌, map, take}
use Rattle.std.specs.Prelude.{flat_map}
use Rattle.elm_tree.specs.View.{declaration_view}
use Rattle.elm_tree.specs.Turns.{tokens_view}
use Rattle.canon_type.specs.Parameters.{parameter_faults}
use Rattle.canon_type.proofs.parameters.push_parameter_faults.Given as goal

abbrev pub invariant-loop-declaration : goal.invariant-loop-declaration
invariant-loop-declaration l =
    l.findings.items ≡ l.initial.findings.items
    ++ flat_map parameter_faults (map (declaration_view (tokens_view l.tokens)) (take l.declaration-index l.declarations))
