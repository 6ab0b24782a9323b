use Rattle.std.proofs.Common.{◌≡◌, ◌++◌, take}
use Rattle.elm_tree.specs.Turns.{tokens_view}
use Rattle.canon_type.specs.Kept.{aliases_view, marked_faults}
use Rattle.canon_type.proofs.recursion.push_marked.Given as goal

abbrev pub invariant-loop-i : goal.invariant-loop-i
invariant-loop-i l =
    l.findings.items ≡ l.initial.findings.items
    ++ marked_faults l.marks (aliases_view (tokens_view l.tokens) (take l.i l.aliases))
