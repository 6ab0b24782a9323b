use Rattle.std.proofs.Common.{◌≡◌, ◌++◌, map, take}
use Rattle.elm_canon.specs.View.{pattern_view}
use Rattle.decision_tree.specs.Views.{parts_view}
use Rattle.decision_tree.proofs.row.add_each.Given as goal

abbrev pub invariant-loop-number : goal.invariant-loop-number
invariant-loop-number l =
    parts_view l.out.items ≡ parts_view l.fn.out.items ++ map pattern_view (take l.number l.patterns.items)
