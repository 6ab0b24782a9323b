use Rattle.std.proofs.Common.{◌≡◌, ◌++◌, replicate}
use Rattle.elm_canon.specs.Tree.{Anything}
use Rattle.decision_tree.specs.Views.{parts_view}
use Rattle.decision_tree.proofs.row.add_open.Given as goal

abbrev pub invariant-loop : goal.invariant-loop
invariant-loop l = parts_view l.out.items ≡ parts_view l.fn.out.items ++ replicate l.counter Anything
