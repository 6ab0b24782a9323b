use Rattle.import_graph.proofs.ByName.{Kept}
use Rattle.import_graph.proofs.numbers.by_name.Given as goal

-- the modules that went in, and those that are left
abbrev pub invariant-loop-one : goal.invariant-loop-one
invariant-loop-one l = Kept l.named.entries l.one-iterator.rest.items l.initial.one-iterator.rest.items
