use Rattle.elm_make.proofs.Taken.{Taking}
use Rattle.elm_make.proofs.linking.linked_parts.Given as goal

-- the modules so far, and the others
abbrev pub invariant-loop-number : goal.invariant-loop-number
invariant-loop-number l = Taking l.parts l.values l.linked.items l.number
