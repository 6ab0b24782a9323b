use Rattle.std.proofs.Common.{◌≡◌, replicate}
use Rattle.infer_steps.proofs.parts.repeated.Given as goal

abbrev pub invariant-loop-i : goal.invariant-loop-i
invariant-loop-i l = l.items.items ≡ replicate l._i l.item
