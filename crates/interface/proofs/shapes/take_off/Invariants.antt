use Rattle.std.proofs.Common.{◌≡◌, ◌-◌, reverse}
use Rattle.interface.specs.Shapes.{left_after}
use Rattle.interface.proofs.shapes.take_off.Given as goal

abbrev pub invariant-loop : goal.invariant-loop
invariant-loop l = left_after l.named (l.count - l.counter) (reverse l.stack.items) ≡ left_after l.named l.count (reverse l.fn.stack.items)
