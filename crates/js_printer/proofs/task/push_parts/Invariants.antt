use Rattle.std.proofs.Common.{◌≡◌, ◌++◌, map}
use Rattle.js_printer.proofs.task.push_parts.Given as goal

abbrev pub invariant-loop-part : goal.invariant-loop-part
invariant-loop-part l = l.tasks.items ≡ l.initial.tasks.items ++ map (λ y. y.now) l.yielded
