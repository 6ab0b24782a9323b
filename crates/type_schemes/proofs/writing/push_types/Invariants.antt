use Rattle.std.proofs.Common.{◌≡◌, ◌-◌, ◌++◌, drop, length, map, reverse}
use Rattle.type_schemes.specs.declared.writing.Task.TheVariants.{Whole}
use Rattle.type_schemes.proofs.writing.push_types.Given as goal

abbrev pub invariant-loop-place : goal.invariant-loop-place
invariant-loop-place l =
    reverse l.todo.items ≡ map Whole (drop (length l.variables - l.place) l.variables) ++ reverse l.initial.todo.items
