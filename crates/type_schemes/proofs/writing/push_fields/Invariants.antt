use Rattle.std.proofs.Common.{◌≡◌, ◌++◌, map, reverse, vec_len}
use Rattle.type_schemes.specs.declared.writing.Task.TheVariants.{Part}
use Rattle.type_schemes.proofs.writing.push_fields.Given as goal

abbrev pub invariant-loop-field : goal.invariant-loop-field
invariant-loop-field l =
    map Part l.fields.items ++ reverse l.todo.items ≡ map Part l.initial.fields.items ++ reverse l.initial.todo.items

abbrev pub decreases-loop-field : goal.decreases-loop-field
decreases-loop-field l = vec_len l.fields
