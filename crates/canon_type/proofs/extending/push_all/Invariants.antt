use Rattle.std.proofs.Common.{◌≡◌, ◌++◌, take}
use Rattle.canon_type.specs.Extending.{names_of}
use Rattle.canon_type.proofs.extending.push_all.Given as goal

abbrev pub invariant-loop-field : goal.invariant-loop-field
invariant-loop-field l = l.bad.items ≡ l.initial.bad.items ++ names_of (take l.field-index l.fields)
