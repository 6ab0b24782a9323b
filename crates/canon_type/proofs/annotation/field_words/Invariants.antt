use Rattle.std.proofs.Common.{◌≡◌, map, take}
use Rattle.canon_type.specs.Walking.{field_name}
use Rattle.canon_type.proofs.annotation.field_words.Given as goal

abbrev pub invariant-loop-field : goal.invariant-loop-field
invariant-loop-field l = l.words.items ≡ map field_name (take l.field-index l.fields)
