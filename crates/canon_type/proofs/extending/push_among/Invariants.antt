use Rattle.std.proofs.Common.{◌≡◌, ◌++◌, take}
use Rattle.std.specs.Prelude.{filter}
use Rattle.indexmap.specs.IndexSet.{contains}
use Rattle.elm_canon.specs.Names.{same_name}
use Rattle.canon_type.specs.Extending.{names_of}
use Rattle.canon_type.proofs.extending.push_among.Given as goal

abbrev pub invariant-loop-field : goal.invariant-loop-field
invariant-loop-field l =
    l.bad.items
    ≡ l.initial.bad.items ++ filter (contains same_name l.names) (names_of (take l.field-index l.fields))
