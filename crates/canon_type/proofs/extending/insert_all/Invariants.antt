use Rattle.std.proofs.Common.{◌≡◌, false, take}
use Rattle.indexmap.specs.IndexSet.{contains}
use Rattle.elm_canon.specs.Names.{Name, same_name}
use Rattle.canon_env.specs.Exposing.{is_among}
use Rattle.canon_type.specs.Extending.{names_of}
use Rattle.canon_type.proofs.extending.insert_all.Given as goal

abbrev pub invariant-loop-field : goal.invariant-loop-field
invariant-loop-field l =
    ((x : Name) → contains same_name l.initial.names x ≡ false) →
    (x : Name) → contains same_name l.names x ≡ is_among x (names_of (take l.field-index l.fields))
