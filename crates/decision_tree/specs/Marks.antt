-- What tells tests.
use Rattle.std.specs.Prelude.{Bool, false, ◌&&◌, ◌==◌, Option, Some, None}
use Rattle.elm_meaning.specs.Seen.{same_tag}
use Rattle.js_emit.specs.Matrix as matrix
use Rattle.decision_tree.specs.declared.test.Mark.{Mark}

-- what tells the constructor that is tested, if it is one
abbrev pub mark_of : matrix.Test → Option Mark
mark_of (matrix.Literally l) = None
mark_of (matrix.Tagged u a) = Some (record { tag = a.tag; arity = a.arity })

abbrev pub same_marks : Option Mark → Option Mark → Bool
same_marks (Some m) (Some n) = same_tag m.tag n.tag && (m.arity == n.arity)
same_marks _ _ = false
