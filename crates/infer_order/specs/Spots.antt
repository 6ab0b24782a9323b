-- Where definitions stand: the number of a group, and that of a function in it. Of another group it is 0.
use Rattle.std.specs.Prelude.{ℕ, Bool, true, false, Option, Some, None, slice_get, List}
use Rattle.elm_canon.specs.Tree.{Group, Together, Constant, Destructure}
use Rattle.type_items.specs.Definitions.{Definition}
use Rattle.type_items.specs.Expressions.{group_definitions}

abbrev pub in_group : Option Group → ℕ → Option Definition
in_group None i = None
in_group (Some g) i = slice_get (group_definitions g) i

abbrev pub at_spot : List Group → ℕ → ℕ → Option Definition
at_spot gs g i = in_group (slice_get gs g) i

-- whether the group is no pattern with its value
abbrev pub has_titles : Option Group → Bool
has_titles None = true
has_titles (Some (Together fs)) = true
has_titles (Some (Constant title e)) = true
has_titles (Some (Destructure q e)) = false
