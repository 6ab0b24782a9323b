-- The members of objects that cross between a program and its host: they stand in the order of their names.
use Rattle.std.specs.Prelude.{ℕ, List, if◌then◌else◌}
use Rattle.wire_value.specs.Wire as wire
use Rattle.wire_value.specs.Wire.{Wire, no_member, more_members}
use Rattle.runs.specs.Texts.{units_lt}

-- one more member, among the others by its name
abbrev pub put_wire : List ℕ → Wire → wire.Members → wire.Members
put_wire k w no_member = more_members k w no_member
put_wire k w (more_members i x ms) =
    if units_lt i k then more_members i x (put_wire k w ms) else more_members k w (more_members i x ms)
