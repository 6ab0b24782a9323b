-- What a wire value of the program is, as plain data.
use Rattle.std.specs.Prelude.{ℕ, List, [], ◌∷◌}
use Rattle.wire_value.specs.Wire.{Wire, null, bool, int, text, list, object, Wires, no_wire, more_wires, Members}
use Rattle.wire_value.specs.Wire.{no_member, more_members}
use Rattle.wire_value.specs.declared.wire.Wire as program
use Rattle.wire_value.specs.declared.wire.Wire.TheOpen.{Wire-F, Member-F}
use Rattle.wire_value.specs.declared.wire.Member as member

abbrev pub wires_of : List Wire → Wires
wires_of [] = no_wire
wires_of (w ∷ ws) = more_wires w (wires_of ws)

abbrev pub members_of : List (List ℕ × Wire) → Members
members_of [] = no_member
members_of (m ∷ ms) = more_members m.0 m.1 (members_of ms)

-- one level, with each part already seen
abbrev pub wire_step : Wire-F Wire (List ℕ × Wire) → Wire
wire_step Wire-F.Null = null
wire_step (Wire-F.Bool b) = bool b
wire_step (Wire-F.Int n) = int n
wire_step (Wire-F.Text units) = text units
wire_step (Wire-F.List ws) = list (wires_of ws.items)
wire_step (Wire-F.Object ms) = object (members_of ms.items)

abbrev pub member_step : Member-F Wire (List ℕ × Wire) → List ℕ × Wire
member_step m = (m.name, m.value)

abbrev pub wire_view : program.Wire → Wire
wire_view = program.fold-Wire Wire (List ℕ × Wire) wire_step member_step

abbrev pub member_view : member.Member → List ℕ × Wire
member_view = member.fold-Member Wire (List ℕ × Wire) wire_step member_step
