-- A wire value as JSON (RFC 8259) without blanks, all in ASCII.
use Rattle.std.specs.Prelude.{ℕ, suc, ℤ, pos, negsuc, List, [], ◌∷◌, ◌++◌, Bool, true, false, codes, decimal}
pub use Rattle.elm_base.specs.Quoted.{text_text}
use Rattle.wire_value.specs.Wire.{Wire, null, bool, int, text, list, object, Wires, no_wire, more_wires, Members}
use Rattle.wire_value.specs.Wire.{no_member, more_members}

-- a whole number in decimal (RFC 8259, 6)
abbrev pub int_text : ℤ → List ℕ
int_text (pos n) = decimal n
int_text (negsuc n) = 45 ∷ decimal (suc n)

abbrev pub bool_text : Bool → List ℕ
bool_text true = codes "true"
bool_text false = codes "false"

abbrev mutual
  pub wire_text : Wire → List ℕ
  wire_text null = codes "null"
  wire_text (bool b) = bool_text b
  wire_text (int n) = int_text n
  wire_text (text us) = text_text us
  wire_text (list ws) = codes "[" ++ wires_text ws ++ codes "]"
  wire_text (object ms) = codes "{" ++ members_text ms ++ codes "}"

  -- joined by commas
  pub wires_text : Wires → List ℕ
  wires_text no_wire = []
  wires_text (more_wires w ws) = wire_text w ++ later_wires_text ws

  pub later_wires_text : Wires → List ℕ
  later_wires_text no_wire = []
  later_wires_text (more_wires w ws) = codes "," ++ wire_text w ++ later_wires_text ws

  pub members_text : Members → List ℕ
  members_text no_member = []
  members_text (more_members k w ms) = text_text k ++ codes ":" ++ wire_text w ++ later_members_text ms

  pub later_members_text : Members → List ℕ
  later_members_text no_member = []
  later_members_text (more_members k w ms) = codes "," ++ text_text k ++ codes ":" ++ wire_text w ++ later_members_text ms
