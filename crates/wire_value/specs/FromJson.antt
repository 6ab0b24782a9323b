-- The wire value of JSON. (RFC 8259. Which numbers are whole is serde_json's: `Number` keeps what has no fraction, no
-- exponent and fits 64 bits as a whole number, and any other, -0 among them, as a float.)
use Rattle.std.specs.Prelude.{ℕ, ℤ, List, nat_le, if◌then◌else◌, Option, Some, None, option_map, option_and_then}
use Rattle.std.specs.Ordering.{nat_cmp, match_ordering}
use Rattle.std.specs.Cmp.Lexicographic.{slice_cmp}
use Rattle.std.specs.Str.{is_utf8}
use Rattle.serde_json.specs.Data.{Data, null, boolean, number, string, array, object, Items, no_items, item, Members}
use Rattle.serde_json.specs.Data.{no_members, member, Num, depth}
use Rattle.serde_json.specs.Find.{as_integer}
use Rattle.serde_json.specs.Read.{read}
use Rattle.wire_value.specs.Exact.{is_exact}
use Rattle.wire_value.specs.Wire as wire
use Rattle.wire_value.specs.Wire.{Wire}
use Rattle.elm_base.specs.Units.{text_units}

abbrev pub if_exact : ℤ → Option ℤ
if_exact n = if is_exact n then Some n else None

-- a number that is whole, and exact on every side
abbrev pub whole : Num → Option ℤ
whole n = option_and_then if_exact (as_integer n)

-- the members with this value at this name, in the order of the names' units, each name once
abbrev pub put : List ℕ → Wire → wire.Members → wire.Members
put k w wire.no_member = wire.more_members k w wire.no_member
put k w (wire.more_members l v ms) = match_ordering (slice_cmp nat_cmp k l) (wire.more_members k w (wire.more_members l v ms)) (wire.more_members l w ms) (wire.more_members l v (put k w ms))

-- None where any number inside is not whole or not exact
abbrev mutual
  pub wire_of : Data → Option Wire
  wire_of null = Some wire.null
  wire_of (boolean b) = Some (wire.bool b)
  wire_of (number n) = option_map wire.int (whole n)
  wire_of (string s) = Some (wire.text (text_units s))
  wire_of (array ds) = option_map wire.list (items_of ds)
  wire_of (object ms) = option_map wire.object (members_of ms wire.no_member)

  pub items_of : Items → Option wire.Wires
  items_of no_items = Some wire.no_wire
  items_of (item d ds) = option_and_then (λ w. option_map (wire.more_wires w) (items_of ds)) (wire_of d)

  -- the members go in one after another
  pub members_of : Members → wire.Members → Option wire.Members
  members_of no_members found = Some found
  members_of (member k d ms) found = option_and_then (λ w. members_of ms (put (text_units k) w found)) (wire_of d)

-- None also where arrays and objects nest over 100 deep
abbrev pub from_json : Data → Option Wire
from_json d = if nat_le (depth d) 100 then wire_of d else None

-- what bytes spell: a text in UTF-8 (RFC 8259, 8.1), as serde_json reads it
abbrev pub from_bytes : List ℕ → Option Wire
from_bytes bytes = if is_utf8 bytes then option_and_then from_json (read bytes) else None
