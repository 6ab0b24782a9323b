-- A value in which arrays and objects may nest so deep; for private clauses.
use Rattle.std.specs.Prelude.{ℕ, zero, suc, List, map, Option, Some, None, option_map, option_and_then}
use Rattle.serde_json.specs.Data.{Data, null, boolean, number, string, array, object, Items, no_items, item, Members}
use Rattle.serde_json.specs.Data.{no_members, member}
use Rattle.wire_value.specs.Wire as wire
use Rattle.wire_value.specs.Wire.{Wire}
use Rattle.wire_value.specs.View as value
use Rattle.wire_value.specs.View.{wire_view}
use Rattle.wire_value.specs.declared.wire.Wire as program
use Rattle.elm_base.specs.Units.{text_units}
use Rattle.wire_value.specs.FromJson.{whole, put}

abbrev mutual
  pub wire_within : ℕ → Data → Option Wire
  wire_within room null = Some wire.null
  wire_within room (boolean b) = Some (wire.bool b)
  wire_within room (number n) = option_map wire.int (whole n)
  wire_within room (string s) = Some (wire.text (text_units s))
  wire_within zero (array ds) = None
  wire_within (suc room) (array ds) = option_map wire.list (items_within room ds)
  wire_within zero (object ms) = None
  wire_within (suc room) (object ms) = option_map wire.object (members_within room ms wire.no_member)

  pub items_within : ℕ → Items → Option wire.Wires
  items_within room no_items = Some wire.no_wire
  items_within room (item d ds) = option_and_then (λ w. option_map (wire.more_wires w) (items_within room ds)) (wire_within room d)

  pub members_within : ℕ → Members → wire.Members → Option wire.Members
  members_within room no_members found = Some found
  members_within room (member k d ms) found = option_and_then (λ w. members_within room ms (put (text_units k) w found)) (wire_within room d)

-- members by their names
abbrev pub entries_view : List (List ℕ × program.Wire) → wire.Members
entries_view es = value.members_of (map (λ e. (e.0, wire_view e.1)) es)
