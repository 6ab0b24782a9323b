use Rattle.std.proofs.Common.{◌≡◌, drop, map, option_map}
use Rattle.serde_json.specs.View.{items_view, members_view}
use Rattle.wire_value.specs.Wire.{no_member}
use Rattle.wire_value.specs.View.{wire_view}
use Rattle.wire_value.specs.Within.{items_within, members_within, entries_view}
use Rattle.wire_value.proofs.Converting.{onto}
use Rattle.wire_value.proofs.convert.+convert.Given as goal

abbrev pub invariant-convert_items-loop-item : goal.invariant-convert_items-loop-item
invariant-convert_items-loop-item l =
    option_map (onto (map wire_view l.wires.items)) (items_within l.room (items_view (drop l.item-index l.items))) ≡ items_within l.room (items_view l.items)

abbrev pub invariant-convert_members-loop-key : goal.invariant-convert_members-loop-key
invariant-convert_members-loop-key l =
    members_within l.room (members_view l.key-iterator) (entries_view l.found.entries) ≡ members_within l.room (members_view l.members.entries) no_member
