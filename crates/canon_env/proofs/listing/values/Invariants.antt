use Rattle.std.proofs.Common.{◌≡◌, map, take}
use Rattle.std.specs.List.{flat_map}
use Rattle.canon_env.specs.Found.{named_by}
use Rattle.canon_env.specs.Filter.{filter_value}
use Rattle.canon_env.specs.Env.{value_view, value_named}
use Rattle.canon_env.proofs.listing.values.Given as goal

abbrev pub invariant-loop-name : goal.invariant-loop-name
invariant-loop-name l =
    map (named_by value_view) l.values.items
    ≡ flat_map (value_named (filter_value l.filter)) (take l.name-index l.shown.values.items)
