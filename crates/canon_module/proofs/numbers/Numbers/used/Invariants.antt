use Rattle.std.proofs.Common.{◌≡◌, List, take}
use Rattle.std.specs.List.{filter_map}
use Rattle.elm_canon.specs.Names.{Name}
use Rattle.canon_module.specs.TopUses.{used_number}
use Rattle.canon_module.specs.TopUsesKept.{Numbered}
use Rattle.canon_module.proofs.numbers.Numbers.used.Given as goal

abbrev pub invariant-loop-name : goal.invariant-loop-name
invariant-loop-name l =
    (each : List (List Name)) → Numbered l.self each →
    l.numbers.items ≡ filter_map (used_number l.home each) (take l.name-index l.names)
