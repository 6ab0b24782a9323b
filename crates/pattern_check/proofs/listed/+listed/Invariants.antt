use Rattle.std.proofs.Common.{◌≡◌, ◌++◌, drop}
use Rattle.pattern_check.specs.Starts.{parts_view}
use Rattle.pattern_check.specs.Listed.{all_parts, item_parts}
use Rattle.pattern_check.proofs.listed.+listed.Given as goal

abbrev pub invariant-add_items-loop-item : goal.invariant-add_items-loop-item
invariant-add_items-loop-item l =
    parts_view l.parts.items ++ item_parts (drop l.item-index l.items)
    ≡ parts_view l.fn.parts.items ++ item_parts l.items

abbrev pub invariant-add_patterns-loop-pattern : goal.invariant-add_patterns-loop-pattern
invariant-add_patterns-loop-pattern l =
    parts_view l.parts.items ++ all_parts (drop l.pattern-index l.patterns)
    ≡ parts_view l.fn.parts.items ++ all_parts l.patterns
