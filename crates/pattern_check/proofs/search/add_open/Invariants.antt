use Rattle.std.proofs.Common.{◌≡◌, ◌++◌}
use Rattle.pattern_check.specs.Flat.{open_parts}
use Rattle.pattern_check.specs.Starts.{parts_view}
use Rattle.pattern_check.proofs.search.add_open.Given as goal

abbrev pub invariant-loop : goal.invariant-loop
invariant-loop l = parts_view l.parts.items ≡ parts_view l.fn.parts.items ++ open_parts l.counter
