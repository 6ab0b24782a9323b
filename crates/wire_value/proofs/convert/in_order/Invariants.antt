use Rattle.std.proofs.Common.{◌≡◌, ◌++◌, map}
use Rattle.wire_value.specs.View.{wire_view, member_view}
use Rattle.wire_value.proofs.convert.in_order.Given as goal

abbrev pub invariant-loop-name : goal.invariant-loop-name
invariant-loop-name l =
    map member_view l.members.items ++ map (λ e. (e.0, wire_view e.1)) l.name-iterator ≡ map (λ e. (e.0, wire_view e.1)) l.fn.found.entries
