use Rattle.std.proofs.Common.{◌≡◌, ◌+◌, ◌≤◌, take}
use Rattle.js_tree.specs.Faults.{place_after}
use Rattle.js_scope.specs.Read.{place_view}
use Rattle.js_scope.proofs.text.place_after.Given as goal

abbrev pub invariant-loop-byte : goal.invariant-loop-byte
invariant-loop-byte l = record {
  place : place_view l.place ≡ place_after (record { row = 1; column = 1 }) (take l.byte-index l.bytes);
  row : l.place.row ≤ l.byte-index + 1;
  column : l.place.column ≤ l.byte-index + 1;
}
