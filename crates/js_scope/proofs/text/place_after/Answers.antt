-- Places, byte by byte: `next_after`.
use Rattle.std.proofs.Common.{◌<◌, length, get_or, ap, sym, ◌∙◌, arith}
use Rattle.js_tree.specs.Faults.{next_place, Place}
use Rattle.js_scope.proofs.Places.{next_after}
use Rattle.js_scope.proofs.text.place_after.Goals as goal

pub loop-byte-preserved : goal.loop-byte-preserved
loop-byte-preserved c =
    let bytes = c.args.bytes.now in
    let i = c.loop-byte.byte-index in
    let inside : i < length bytes = omega arith in
    let start : Place = record { row = 1; column = 1 } in
    record {
      place = c.next_place-place.ensures.place ∙ (ap (λ p. next_place (get_or bytes i 0) p) c.loop-byte.invariant.place ∙ sym (next_after bytes i 0 start inside));
      row = let b = c.next_place-place.ensures.row_bound in let q = c.loop-byte.invariant.row in omega arith;
      column = let b = c.next_place-place.ensures.column_bound in let q = c.loop-byte.invariant.column in omega arith;
    }
