-- Two texts of one length are the same when their units are, one by one.
use Rattle.std.proofs.Common.{◌≡◌, length, sym, arith}
use Rattle.std.proofs.lemmas.Grind.{same_number_lists}
use Rattle.std.proofs.lemmas.Slice.Eq.{bytes_eq-Decides}
use Rattle.elm_type.proofs.ascii.is_text.Goals as goal

pub returns : goal.returns
returns c =
    let units = c.args.name.now in
    let text = c.args.text.now in
    let e : length units ≡ length text = rw (sym c.as_slice-units.ensures) c.if-units-text.false in
    sym ((bytes_eq-Decides units text).1 (same_number_lists units text e (λ k h. rw (sym c.as_slice-units.ensures) (c.loop-index.invariant k (omega arith)))))
