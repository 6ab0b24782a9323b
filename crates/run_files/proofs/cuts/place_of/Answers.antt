-- Where texts are cut: `other`.
use Rattle.std.proofs.Common.{◌==◌, ◌<◌, length, get_or, sym, eq-eqb, arith}
use Rattle.std.proofs.lemmas.List.Sums.{position_or_len_is}
use Rattle.run_files.proofs.Cutting.{other}
use Rattle.run_files.proofs.cuts.place_of.Goals as goal

pub returns-then-byte-mark : goal.returns-then-byte-mark
returns-then-byte-mark c =
    sym (position_or_len_is (λ b. b == c.args.mark) c.args.bytes.now c.loop-i.i 0 c.loop-i.auto.i-end (λ k l. other (get_or c.args.bytes.now k 0) c.args.mark (c.loop-i.invariant k l)) (λ _. eq-eqb _ _ c.if-byte-mark.true))

pub returns : goal.returns
returns c =
    sym (position_or_len_is (λ b. b == c.args.mark) c.args.bytes.now (length c.args.bytes.now) 0 (omega arith)
    (λ k l. let seen : k < c.loop-i.i = omega arith in other (get_or c.args.bytes.now k 0) c.args.mark (c.loop-i.invariant k seen))
    (λ l. absurd (let bad : ⊥ = omega arith in bad)))
