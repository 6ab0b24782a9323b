-- Digits of base 16: `two_to_come`.
use Rattle.std.proofs.Common.{◌≡◌, ◌-◌, true, suc, nat_le, nat_lt, ap, sym, ◌∙◌, arith}
use Rattle.std.proofs.lemmas.Bool.Decides.{nat_tests}
use Rattle.js_tree.specs.NameReader as reading
use Rattle.js_scope.proofs.Hex.{two_to_come}
use Rattle.js_scope.proofs.name.can_pass.Goals as goal

pub returns-then-left-gt1 : goal.returns-then-left-gt1
returns-then-left-gt1 c =
    let more : c.args.left ≡ suc (suc (c.args.left - 2)) = let q = c.if-left-gt1.true in omega arith in
    let over : nat_lt 1 c.args.left ≡ true = let q = c.if-left-gt1.true in grind (arith, nat_tests) in
    over ∙ sym (ap (λ k. nat_le 128 (reading.greatest k c.args.value)) more ∙ two_to_come (c.args.left - 2) c.args.value)
