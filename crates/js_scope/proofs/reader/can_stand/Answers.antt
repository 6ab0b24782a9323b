-- Digits of base 16: `two_to_stand`.
use Rattle.std.proofs.Common.{◌≡◌, ◌-◌, ◌*◌, ◌^◌, ◌||◌, suc, nat_lt, ap, sym, ◌∙◌, arith}
use Rattle.js_tree.specs.NameReader.{greatest}
use Rattle.js_scope.proofs.Hex.{two_to_stand}
use Rattle.js_scope.proofs.reader.can_stand.Goals as goal

pub returns-then-left-gt1 : goal.returns-then-left-gt1
returns-then-left-gt1 c =
    let more : c.args.left ≡ suc (suc (c.args.left - 2)) = let q = c.if-left-gt1.true in omega arith in
    sym (ap (λ k. nat_lt (c.args.value * 16 ^ k) 32 || nat_lt 126 (greatest k c.args.value)) more ∙ two_to_stand (c.args.left - 2) c.args.value)
