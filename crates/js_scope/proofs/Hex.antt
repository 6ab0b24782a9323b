-- Digits of base 16.
use Rattle.std.proofs.Common.{◌≡◌, ℕ, zero, suc, ◌*◌, ◌^◌, ◌≤◌, true, nat_le, nat_lt, ◌||◌, arith}
use Rattle.std.proofs.lemmas.Bool.Decides.{nat_tests}
use Rattle.js_tree.specs.NameReader.{greatest}

positive : (n : ℕ) → 1 ≤ 16 ^ n
positive zero = omega arith
positive (suc n) = let p = positive n in omega arith

-- where two digits or more are to come, a unit can always pass the characters of a word
pub two_to_come : (n a : ℕ) → nat_le 128 (greatest (suc (suc n)) a) ≡ true
two_to_come n a = let p = positive n in grind (arith, nat_tests)

pub one_to_come : (a : ℕ) → nat_le 128 (greatest 1 a) ≡ nat_le 8 a
one_to_come a = grind (arith, nat_tests)

-- where two digits or more are to come, some unit that begins so does not stand for itself
pub two_to_stand : (n a : ℕ) → (nat_lt (a * 16 ^ suc (suc n)) 32 || nat_lt 126 (greatest (suc (suc n)) a)) ≡ true
two_to_stand n a = let p = positive n in grind (arith, nat_tests)
