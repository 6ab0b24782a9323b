-- The integers that are exact on every side: within plus and minus 9007199254740991. (ECMA-262, 21.1.2.6 and 21.1.2.8.)
use Rattle.std.specs.Prelude.{ℤ, pos, negsuc, Bool, nat_le, nat_lt}

abbrev pub is_exact : ℤ → Bool
is_exact (pos n) = nat_le n 9007199254740991
is_exact (negsuc n) = nat_lt n 9007199254740991
