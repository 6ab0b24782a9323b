-- Numbers, texts and members, worked out.
use Rattle.std.specs.Prelude.{◌≡◌, pos, negsuc, [], true, codes}
use Rattle.wire_value.specs.Wire.{null, bool, no_member, more_members}
use Rattle.runs.specs.Ends.{Val, Crashed, Unsafe}
use Rattle.runs.specs.Numbers.{add, negate, quotient, remainder, modulo, and_bits, xor_bits, not_bits}
use Rattle.runs.specs.Numbers.{shift_left, shift_right, shift_right_zero}
use Rattle.runs.specs.Texts.{units_lt, unit_at, slice, find_in, unit_of}
use Rattle.runs.specs.Members.{put_wire}

pub record Examples : Type 0 where
  -- 9007199254740991 is exact, and one more is not
  pub largest : negate (negsuc 9007199254740990) ≡ Val (pos 9007199254740991)
  pub too_large : add (pos 9007199254740991) (pos 1) ≡ Unsafe
  pub too_small : add (negsuc 9007199254740990) (negsuc 0) ≡ Unsafe
  -- 7 // 0 is 0, -7 // 2 is -3, and quotients wrap around at 32 bits
  pub quotient_by_zero : quotient (pos 7) (pos 0) ≡ pos 0
  pub quotient_below : quotient (negsuc 6) (pos 2) ≡ negsuc 2
  pub quotient_wraps : quotient (pos 9007199254740991) (pos 1) ≡ negsuc 0
  -- modBy 4 -1 is 3, modBy -4 1 is -3, remainderBy 4 -1 is -1
  pub modulo_below : modulo (pos 4) (negsuc 0) ≡ Val (pos 3)
  pub modulo_of_below : modulo (negsuc 3) (pos 1) ≡ Val (negsuc 2)
  pub modulo_by_zero : modulo (pos 0) (pos 1) ≡ Crashed (codes "modBy 0")
  pub remainder_below : remainder (pos 4) (negsuc 0) ≡ Val (negsuc 0)
  pub remainder_by_zero : remainder (pos 0) (pos 1) ≡ Unsafe
  -- bits: -1 and 4294967298 have one bit in common, of 32; the complement of 5 is -6
  pub in_common : and_bits (negsuc 0) (pos 4294967298) ≡ pos 2
  pub different : xor_bits (pos 5) (pos 6) ≡ pos 3
  pub others : not_bits (pos 5) ≡ negsuc 5
  -- by 33 is by 1; -3 shifted right keeps its sign, or is read without one
  pub left : shift_left (pos 33) (pos 1) ≡ pos 2
  pub right : shift_right (pos 1) (negsuc 2) ≡ negsuc 1
  pub right_zero : shift_right_zero (pos 28) (negsuc 0) ≡ pos 15
  -- texts are compared by units, and a front comes before the whole
  pub before : units_lt (codes "Z") (codes "a") ≡ true
  pub front_before : units_lt (codes "ab") (codes "abc") ≡ true
  -- places are counted from 0, or from the end below 0
  pub second : unit_at (pos 1) (codes "abc") ≡ Val (pos 98)
  pub past_the_end : unit_at (pos 3) (codes "abc") ≡ Unsafe
  pub end_of_text : slice (negsuc 1) (pos 9) (codes "abc") ≡ codes "bc"
  pub found : find_in (codes "c") (negsuc 2) (codes "abc") ≡ pos 2
  pub empty_found : find_in [] (pos 5) (codes "abc") ≡ pos 3
  pub not_found : find_in (codes "d") (pos 0) (codes "abc") ≡ negsuc 0
  pub letter : unit_of (pos 65601) ≡ codes "A"
  -- members stand by their names
  pub by_name : put_wire (codes "b") null (more_members (codes "a") (bool true) no_member)
      ≡ more_members (codes "a") (bool true) (more_members (codes "b") null no_member)
  pub first_by_name : put_wire (codes "a") null (more_members (codes "b") (bool true) no_member)
      ≡ more_members (codes "a") null (more_members (codes "b") (bool true) no_member)
