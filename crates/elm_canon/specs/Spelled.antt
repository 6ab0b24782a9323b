-- Names that JavaScript can spell, and literals that it has: a name is a letter of ASCII, and then such letters, digits,
-- _ and units past ASCII; a module's name is upper-case words that points join.
use Rattle.std.specs.Prelude.{ℕ, ℤ, pos, negsuc, List, [], ◌∷◌, Bool, true, false, if◌then◌else◌, not, ◌&&◌, ◌||◌, ◌==◌}
use Rattle.std.specs.Prelude.{nat_le, nat_lt}
use Rattle.std.specs.List.{list_all, list_any}
use Rattle.elm_canon.specs.Names.{Name, same_name}
use Rattle.elm_canon.specs.declared.reference.Ref.{Ref}
use Rattle.elm_canon.specs.declared.reference.Ref.TheVariants.{Local, Top}
use Rattle.elm_canon.specs.declared.tree.Literal.{Literal}
use Rattle.elm_canon.specs.declared.tree.Literal.TheVariants as literal

abbrev pub is_unit : ℕ → Bool
is_unit u = nat_lt u 65536

abbrev pub is_upper : ℕ → Bool
is_upper c = nat_le 65 c && nat_le c 90

abbrev pub is_letter : ℕ → Bool
is_letter c = is_upper c || nat_le 97 c && nat_le c 122

abbrev pub is_name_unit : ℕ → Bool
is_name_unit u = (is_letter u || (nat_le 48 u && nat_le u 57 || u == 95)) || nat_le 128 u && is_unit u

abbrev pub is_word : Name → Bool
is_word [] = false
is_word (u ∷ us) = is_letter u && list_all is_name_unit us

-- at_start: a word begins here; 46 is the point
abbrev pub is_module : Bool → Name → Bool
is_module at_start [] = not at_start
is_module true (u ∷ us) = is_upper u && is_module false us
is_module false (u ∷ us) = if u == 46 then is_module true us else is_name_unit u && is_module false us

abbrev pub is_spelled : Ref → Bool
is_spelled (Local x) = is_word x
is_spelled (Top m x) = is_module true m && is_word x

-- from -(2 ^ 53 - 1) to 2 ^ 53 - 1
abbrev pub is_exact : ℤ → Bool
is_exact (pos n) = nat_le n 9007199254740991
is_exact (negsuc n) = nat_lt n 9007199254740991

abbrev pub is_exact_literal : Literal → Bool
is_exact_literal (literal.Int n) = is_exact n
is_exact_literal (literal.Char us) = list_all is_unit us
is_exact_literal (literal.Text us) = list_all is_unit us

-- words, each once
abbrev pub are_fields : List Name → Bool
are_fields [] = true
are_fields (k ∷ ks) = is_word k && (not (list_any (same_name k) ks) && are_fields ks)
