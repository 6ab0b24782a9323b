-- Names of type variables. In order of appearance each variable takes the first name of its class that no rigid
-- constant of the type has, and no variable before it: a to z, then a1 to z1 and so on; those of a class the name of
-- the class, then that name with 1, 2 and so on.
use Rattle.std.specs.Prelude.{ℕ, zero, suc, ◌+◌, ◌/◌, ◌%◌, List, [], ◌∷◌, ◌++◌, map, length, Bool, nat_eq}
use Rattle.std.specs.Prelude.{if◌then◌else◌, codes}
use Rattle.std.specs.List.{list_any}
use Rattle.std.specs.Str.{bytes_eq}
use Rattle.std.specs.Fmt.{decimal}
use Rattle.elm_type.specs.Types.{Name, Leaf, Free, Fixed, Scheme, variables}
use Rattle.elm_type.specs.declared.class.Class.{Class}
use Rattle.elm_type.specs.declared.class.Class.TheVariants.{Any, Number, Comparable, Appendable, CompAppend}

-- nothing, 1, 2 and so on
abbrev pub suffix : ℕ → Name
suffix n = if nat_eq n 0 then [] else decimal n

-- the names of a class, in turn
unfoldable pub candidate : Class → ℕ → Name
candidate Any n = (97 + n % 26) ∷ suffix (n / 26)
candidate Number n = codes "number" ++ suffix n
candidate Comparable n = codes "comparable" ++ suffix n
candidate Appendable n = codes "appendable" ++ suffix n
candidate CompAppend n = codes "compappend" ++ suffix n

abbrev pub is_used : List Name → Name → Bool
is_used used x = list_any (bytes_eq x) used

-- the first from n on that is not used, of so many
abbrev pub first_free : Class → List Name → ℕ → ℕ → ℕ
first_free c used n zero = n
first_free c used n (suc tries) = if is_used used (candidate c n) then first_free c used (suc n) tries else n

abbrev pub next_name : Class → List Name → Name
next_name c used = candidate c (first_free c used 0 (length used))

-- the names of variables of these classes, in turn
abbrev pub given : List Class → List Name → List Name
given [] used = []
given (c ∷ cs) used = next_name c used ∷ given cs (next_name c used ∷ used)

abbrev pub constant_names : List (Leaf ℕ) → List Name
constant_names [] = []
constant_names (Free i ∷ xs) = constant_names xs
constant_names (Fixed r ∷ xs) = r.name ∷ constant_names xs

-- the names of the variables of a scheme that has them in order
abbrev pub names_of : Scheme → List Name
names_of s = given (map (λ k. k.class) s.kinds) (constant_names (variables s.type))
