-- Instances of schemes, and schemes with their variables in order.
use Rattle.std.specs.Prelude.{ℕ, ◌+◌, ◌<◌, ◌^◌, List, [], ◌∷◌, ◌++◌, map, nat_eq, if◌then◌else◌}
use Rattle.std.specs.List.{list_any, position_or_len}
use Rattle.elm_type.specs.Types.{ElmType, Leaf, Free, Fixed, Scheme, variables, renamed, kind_at}

-- variable i is first + i; a constant stays
abbrev pub shifted : ℕ → Leaf ℕ → Leaf ℕ
shifted first (Free i) = Free (first + i)
shifted first (Fixed r) = Fixed r

abbrev pub instantiate : Scheme → ℕ → ElmType (Leaf ℕ)
instantiate s first = renamed (shifted first) s.type

-- first and a variable fit 32 bits together
abbrev pub Fits : ℕ → Leaf ℕ → Type 0
Fits first (Free i) = first + i < 2 ^ 32
Fits first (Fixed r) = Unit {0}

-- each of the variables does
abbrev pub AllFit : ℕ → List (Leaf ℕ) → Type 0
AllFit first [] = Unit {0}
AllFit first (x ∷ xs) = Fits first x × AllFit first xs

-- the numbers of the variables that are not there yet, each once, by its first place
abbrev pub noted : List ℕ → ℕ → List ℕ
noted order i = if list_any (nat_eq i) order then order else order ++ i ∷ []

abbrev pub in_order : List ℕ → List (Leaf ℕ) → List ℕ
in_order order [] = order
in_order order (Free i ∷ xs) = in_order (noted order i) xs
in_order order (Fixed r ∷ xs) = in_order order xs

-- a scheme's variables in order of appearance
abbrev pub appearing : Scheme → List ℕ
appearing s = in_order [] (variables s.type)

-- a variable by its place in the order; a constant stays
abbrev pub placed : List ℕ → Leaf ℕ → Leaf ℕ
placed order (Free i) = Free (position_or_len (nat_eq i) order)
placed order (Fixed r) = Fixed r

-- its variables from 0 in order of appearance, each with its kind
abbrev pub rename : Scheme → Scheme
rename s = record { type = renamed (placed (appearing s)) s.type; kinds = map (kind_at s.kinds) (appearing s) }
