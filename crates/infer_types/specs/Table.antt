-- The numbers of an annotation's variables where it is used: its own ones first, and then those of annotations around.
use Rattle.std.specs.Prelude.{◌≡◌, ℕ, ◌+◌, Bool, List, [], ◌∷◌, length, filter, not, is_none, Option, Some, None}
use Rattle.std.specs.Prelude.{slice_get}
use Rattle.std.specs.Prelude.{unwrap_or, if◌then◌else◌}
use Rattle.std.specs.List.{AllZip}
use Rattle.elm_type.specs.Types.{Name, Leaf, Free, Fixed, Kind}
use Rattle.type_store.specs.Store.{Store}
use Rattle.type_walks.specs.TypeStepsLaws.{Lacking}
use Rattle.infer_steps.specs.Codes.{Code}

abbrev pub is_own : Code → Name → Bool
is_own code x = is_none (code.constants x)

abbrev pub own_names : Code → List Name → List Name
own_names code xs = filter (is_own code) xs

abbrev pub outer_names : Code → List Name → List Name
outer_names code xs = filter (λ x. not (is_own code x)) xs

-- own ones from the first number on, the others from the second on
abbrev pub table : Code → ℕ → ℕ → List Name → List ℕ
table code own outer [] = []
table code own outer (x ∷ xs) =
    if is_own code x then own ∷ table code (own + 1) outer xs else outer ∷ table code own (outer + 1) xs

abbrev pub table_of : Code → List Name → List ℕ
table_of code xs = table code 0 (length (own_names code xs)) xs

-- the variables of the store for the others
abbrev pub more_outer : Option ℕ → List ℕ → List ℕ
more_outer None vs = vs
more_outer (Some v) vs = v ∷ vs

abbrev pub outer_of : Code → List Name → List ℕ
outer_of code [] = []
outer_of code (x ∷ xs) = more_outer (code.constants x) (outer_of code xs)

-- with the numbers of a table
abbrev pub moved : List ℕ → Leaf ℕ → Leaf ℕ
moved numbers (Free i) = Free (unwrap_or (slice_get numbers i) 0)
moved numbers (Fixed r) = Fixed r

-- the variables of the store for variables of annotations around lack the fields of these kinds
abbrev pub LackAround : Code → Store → List Name → List Kind → Type 0
LackAround code s xs ks = AllZip (λ x k. (v : ℕ) → code.constants x ≡ Some v → Lacking s v k.lacks) xs ks
