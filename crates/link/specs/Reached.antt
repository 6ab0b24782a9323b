-- What a start reaches, by what things declare and use.
use Rattle.std.specs.Prelude.{ℕ, zero, suc, List, [], ◌∷◌, Bool, false, map, if◌then◌else◌, Option, Some, None}
use Rattle.std.specs.Prelude.{option_map}
use Rattle.std.specs.List.{filter_map, list_any}
use Rattle.decl_groups.specs.InOrder.{reaches}
use Rattle.link.specs.Names.{TopName, same_top}

abbrev pub declares : List TopName → TopName → Bool
declares ns x = list_any (λ y. same_top y x) ns

-- the place of the first that declares the name
abbrev pub place_of : List (List TopName) → TopName → Option ℕ
place_of [] x = None
place_of (ns ∷ each) x = if declares ns x then Some 0 else option_map suc (place_of each x)

-- the places of those that declare what each uses; a name that none declares leads nowhere
abbrev pub places_used : List (List TopName) → List (List TopName) → List (List ℕ)
places_used names uses = map (λ us. filter_map (place_of names) us) uses

abbrev pub reaches_from : List (List ℕ) → Option ℕ → ℕ → Bool
reaches_from uses None i = false
reaches_from uses (Some s) i = reaches uses s i

-- whether the one at a place is reached from the one that declares the start
unfoldable pub is_reached : List (List TopName) → List (List TopName) → TopName → ℕ → Bool
is_reached names uses start i = reaches_from (places_used names uses) (place_of names start) i

-- of those from the n-th place on, the ones whose places pass the test
abbrev pub kept : {X : Type 0} → (ℕ → Bool) → ℕ → List X → List X
kept test n [] = []
kept test n (x ∷ xs) = if test n then x ∷ kept test (suc n) xs else kept test (suc n) xs

-- what the start reaches, in order
abbrev pub reached : {X : Type 0} → (X → List TopName) → (X → List TopName) → TopName → List X → List X
reached names uses start xs = kept (is_reached (map names xs) (map uses xs) start) 0 xs
