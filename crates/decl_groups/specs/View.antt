-- What groups tell: their members, and whether they use themselves.
use Rattle.std.specs.Prelude.{ℕ, List, [], ◌∷◌, Bool, map, flat_map, ◌&&◌, ⊤}
use Rattle.std.specs.List.{Contains, list_any}
use Rattle.decl_groups.specs.InOrder.{is_in}
use Rattle.decl_groups.specs.declared.grouping.Group.{Group}

abbrev pub members_of : List Group → List (List ℕ)
members_of groups = map (λ g. g.members.items) groups

abbrev pub marks_of : List Group → List Bool
marks_of groups = map (λ g. g.is_recursive) groups

-- a group whose definitions use themselves has the definition at place i
abbrev pub is_marked : List Group → ℕ → Bool
is_marked groups i = list_any (λ g. g.is_recursive && is_in i g.members.items) groups

-- no number stands twice
abbrev pub StandOnce : List ℕ → Type 0
StandOnce [] = ⊤
StandOnce (x ∷ xs) = (Contains xs x → ⊥) × StandOnce xs

-- the numbers of all lists
abbrev pub joined : List (List ℕ) → List ℕ
joined lists = flat_map (λ list. list) lists
