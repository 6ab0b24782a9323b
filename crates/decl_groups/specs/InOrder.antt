-- The order of definitions that use each other, computed. It is the one that decl_groups tells by a relation.
-- Definitions are known by their places: the list at place i has the places that definition i uses.
use Rattle.std.specs.Prelude.{◌≡◌, ℕ, zero, suc, ◌<◌, List, [], ◌∷◌, ◌++◌, Bool, true, false, ◌&&◌, ◌||◌, ◌==◌, if◌then◌else◌}
use Rattle.std.specs.Prelude.{length, filter, IsTrue, ◌↔◌, Option, Some, None, map}
use Rattle.std.specs.List.{list_any, list_all, range_with_len}
use Rattle.decl_groups.specs.Groups.{list_at, Uses, Reaches, IsOrder}

abbrev pub is_in : ℕ → List ℕ → Bool
is_in i places = list_any (λ j. i == j) places

-- i leads to j by uses, by way of definitions below the k-th alone
abbrev pub leads : List (List ℕ) → ℕ → ℕ → ℕ → Bool
leads uses zero i j = (i == j) || is_in j (list_at uses i)
leads uses (suc k) i j = leads uses k i j || (leads uses k i k && leads uses k k j)

-- by way of any
abbrev pub reaches : List (List ℕ) → ℕ → ℕ → Bool
reaches uses i j = leads uses (length uses) i j

abbrev pub places_of : List (List ℕ) → List ℕ
places_of uses = range_with_len 0 (length uses)

-- the definitions that are together with i, in ascending order
abbrev pub group_of : List (List ℕ) → ℕ → List ℕ
group_of uses i = filter (λ j. reaches uses i j && reaches uses j i) (places_of uses)

abbrev pub begins_with : ℕ → List ℕ → Bool
begins_with i [] = false
begins_with i (j ∷ js) = i == j

-- each group once, by its first place
abbrev pub groups_of : List (List ℕ) → List (List ℕ)
groups_of uses = map (group_of uses) (filter (λ i. begins_with i (group_of uses i)) (places_of uses))

-- all that the group uses is placed or is its own
abbrev pub is_ready : List (List ℕ) → List ℕ → List ℕ → Bool
is_ready uses placed group = list_all (λ i. list_all (λ j. is_in j placed || is_in j group) (list_at uses i)) group

abbrev pub put_before : List ℕ → Option (List ℕ × List (List ℕ)) → Option (List ℕ × List (List ℕ))
put_before group None = None
put_before group (Some t) = Some (t.0, group ∷ t.1)

-- the first group that is ready, and those that are not it
abbrev pub taken : List (List ℕ) → List ℕ → List (List ℕ) → Option (List ℕ × List (List ℕ))
taken uses placed [] = None
taken uses placed (group ∷ groups) = if is_ready uses placed group then Some (group, groups) else put_before group (taken uses placed groups)

abbrev pub first_and_rest : (List ℕ → List (List ℕ) → List (List ℕ)) → Option (List ℕ × List (List ℕ)) → List (List ℕ)
first_and_rest rest None = []
first_and_rest rest (Some t) = t.0 ∷ rest t.0 t.1

-- so many groups, each the first that is ready
abbrev pub placed_in_turn : List (List ℕ) → ℕ → List ℕ → List (List ℕ) → List (List ℕ)
placed_in_turn uses zero placed groups = []
placed_in_turn uses (suc n) placed groups = first_and_rest (λ group others. placed_in_turn uses n (placed ++ group) others) (taken uses placed groups)

unfoldable pub ordered_groups : List (List ℕ) → List (List ℕ)
ordered_groups uses = placed_in_turn uses (length (groups_of uses)) [] (groups_of uses)

-- its definitions use themselves: it has two or more, or one that does
abbrev pub is_recursive : List (List ℕ) → List ℕ → Bool
is_recursive uses [] = false
is_recursive uses (i ∷ []) = is_in i (list_at uses i)
is_recursive uses _ = true

-- definition i stands in a group whose definitions use themselves
abbrev pub uses_itself : List (List ℕ) → ℕ → Bool
uses_itself uses i = list_any (λ j. is_in i (list_at uses j) && reaches uses i j) (places_of uses)

-- ---- laws

-- uses are places of definitions
abbrev pub AreWithin : List (List ℕ) → Type 0
AreWithin uses = (i j : ℕ) → Uses uses i j → j < length uses

-- so what is computed is what uses lead to
abbrev pub ReachesWell : List (List ℕ) → Type 0
ReachesWell uses = AreWithin uses → (i j : ℕ) → IsTrue (reaches uses i j) ↔ Reaches uses i j

-- and where groups have an order, it is the one that is computed
abbrev pub IsTheOrder : List (List ℕ) → Type 0
IsTheOrder uses = AreWithin uses → (groups : List (List ℕ)) → IsOrder uses [] groups → ordered_groups uses ≡ groups
