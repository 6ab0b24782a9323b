-- Members of groups and of uses are places of definitions.
use Rattle.std.proofs.Common.{ℕ, ◌<◌, List, [], length, ⊎_elim, Vec, Global, get_or, sym, subst, arith}
use Rattle.std.specs.List.{All, Contains}
use Rattle.std.proofs.Math.ListN.{get_or-eq_default}
use Rattle.std.proofs.lemmas.Bool.{cases_lt}
use Rattle.std.proofs.lemmas.List.{get_or-map, length-map}
use Rattle.std.proofs.lemmas.List.Elements.{Contains-get_or, All-contains}
use Rattle.decl_groups.specs.Groups.{plain, list_at, Uses, IsGroup, IsOrder, all_placed, next}
use Rattle.decl_groups.proofs.Basics.{map_member, member_cases, no_member}

abbrev Row : Type 0
Row = Vec ℕ Global

-- what stands in an order is a group
group_in : {uses : List (List ℕ)} {placed : List ℕ} {gs : List (List ℕ)} → IsOrder uses placed gs → (g : List ℕ) → Contains gs g → IsGroup uses g
group_in (all_placed f) g c = absurd (no_member g c)
group_in {uses} (next {group = h} {rest = rest} n o) g c =
    ⊎_elim (λ e. subst (IsGroup uses) e n.ready.is_group) (λ k. group_in o g k) (member_cases h g rest c)

pub members_within : (uses gs : List Row) → IsOrder (plain uses) [] (plain gs) → All (λ g. All (λ i. i < length uses) g.items) gs
members_within uses gs o k d l n e m =
    let g = get_or gs k d in
    let there : Contains (plain gs) g.items = subst (Contains (plain gs)) (get_or-map (λ (x : Row). x.items) gs k d [] l) (Contains-get_or (plain gs) k [] (omega (arith, l, length-map gs (λ (x : Row). x.items)))) in
    let is = group_in o g.items there in
    omega (arith, ((is.members (get_or g.items n e)).0 (Contains-get_or g.items n e m)).0, length-map uses (λ (x : Row). x.items))

pub uses_within : (uses : List Row) → All (λ row. All (λ j. j < length uses) row.items) uses → (i j : ℕ) → Uses (plain uses) i j → j < length (plain uses)
uses_within uses all i j u = ⊎_elim inside (λ h. absurd (no_member j (subst (λ xs. Contains xs j) (get_or-eq_default (plain uses) [] h) u))) (cases_lt i (length (plain uses)))
  where
    inside : i < length (plain uses) → j < length (plain uses)
    inside l =
        let r = map_member (λ (x : Row). x.items) uses (list_at (plain uses) i) (Contains-get_or (plain uses) i [] l) in
        let row : All (λ k. k < length uses) r.0.items = All-contains (λ (x : Row). All (λ k. k < length uses) x.items) uses r.0 all r.1 in
        let target : j < length uses = All-contains (λ k. k < length uses) r.0.items j row (subst (λ xs. Contains xs j) (sym r.2) u) in
        omega (arith, target, length-map uses (λ (x : Row). x.items))
