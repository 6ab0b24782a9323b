-- Members of groups and of uses are modules.
use Rattle.std.proofs.Common.{ℕ, ◌<◌, List, [], length, ⊎_elim, Vec, Global, get_or, sym, subst, arith}
use Rattle.std.specs.List.{All, Contains}
use Rattle.std.proofs.Math.ListN.{get_or-eq_default}
use Rattle.std.proofs.lemmas.Bool.{cases_lt}
use Rattle.std.proofs.lemmas.List.{get_or-map, length-map}
use Rattle.std.proofs.lemmas.List.Elements.{Contains-get_or, All-contains}
use Rattle.decl_groups.specs.Groups as groups
use Rattle.decl_groups.specs.Groups.{plain, list_at, Uses}
use Rattle.decl_groups.proofs.Basics.{map_member, no_member}
use Rattle.import_graph.proofs.Orders.{group_in}

abbrev Row : Type 0
Row = Vec ℕ Global

pub members_within : (uses gs : List Row) → groups.IsOrder (plain uses) [] (plain gs) → All (λ g. All (λ i. i < length uses) g.items) gs
members_within uses gs o k d l n e m =
    let g = get_or gs k d in
    let there : Contains (plain gs) g.items = subst (Contains (plain gs)) (get_or-map (λ (x : Row). x.items) gs k d [] l) (Contains-get_or (plain gs) k [] (omega (arith, l, length-map gs (λ (x : Row). x.items)))) in
    let is = group_in o g.items there in
    omega (arith, ((is.members (get_or g.items n e)).0 (Contains-get_or g.items n e m)).0, length-map uses (λ (x : Row). x.items))

pub uses_within : (uses : List Row) → All (λ row. All (λ j. j < length uses) row.items) uses → (i j : ℕ) → Uses (plain uses) i j → j < length (plain uses)
uses_within uses all i j u = ⊎_elim inside (λ h. absurd (no_member j (subst (λ xs. Contains xs j) (get_or-eq_default (plain uses) [] h) u))) (cases_lt i (length (plain uses)))
  where
    inside : i < length (plain uses) → j < length (plain uses)
    inside l =
        let r = map_member (λ (x : Row). x.items) uses (list_at (plain uses) i) (Contains-get_or (plain uses) i [] l) in
        let row : All (λ k. k < length uses) r.0.items = All-contains (λ (x : Row). All (λ k. k < length uses) x.items) uses r.0 all r.1 in
        let target : j < length uses = All-contains (λ k. k < length uses) r.0.items j row (subst (λ xs. Contains xs j) (sym r.2) u) in
        omega (arith, target, length-map uses (λ (x : Row). x.items))
