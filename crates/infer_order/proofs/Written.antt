-- Definitions in written order, and where they stand.
use Rattle.std.proofs.Common.{◌≡◌, ℕ, suc, ◌+◌, List, [], ◌∷◌, ◌++◌, map, Bool, true, false, cond}
use Rattle.std.proofs.Common.{Option, Some, refl, sym, ap, ◌∙◌, arith}
use Rattle.std.specs.Prelude.{◌&&◌, ◌||◌, ◌==◌, nat_lt, slice_get, if◌then◌else◌}
use Rattle.std.proofs.Common.{Ordering}
use Rattle.std.specs.Ordering.{nat_cmp, is_lt, ordering_then}
use Rattle.std.specs.declared.cmp.Ordering.TheVariants.{Less, Equal, Greater}
use Rattle.std.specs.Cmp.{IsStrictWeakOrder, IsTotalOrder}
use Rattle.std.specs.List.Sorted.{IsSortedBy, IsStableBy}
use Rattle.std.proofs.lemmas.Cmp.{nat_cmp_total, on_total, then_total}
use Rattle.std.proofs.lemmas.List.{map-append}
use Rattle.std.proofs.lemmas.List.Sorted.{ranks_by}
use Rattle.elm_base.specs.declared.position.Pos.{Pos}
use Rattle.elm_base.proofs.Sorting.{inserted, in_order, sorted_is}
use Rattle.elm_canon.specs.Tree.{Group, groups_of}
use Rattle.type_items.specs.Definitions as plain
use Rattle.type_items.specs.Definitions.{stands_before, insert_definition, in_written_order}
use Rattle.type_items.specs.Expressions.{group_definitions, definitions}
use Rattle.infer_order.specs.Spots.{at_spot, in_group}
use Rattle.infer_order.specs.Order.{spots_from, all_spots, in_place, ordered}
use Rattle.infer_order.specs.declared.order.Spot.{Spot}

abbrev pub placed : plain.Definition → Option plain.Definition × Pos
placed d = (Some d, d.place)

spots_at : (gs : List Group) (g i : ℕ) (x : Group) (ds : List plain.Definition) → slice_get gs g ≡ Some x
    → ((k : ℕ) → slice_get (group_definitions x) (i + k) ≡ slice_get ds k) → map (in_place gs) (spots_from g i ds) ≡ map
    placed ds
spots_at gs g i x [] is here = refl
spots_at gs g i x (d ∷ ds) is here =
    let one : slice_get (group_definitions x) i ≡ Some d = ap (slice_get (group_definitions x))
    (let e : i ≡ i + 0 = omega arith in e) ∙ here 0 in
    let first : at_spot gs g i ≡ Some d = ap (λ o. in_group o i) is ∙ one in
    ap (λ o. (o, d.place) ∷ map (in_place gs) (spots_from g (i + 1) ds)) first
    ∙ ap (λ l. placed d ∷ l) (spots_at gs g (i + 1) x ds is
    (λ k. ap (slice_get (group_definitions x)) (let e : (i + 1) + k ≡ i + suc k = omega arith in e) ∙ here (suc k)))

all_at : (all gs : List Group) (i : ℕ) → ((k : ℕ) → slice_get all (i + k) ≡ slice_get gs k)
    → map (in_place all) (all_spots i gs) ≡ map placed (definitions (groups_of gs))
all_at all [] i here = refl
all_at all (g ∷ gs) i here =
    map-append (in_place all) (spots_from i 0 (group_definitions g)) (all_spots (i + 1) gs)
    ∙ ap (λ l. l ++ map (in_place all) (all_spots (i + 1) gs))
    (spots_at all i 0 g (group_definitions g) (ap (slice_get all) (let e : i ≡ i + 0 = omega arith in e) ∙ here 0)
    (λ k. ap (slice_get (group_definitions g)) (let e : 0 + k ≡ k = omega arith in e)))
    ∙ ap (λ l. map placed (group_definitions g) ++ l)
    (all_at all gs (i + 1) (λ k. ap (slice_get all) (let e : (i + 1) + k ≡ i + suc k = omega arith in e) ∙ here
    (suc k)))
    ∙ sym (map-append placed (group_definitions g) (definitions (groups_of gs)))

-- ---- by insertion

abbrev pub by_pos : Pos → Pos → Ordering
by_pos a b = ordering_then (nat_cmp a.row b.row) (nat_cmp a.column b.column)

abbrev pub before : Spot → Spot → Bool
before a b = is_lt (by_pos a.place b.place)

pub is_order : IsStrictWeakOrder before
is_order = ranks_by pos_total (λ (s : Spot). s.place)
  where
    pos_total : IsTotalOrder by_pos
    pos_total = then_total (on_total (λ (p : Pos). p.row) nat_cmp_total)
        (on_total (λ (p : Pos). p.column) nat_cmp_total)

by_tests : (l e m f : Bool)
    → is_lt (ordering_then (cond l Less (cond e Equal Greater)) (cond m Less (cond f Equal Greater))) ≡ (l || (e && m))
by_tests true e m f = refl
by_tests false false m f = refl
by_tests false true true f = refl
by_tests false true false true = refl
by_tests false true false false = refl

stands : (a b : Pos) → is_lt (by_pos a b) ≡ stands_before a b
stands a b = by_tests (nat_lt a.row b.row) (a.row == b.row) (nat_lt a.column b.column) (a.column == b.column)

abbrev Placed : Type 0
Placed = Option plain.Definition × Pos

abbrev put : Placed → List Placed → List Placed
put p [] = p ∷ []
put p (q ∷ qs) = if stands_before q.1 p.1 then q ∷ put p qs else p ∷ q ∷ qs

abbrev put_all : List Placed → List Placed
put_all [] = []
put_all (p ∷ ps) = put p (put_all ps)

module _ (gs : List Group) where
  put_step : (m x : Spot) (xs : List Spot) (b : Bool) → map (in_place gs) (inserted before m xs) ≡ put (in_place gs m)
      (map (in_place gs) xs)
      → map (in_place gs) (if b then x ∷ inserted before m xs else m ∷ x ∷ xs)
      ≡ (if b then in_place gs x ∷ put (in_place gs m) (map (in_place gs) xs) else in_place gs m ∷ in_place gs x ∷ map
      (in_place gs) xs)
  put_step m x xs true rest = ap (λ (l : List Placed). in_place gs x ∷ l) rest
  put_step m x xs false rest = refl

  put_is : (m : Spot) (xs : List Spot) → map (in_place gs) (inserted before m xs) ≡ put (in_place gs m)
      (map (in_place gs) xs)
  put_is m [] = refl
  put_is m (x ∷ xs) =
      put_step m x xs (before x m) (put_is m xs)
      ∙ ap (λ b. if b then in_place gs x ∷ put (in_place gs m) (map (in_place gs) xs) else in_place gs m ∷ in_place gs x
      ∷ map (in_place gs) xs) (stands x.place m.place)

  all_put : (xs : List Spot) → map (in_place gs) (in_order before xs) ≡ put_all (map (in_place gs) xs)
  all_put [] = refl
  all_put (x ∷ xs) = put_is x (in_order before xs) ∙ ap (put (in_place gs x)) (all_put xs)

put_placed : (d : plain.Definition) (ds : List plain.Definition) → put (placed d)
    (map placed ds) ≡ map placed (insert_definition d ds)
put_placed d [] = refl
put_placed d (e ∷ es) =
    let P : Bool → Type 0 = λ b. (if b then placed e ∷ put (placed d) (map placed es) else placed d ∷ placed e ∷ map
    placed es)
    ≡ map placed (if b then e ∷ insert_definition d es else d ∷ e ∷ es) in
    elim (stands_before e.place d.place) as P
    [ true ↦ ap (λ (l : List Placed). placed e ∷ l) (put_placed d es) | false ↦ refl ]

all_placed : (ds : List plain.Definition) → put_all (map placed ds) ≡ map placed (in_written_order ds)
all_placed [] = refl
all_placed (d ∷ ds) = ap (put (placed d)) (all_placed ds) ∙ put_placed d (in_written_order ds)

pub sorted_spots : (gs : List Group) (xs ys : List Spot) → IsSortedBy before ys → IsStableBy before xs ys
    → xs ≡ all_spots 0 gs
    → map (in_place gs) ys ≡ map placed (ordered gs)
sorted_spots gs xs ys up stable is =
    ap (map (in_place gs)) (sorted_is before is_order xs ys up stable)
    ∙ all_put gs xs ∙ ap (λ l. put_all (map (in_place gs) l)) is
    ∙ ap put_all (all_at gs gs 0 (λ k. ap (slice_get gs) (let e : 0 + k ≡ k = omega arith in e)))
    ∙ all_placed (definitions (groups_of gs))
