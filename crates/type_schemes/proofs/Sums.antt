-- Sums of sizes.
use Rattle.std.proofs.Common.{◌≡◌, ℕ, ◌+◌, ◌<◌, List, [], ◌∷◌, ◌++◌, length, map, take, get_or, min, Bool, true, false, cond, refl, ap, ◌∙◌, arith}
use Rattle.elm_type.specs.Types.{Name, Fields, NoField, MoreField, Closed, Over, Made, Record, size, size_all, size_fields, types_of}
use Rattle.elm_type.specs.Rows.{extend, insert_field, insert_all, name_lt}
use Rattle.std.proofs.lemmas.List.{take_more, map_push}
use Rattle.type_store.specs.Store.{FieldSlot}
use Rattle.type_store.specs.declared.slot.FieldSlot as stored
use Rattle.type_store.specs.View.{field_view}
use Rattle.type_schemes.specs.Reading.{Graph, read_row}
use Rattle.type_schemes.proofs.Types.{AreRecord}
use Rattle.type_schemes.specs.Bases.{base, most}
use Rattle.elm_type.specs.Types.{Leaf}

pub capped : (a b : ℕ) → min (min a most + min b most) most ≡ min (a + b) most
capped a b = omega arith

inserted : (k : Name) (t : Graph) (fs : Fields (Leaf ℕ)) → size_fields (insert_field k t fs) ≡ size t + size_fields fs
inserted k t NoField = refl
inserted k t (MoreField j u fs) = go (name_lt j k) (inserted k t fs)
  where
    go : (b : Bool) → size_fields (insert_field k t fs) ≡ size t + size_fields fs
        → size_fields (cond b (MoreField j u (insert_field k t fs)) (MoreField k t (MoreField j u fs))) ≡ size t + (size u + size_fields fs)
    go true e = omega (arith, e)
    go false e = refl

pub inserted_all : (fs gs : Fields (Leaf ℕ)) → size_fields (insert_all fs gs) ≡ size_fields fs + size_fields gs
inserted_all NoField gs = omega arith
inserted_all (MoreField k t fs) gs = let e = inserted_all fs gs in let f = inserted k t (insert_all fs gs) in omega (arith, e, f)

pub base_extended : (fs : Fields (Leaf ℕ)) (t : Graph) → AreRecord t → base (extend fs t) ≡ size_fields fs + base t
base_extended fs (Made h ts) r = absurd r
base_extended fs (Record gs Closed) r = let e = inserted_all fs gs in omega (arith, e)
base_extended fs (Record gs (Over x)) r = let e = inserted_all fs gs in omega (arith, e)

pub all_more : (ts us : List Graph) → size_all (types_of (ts ++ us)) ≡ size_all (types_of ts) + size_all (types_of us)
all_more [] us = omega arith
all_more (t ∷ ts) us = let e = all_more ts us in omega (arith, e)

-- one more part
pub part_more : (f : ℕ → Graph) (ws : List ℕ) (i d sum n : ℕ) → i < length ws → sum ≡ min (size_all (types_of (map f (take i ws)))) most → n ≡ min (size (f (get_or ws i d))) most
    → min (sum + n) most ≡ min (size_all (types_of (map f (take (i + 1) ws)))) most
part_more f ws i d sum n l a b =
    let e = ap (λ xs. size_all (types_of (map f xs))) (take_more ws i d l) in
    let g = ap (λ ts. size_all (types_of ts)) (map_push f (take i ws) (get_or ws i d)) in
    let m = all_more (map f (take i ws)) (f (get_or ws i d) ∷ []) in
    omega (arith, a, b, e, g, m)

-- one more field
row_more : (f : ℕ → Graph) (fs : List FieldSlot) (x : FieldSlot) → size_fields (read_row f (fs ++ x ∷ [])) ≡ size_fields (read_row f fs) + size (f x.1)
row_more f [] x = omega arith
row_more f (g ∷ fs) x = let e = row_more f fs x in omega (arith, e)

pub field_more : (f : ℕ → Graph) (fs : List stored.FieldSlot) (i : ℕ) (d : stored.FieldSlot) (sum n : ℕ) → i < length fs
    → sum ≡ min (size_fields (read_row f (map field_view (take i fs)))) most → n ≡ min (size (f (get_or fs i d).slot)) most
    → min (sum + n) most ≡ min (size_fields (read_row f (map field_view (take (i + 1) fs)))) most
field_more f fs i d sum n l a b =
    let e = ap (λ xs. size_fields (read_row f xs)) (ap (map field_view) (take_more fs i d l) ∙ map_push field_view (take i fs) (get_or fs i d)) in
    let m = row_more f (map field_view (take i fs)) (field_view (get_or fs i d)) in
    omega (arith, a, b, e, m)
