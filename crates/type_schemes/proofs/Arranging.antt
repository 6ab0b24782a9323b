-- Fields in the order of their names, by insertion.
use Rattle.std.proofs.Common.{◌≡◌, List, [], ◌∷◌, map, Bool, true, false, cond, if◌then◌else◌, refl, ap, ◌∙◌}
use Rattle.std.specs.Cmp.{IsStrictWeakOrder}
use Rattle.std.specs.List.Sorted.{IsSortedBy, IsStableBy}
use Rattle.std.proofs.lemmas.Cmp.{nat_list_cmp_total}
use Rattle.std.proofs.lemmas.List.Sorted.{ranks_by}
use Rattle.elm_base.proofs.Sorting as sorting
use Rattle.elm_base.proofs.Sorting.{sorted_is}
use Rattle.elm_canon.specs.View.{NamedType}
use Rattle.elm_type.specs.Types.{Name}
use Rattle.elm_type.specs.Rows.{name_lt}
use Rattle.type_schemes.specs.Names.{put_in, in_order, Titled, titled, part_view}
use Rattle.type_schemes.specs.declared.fields.Part.{Part}

abbrev pub before : Part → Part → Bool
before x y = name_lt x.name y.name

pub is_order : IsStrictWeakOrder before
is_order = ranks_by nat_list_cmp_total (λ (x : Part). x.name)

insert_step : (m x : Part) (xs : List Part) (b : Bool)
    → map part_view (sorting.inserted before m xs) ≡ put_in (part_view m) (map part_view xs)
    → map part_view (if b then x ∷ sorting.inserted before m xs else m ∷ x ∷ xs)
    ≡ (if b then part_view x ∷ put_in (part_view m) (map part_view xs) else part_view m ∷ part_view x ∷ map part_view
    xs)
insert_step m x xs true rest = ap (λ (gs : List Titled). part_view x ∷ gs) rest
insert_step m x xs false rest = refl

insert_is : (m : Part) (xs : List Part) → map part_view (sorting.inserted before m xs) ≡ put_in (part_view m)
    (map part_view xs)
insert_is m [] = refl
insert_is m (x ∷ xs) = insert_step m x xs (before x m) (insert_is m xs)

order_is : (xs : List Part) → map part_view (sorting.in_order before xs) ≡ in_order (map part_view xs)
order_is [] = refl
order_is (x ∷ xs) = insert_is x (sorting.in_order before xs) ∙ ap (put_in (part_view x)) (order_is xs)

pub sort_arranges : (xs ys : List Part) → IsSortedBy before ys → IsStableBy before xs ys
    → map part_view ys ≡ in_order (map part_view xs)
sort_arranges xs ys up stable = ap (map part_view) (sorted_is before is_order xs ys up stable) ∙ order_is xs

-- ---- what is made of each field keeps the order

module _ (order : List Name) where
  put_titled : (f : NamedType) (gs : List NamedType) → map (titled order) (put_in f gs) ≡ put_in (titled order f)
      (map (titled order) gs)
  put_titled f [] = refl
  put_titled f (g ∷ gs) = go (name_lt g.0 f.0) (put_titled f gs)
    where
      go : (b : Bool) → map (titled order) (put_in f gs) ≡ put_in (titled order f) (map (titled order) gs)
          → map (titled order) (cond b (g ∷ put_in f gs) (f ∷ g ∷ gs))
          ≡ cond b (titled order g ∷ put_in (titled order f) (map (titled order) gs))
          (titled order f ∷ titled order g ∷ map (titled order) gs)
      go true again = ap (λ (ts : List Titled). titled order g ∷ ts) again
      go false again = refl

  pub order_titled : (fs : List NamedType) → map (titled order) (in_order fs) ≡ in_order (map (titled order) fs)
  order_titled [] = refl
  order_titled (f ∷ fs) = put_titled f (in_order fs) ∙ ap (put_in (titled order f)) (order_titled fs)
