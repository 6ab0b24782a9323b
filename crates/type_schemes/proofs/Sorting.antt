-- Fields in the order of their names, by insertion.
use Rattle.std.proofs.Common.{◌≡◌, ℕ, List, [], ◌∷◌, map, Bool, true, false, cond, if◌then◌else◌, refl, ap, ◌∙◌}
use Rattle.std.specs.List.{AllByRecursion}
use Rattle.std.specs.Cmp.{IsStrictWeakOrder}
use Rattle.std.specs.List.Sorted.{IsSortedBy, IsStableBy}
use Rattle.std.proofs.lemmas.Cmp.{nat_list_cmp_total}
use Rattle.std.proofs.lemmas.List.Sorted.{ranks_by}
use Rattle.elm_base.proofs.Sorting as sorting
use Rattle.elm_base.proofs.Sorting.{sorted_is}
use Rattle.elm_type.specs.Types.{NoField, MoreField}
use Rattle.elm_type.specs.Rows.{name_lt, insert_field, insert_all}
use Rattle.type_store.specs.Store.{FieldSlot, field_slots}
use Rattle.type_store.specs.declared.slot.FieldSlot as stored
use Rattle.type_store.specs.View.{field_view}
use Rattle.type_schemes.specs.Reading.{Graph, read_row}
use Rattle.type_schemes.specs.Rows.{put_slot, in_order}

abbrev pub before : stored.FieldSlot → stored.FieldSlot → Bool
before x y = name_lt x.name y.name

pub is_order : IsStrictWeakOrder before
is_order = ranks_by nat_list_cmp_total (λ (x : stored.FieldSlot). x.name)

insert_step : (m x : stored.FieldSlot) (xs : List stored.FieldSlot) (b : Bool)
    → map field_view (sorting.inserted before m xs) ≡ put_slot (field_view m) (map field_view xs)
    → map field_view (if b then x ∷ sorting.inserted before m xs else m ∷ x ∷ xs)
    ≡ (if b then field_view x ∷ put_slot (field_view m) (map field_view xs) else field_view m ∷ field_view x ∷ map
    field_view xs)
insert_step m x xs true rest = ap (λ (gs : List FieldSlot). field_view x ∷ gs) rest
insert_step m x xs false rest = refl

insert_is : (m : stored.FieldSlot) (xs : List stored.FieldSlot)
    → map field_view (sorting.inserted before m xs) ≡ put_slot (field_view m) (map field_view xs)
insert_is m [] = refl
insert_is m (x ∷ xs) = insert_step m x xs (before x m) (insert_is m xs)

order_is : (xs : List stored.FieldSlot) → map field_view (sorting.in_order before xs) ≡ in_order (map field_view xs)
order_is [] = refl
order_is (x ∷ xs) = insert_is x (sorting.in_order before xs) ∙ ap (put_slot (field_view x)) (order_is xs)

pub sort_arranges : (xs ys : List stored.FieldSlot) → IsSortedBy before ys → IsStableBy before xs ys
    → map field_view ys ≡ in_order (map field_view xs)
sort_arranges xs ys up stable = ap (map field_view) (sorted_is before is_order xs ys up stable) ∙ order_is xs

-- ---- what holds of each holds of them in order

module _ (P : ℕ → Type 0) where
  all_put : (g : FieldSlot) (gs : List FieldSlot) → P g.1 → AllByRecursion P (field_slots gs)
      → AllByRecursion P (field_slots (put_slot g gs))
  all_put g [] p h = (p, tt)
  all_put g (x ∷ gs) p h = go (name_lt x.0 g.0) (all_put g gs p h.1)
    where
      go : (b : Bool) → AllByRecursion P (field_slots (put_slot g gs))
          → AllByRecursion P (field_slots (cond b (x ∷ put_slot g gs) (g ∷ x ∷ gs)))
      go true again = (h.0, again)
      go false again = (p, h)

  pub all_in_order : (gs : List FieldSlot) → AllByRecursion P (field_slots gs)
      → AllByRecursion P (field_slots (in_order gs))
  all_in_order [] h = tt
  all_in_order (g ∷ gs) h = all_put g (in_order gs) h.0 (all_in_order gs h.1)

-- ---- and the fields of a type in order

module _ (f : ℕ → Graph) where
  put_read : (g : FieldSlot) (gs : List FieldSlot) → insert_field g.0 (f g.1)
      (read_row f gs) ≡ read_row f (put_slot g gs)
  put_read g [] = refl
  put_read g (x ∷ gs) = go (name_lt x.0 g.0) (put_read g gs)
    where
      go : (b : Bool) → insert_field g.0 (f g.1) (read_row f gs) ≡ read_row f (put_slot g gs)
          → cond b (MoreField x.0 (f x.1) (insert_field g.0 (f g.1) (read_row f gs)))
          (MoreField g.0 (f g.1) (MoreField x.0 (f x.1) (read_row f gs)))
          ≡ read_row f (cond b (x ∷ put_slot g gs) (g ∷ x ∷ gs))
      go true again = ap (MoreField x.0 (f x.1)) again
      go false again = refl

  pub order_read : (gs : List FieldSlot) → insert_all (read_row f gs) NoField ≡ read_row f (in_order gs)
  order_read [] = refl
  order_read (g ∷ gs) = ap (insert_field g.0 (f g.1)) (order_read gs) ∙ put_read g (in_order gs)
