-- The value of a row, by its names.
use Rattle.std.proofs.Common.{◌≡◌, ℕ, List, [], ◌∷◌, map, true, refl, ap, ◌∙◌}
use Rattle.std.specs.Prelude.{◌||◌, All}
use Rattle.std.specs.Str.{bytes_eq}
use Rattle.std.proofs.lemmas.List.Elements.{All-head, All-tail}
use Rattle.elm_type.specs.Types.{Name, MoreField}
use Rattle.elm_type.specs.Classes.{Ground}
use Rattle.elm_type.specs.Rows.{name_lt, has_field, rise, is_under}
use Rattle.elm_type.specs.Ground.{contains, lacks, lacks_all, is_ground, fields_ground}
use Rattle.type_store.specs.Store.{FieldSlot, field_names, field_slots}
use Rattle.type_store.specs.Solutions.{row_value}
use Rattle.type_store.specs.Shape.{Ascending}
use Rattle.type_store.proofs.RowsMeet.{LacksFields, and_left, and_right, and_both}

module _ (f : ℕ → Ground) where
  pub has_row : (x : Name) (fs : List FieldSlot) → has_field x (row_value f fs) ≡ contains x (field_names fs)
  has_row x [] = refl
  has_row x (s ∷ fs) = ap (λ b. bytes_eq x s.0 || b) (has_row x fs)

  pub lacks_row : (fs : List FieldSlot) (t : Ground) → lacks_all (field_names fs) t ≡ true → LacksFields (row_value f fs) t
  lacks_row [] t e = tt
  lacks_row (s ∷ fs) t e = (
    and_left (lacks s.0 t) (lacks_all (field_names fs) t) e,
    lacks_row fs t (and_right (lacks s.0 t) (lacks_all (field_names fs) t) e),
  )

  pub row_lacks : (fs : List FieldSlot) (t : Ground) → LacksFields (row_value f fs) t → lacks_all (field_names fs) t ≡ true
  row_lacks [] t l = refl
  row_lacks (s ∷ fs) t l = and_both (lacks s.0 t) (lacks_all (field_names fs) t) l.0 (row_lacks fs t l.1)

  under_row : (x : Name) (fs : List FieldSlot) → All (λ y. name_lt x y ≡ true) (field_names fs) → is_under x (row_value f fs) ≡ true
  under_row x [] h = refl
  under_row x (s ∷ fs) h = All-head (λ y. name_lt x y ≡ true) s.0 (field_names fs) h

  pub rise_row : (fs : List FieldSlot) → Ascending (field_names fs) → rise (row_value f fs) ≡ true
  rise_row [] a = refl
  rise_row (s ∷ fs) a =
      and_both (is_under s.0 (row_value f fs)) (rise (row_value f fs)) (under_row s.0 fs a.0) (rise_row fs a.1)

  pub ground_row : (fs : List FieldSlot) → All (λ w. is_ground (f w) ≡ true) (field_slots fs) → fields_ground (row_value f fs) ≡ true
  ground_row [] h = refl
  ground_row (s ∷ fs) h =
      and_both (is_ground (f s.1)) (fields_ground (row_value f fs)) (All-head (λ w. is_ground (f w) ≡ true) s.1 (field_slots fs) h)
      (ground_row fs (All-tail (λ w. is_ground (f w) ≡ true) s.1 (field_slots fs) h))

-- values that are the same at the parts of a cell
pub row_same : (f g : ℕ → Ground) (fs : List FieldSlot) → All (λ w. f w ≡ g w) (field_slots fs) → row_value f fs ≡ row_value g fs
row_same f g [] h = refl
row_same f g (s ∷ fs) h =
    ap (λ t. MoreField s.0 t (row_value f fs)) (All-head (λ w. f w ≡ g w) s.1 (field_slots fs) h)
    ∙ ap (MoreField s.0 (g s.1)) (row_same f g fs (All-tail (λ w. f w ≡ g w) s.1 (field_slots fs) h))

pub map_same : (f g : ℕ → Ground) (ws : List ℕ) → All (λ w. f w ≡ g w) ws → map f ws ≡ map g ws
map_same f g [] h = refl
map_same f g (w ∷ ws) h =
    ap (λ t. t ∷ map f ws) (All-head (λ w. f w ≡ g w) w ws h) ∙ ap (λ ts. g w ∷ ts) (map_same f g ws (All-tail (λ w. f w ≡ g w) w ws h))
