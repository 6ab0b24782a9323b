-- The value of a variable is that of the type that it stands for.
use Rattle.std.proofs.Common.{◌≡◌, ℕ, List, [], ◌∷◌, ◌++◌, map, false, Option, Some, None, refl, sym, ap, ◌∙◌}
use Rattle.std.specs.List.{AllByRecursion}
use Rattle.elm_type.specs.Types.{Rigid, Made, Record, NoField, MoreField, Closed, types_of, variable}
use Rattle.elm_type.specs.Rows.{extend, substitute_all, substitute_fields}
use Rattle.elm_type.specs.Ground.{leaf_value, value}
use Rattle.type_store.specs.Store.{FieldSlot, Cell, Open, Bound, Built, Row, Constant, Store, slot_at, field_slots}
use Rattle.type_store.specs.Store.{end_slots}
use Rattle.type_store.specs.Shape.{IsStore, parts_of}
use Rattle.type_store.specs.Solutions.{Values, Fit, Says, row_value, rest_value}
use Rattle.type_store.specs.Steps.{is_bound}
use Rattle.type_store.proofs.Rows.{extend_none}
use Rattle.type_walks.specs.Progress.{Themselves}
use Rattle.type_walks.proofs.RowTypes.{put_extended}
use Rattle.type_schemes.specs.Ends.{end_of}
use Rattle.type_schemes.specs.Order.{IsListed, PartsFirst}
use Rattle.type_schemes.specs.Reading.{Graph, read_row, read_end, read_cell, read_in}
use Rattle.type_schemes.specs.Bases.{type_in}
use Rattle.type_constructs.proofs.ToldReadingParts.{to_end, of_listed}

module _ (s : Store) (σ : Values) (fit : Fit σ s) where
  bound_same : (v w : ℕ) (c : Cell) → Says σ (σ.types v) c → c ≡ Bound w → σ.types v ≡ σ.types w
  bound_same v w Open h e = absurd (cc)
  bound_same v w (Bound u) h e = let k : u ≡ w = cc in h ∙ ap σ.types k
  bound_same v w (Built b ws) h e = absurd (cc)
  bound_same v w (Row fs end) h e = absurd (cc)
  bound_same v w (Constant r) h e = absurd (cc)

  same_end : (v : ℕ) → σ.types v ≡ σ.types (end_of s v)
  same_end =
      to_end s (λ v u. σ.types v ≡ σ.types u) (λ v. refl)
      (λ v w u e h. bound_same v w (slot_at s v).cell (fit.each v).cell e ∙ h)

  module _ (own : Themselves σ) (f : ℕ → Graph) where
    abbrev Valued : ℕ → Type 0
    Valued w = σ.types (end_of s w) ≡ value σ.types (f w)

    part : (w : ℕ) → Valued w → σ.types w ≡ value σ.types (f w)
    part w h = same_end w ∙ h

    parts_valued : (ws : List ℕ) → AllByRecursion Valued ws
        → types_of (map σ.types ws) ≡ substitute_all (leaf_value σ.types) (types_of (map f ws))
    parts_valued [] h = refl
    parts_valued (w ∷ ws) h =
        ap (λ t. Rattle.elm_type.specs.Types.MoreType t (types_of (map σ.types ws))) (part w h.0)
        ∙ ap (Rattle.elm_type.specs.Types.MoreType (value σ.types (f w))) (parts_valued ws h.1)

    row_valued : (fs : List FieldSlot) (ws : List ℕ) → AllByRecursion Valued (field_slots fs ++ ws)
        → row_value σ.types fs ≡ substitute_fields (leaf_value σ.types) (read_row f fs)
    row_valued [] ws h = refl
    row_valued (x ∷ fs) ws h =
        ap (λ t. MoreField x.0 t (row_value σ.types fs)) (part x.1 h.0) ∙ ap (MoreField x.0 (value σ.types (f x.1)))
        (row_valued fs ws h.1)

    end_valued : (fs : List FieldSlot) (end : Option ℕ) → AllByRecursion Valued (field_slots fs ++ end_slots end)
        → rest_value σ.types end ≡ value σ.types (read_end f end)
    end_valued [] None h = refl
    end_valued [] (Some w) h = part w h.0
    end_valued (x ∷ fs) end h = end_valued fs end h.1

    cell_valued : (v : ℕ) (c : Cell) → Says σ (σ.types v) c → is_bound c ≡ false → AllByRecursion Valued (parts_of c)
        → σ.types v ≡ value σ.types (read_cell f v c)
    cell_valued v Open says b h = sym (extend_none (σ.types v))
    cell_valued v (Bound w) says b h = absurd (cc)
    cell_valued v (Built k ws) says b h = says ∙ ap (Made k) (parts_valued ws h)
    cell_valued v (Row fs end) says b h =
        says.0
        ∙ (ap (λ gs. extend gs (rest_value σ.types end)) (row_valued fs (end_slots end) h)
        ∙ (ap (extend (substitute_fields (leaf_value σ.types) (read_row f fs))) (end_valued fs end h)
        ∙ sym (put_extended (leaf_value σ.types) (read_row f fs) (read_end f end))))
    cell_valued v (Constant r) says b h = says ∙ ap variable (own.each r)

  -- the value of a variable that is listed
  pub value_read : IsStore s → Themselves σ → (older : List ℕ) → PartsFirst 0 s older → (v : ℕ) → IsListed older v
      → σ.types v ≡ value σ.types (read_in s older v)
  value_read whole own older first =
      of_listed s whole older first (λ v t. σ.types v ≡ value σ.types t)
      (λ v l free h. cell_valued own (type_in s older) v (slot_at s v).cell (fit.each v).cell free h)

  -- and of one that leads to it
  pub value_of : IsStore s → Themselves σ → (older : List ℕ) → PartsFirst 0 s older → (v : ℕ)
      → IsListed older (end_of s v)
      → σ.types v ≡ value σ.types (type_in s older v)
  value_of whole own older first v h = same_end v ∙ value_read whole own older first (end_of s v) h
