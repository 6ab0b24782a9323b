-- What a type has no constant of, its parts have none of.
use Rattle.std.proofs.Common.{◌≡◌, ℕ, zero, suc, List, [], ◌∷◌, map, Bool, true, false, cond, Option, Some, None, inl, inr, subst, arith}
use Rattle.std.specs.Prelude.{◌⊎◌}
use Rattle.std.specs.List.{AllByRecursion, Contains}
use Rattle.std.proofs.lemmas.List.Elements.{Contains-append_cases}
use Rattle.elm_type.specs.Types.{Name, ElmType, Fields, Made, Record, NoField, MoreField, types_of, variables, variables_all, variables_fields, end_variables, Rigid}
use Rattle.elm_type.specs.Classes.{Ground}
use Rattle.elm_type.specs.Rows.{extend, insert_field, insert_all, name_lt}
use Rattle.elm_type.specs.Ground.{lacks_all}
use Rattle.type_store.specs.Store.{FieldSlot, Cell, Open, Bound, Built, Row, Constant, Store, slot_at, field_slots, field_names, end_slots}
use Rattle.type_store.specs.Solutions.{Values, Fit, Says, row_value, rest_value}
use Rattle.type_store.specs.Shape.{parts_of}
use Rattle.type_walks.specs.Regions.{Region}
use Rattle.type_walks.specs.Links.{IsClean}
use Rattle.type_store.specs.Reaching.{Path}
use Rattle.type_walks.proofs.Cleaning.{all_both, all_first, all_second}

module _ {X : Type 0} (P : X → Type 0) where
  inserted : (k : Name) (t : ElmType X) (fs : Fields X) → AllByRecursion P (variables_fields (insert_field k t fs))
      → AllByRecursion P (variables t) × AllByRecursion P (variables_fields fs)
  inserted k t NoField h = (all_first P (variables t) [] h, tt)
  inserted k t (MoreField j u fs) h = go (name_lt j k) h (inserted k t fs)
    where
      go : (b : Bool) → AllByRecursion P (variables_fields (cond b (MoreField j u (insert_field k t fs)) (MoreField k t (MoreField j u fs))))
          → (AllByRecursion P (variables_fields (insert_field k t fs)) → AllByRecursion P (variables t) × AllByRecursion P (variables_fields fs))
          → AllByRecursion P (variables t) × AllByRecursion P (variables_fields (MoreField j u fs))
      go true h again =
          let r = again (all_second P (variables u) (variables_fields (insert_field k t fs)) h) in
          (r.0, all_both P (variables u) (variables_fields fs) (all_first P (variables u) (variables_fields (insert_field k t fs)) h) r.1)
      go false h again =
          (all_first P (variables t) (variables_fields (MoreField j u fs)) h, all_second P (variables t) (variables_fields (MoreField j u fs)) h)

  inserted_all : (fs gs : Fields X) → AllByRecursion P (variables_fields (insert_all fs gs))
      → AllByRecursion P (variables_fields fs) × AllByRecursion P (variables_fields gs)
  inserted_all NoField gs h = (tt, h)
  inserted_all (MoreField k t fs) gs h =
      let r = inserted k t (insert_all fs gs) h in
      let q = inserted_all fs gs r.1 in
      (all_both P (variables t) (variables_fields fs) r.0 q.0, q.1)

module _ (P : Rigid → Type 0) (types : ℕ → Ground) where
  row_parts : (fs : List FieldSlot) (t : Ground) → lacks_all (field_names fs) t ≡ true → AllByRecursion P (variables (extend (row_value types fs) t))
      → AllByRecursion P (variables_fields (row_value types fs)) × AllByRecursion P (variables t)
  row_parts [] (Made h ts) l c = (tt, c)
  row_parts (f ∷ fs) (Made h ts) l c = absurd (let x : false ≡ true = l in cc)
  row_parts fs (Record gs end) l c =
      let r = inserted_all P (row_value types fs) gs (all_second P (end_variables end) (variables_fields (insert_all (row_value types fs) gs)) c) in
      (r.0, all_both P (end_variables end) (variables_fields gs) (all_first P (end_variables end) (variables_fields (insert_all (row_value types fs) gs)) c) r.1)

  of_part : (ws : List ℕ) (w : ℕ) → AllByRecursion P (variables_all (types_of (map types ws))) → Contains ws w → AllByRecursion P (variables (types w))
  of_part [] w c (k, l, h) = absurd (omega arith)
  of_part (x ∷ ws) w c (zero, l, h) = subst (λ z. AllByRecursion P (variables (types z))) h (all_first P (variables (types x)) (variables_all (types_of (map types ws))) c)
  of_part (x ∷ ws) w c (suc k, l, h) = of_part ws w (all_second P (variables (types x)) (variables_all (types_of (map types ws))) c) (k, omega arith, h)

  of_field : (fs : List FieldSlot) (w : ℕ) → AllByRecursion P (variables_fields (row_value types fs)) → Contains (field_slots fs) w → AllByRecursion P (variables (types w))
  of_field [] w c (k, l, h) = absurd (omega arith)
  of_field (x ∷ fs) w c (zero, l, h) = subst (λ z. AllByRecursion P (variables (types z))) h (all_first P (variables (types x.1)) (variables_fields (row_value types fs)) c)
  of_field (x ∷ fs) w c (suc k, l, h) = of_field fs w (all_second P (variables (types x.1)) (variables_fields (row_value types fs)) c) (k, omega arith, h)

  of_end : (end : Option ℕ) (w : ℕ) → AllByRecursion P (variables (rest_value types end)) → Contains (end_slots end) w → AllByRecursion P (variables (types w))
  of_end None w c (k, l, h) = absurd (omega arith)
  of_end (Some x) w c (zero, l, h) = subst (λ z. AllByRecursion P (variables (types z))) h c
  of_end (Some x) w c (suc k, l, h) = absurd (omega arith)

module _ (s : Store) (σ : Values) (f : Fit σ s) (P : Rigid → Type 0) where
  part_there : (c : Cell) (t : Ground) (w : ℕ) → Says σ t c → AllByRecursion P (variables t) → Contains (parts_of c) w → AllByRecursion P (variables (σ.types w))
  part_there Open t w says clean (k, l, h) = absurd (omega arith)
  part_there (Bound u) t w says clean (zero, l, h) =
      subst (λ z. AllByRecursion P (variables (σ.types z))) h (subst (λ z. AllByRecursion P (variables z)) says clean)
  part_there (Bound u) t w says clean (suc k, l, h) = absurd (omega arith)
  part_there (Built b ws) t w says clean h = of_part P σ.types ws w (subst (λ z. AllByRecursion P (variables z)) says clean) h
  part_there (Row fs end) t w says clean h =
      let r = row_parts P σ.types fs (rest_value σ.types end) says.1 (subst (λ z. AllByRecursion P (variables z)) says.0 clean) in
      go r.0 r.1 (Contains-append_cases (field_slots fs) (end_slots end) w h)
    where
      go : AllByRecursion P (variables_fields (row_value σ.types fs)) → AllByRecursion P (variables (rest_value σ.types end))
          → Contains (field_slots fs) w ⊎ Contains (end_slots end) w → AllByRecursion P (variables (σ.types w))
      go a b (inl c) = of_field P σ.types fs w a c
      go a b (inr c) = of_end P σ.types end w b c
  part_there (Constant r) t w says clean (k, l, h) = absurd (omega arith)

  -- what holds of the constants of a type holds of those of its parts
  pub parts_there : (v w : ℕ) → AllByRecursion P (variables (σ.types v)) → Contains (parts_of (slot_at s v).cell) w
      → AllByRecursion P (variables (σ.types w))
  parts_there v w c h = part_there (slot_at s v).cell (σ.types v) w (f.each v).cell c h

  -- and along a path
  pub path_there : (us : List ℕ) (v w : ℕ) → Path s v us w → AllByRecursion P (variables (σ.types v)) → AllByRecursion P (variables (σ.types w))
  path_there [] v w h c = subst (λ z. AllByRecursion P (variables (σ.types z))) h c
  path_there (u ∷ us) v w h c = path_there us u w h.1 (parts_there v u c h.0)

pub clean_path : (s : Store) (σ : Values) → Fit σ s → (R : Region) (us : List ℕ) (v w : ℕ) → Path s v us w → IsClean R (σ.types v)
    → IsClean R (σ.types w)
clean_path s σ f R us v w h c = path_there s σ f (λ r. R r.place ≡ false) us v w h c
