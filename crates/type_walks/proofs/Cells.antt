-- Frozen cells and the cells of a store that they were.
use Rattle.std.proofs.Common.{◌≡◌, ℕ, List, [], ◌∷◌, map, Option, Some, None, refl, sym, ap, ◌∙◌, subst}
use Rattle.std.specs.List.{AllByRecursion, AllZip}
use Rattle.elm_type.specs.Types.{Made, MoreField, types_of}
use Rattle.elm_type.specs.Classes.{Ground}
use Rattle.elm_type.specs.Rows.{extend}
use Rattle.elm_type.specs.Ground.{lacks_all, fits}
use Rattle.type_store.specs.Store as store
use Rattle.type_store.specs.Store.{FieldSlot, Slot, Store, field_names}
use Rattle.type_store.specs.Solutions.{Values, Says, Meets, row_value, rest_value}
use Rattle.type_walks.specs.Frozen.{Part, FieldPart, FrozenCell, Open, Built, Row, part_value, fields_value, end_value, part_names, FrozenSays, PartIs, FieldIs, EndIs, CellIs, IsBefore, EndBefore, CellBefore}

module _ (d : ℕ) (s : Store) (number : ℕ → Option ℕ) (τ σ : Values) (inner : ℕ → Ground) (n : ℕ)
    (part : (w : ℕ) (p : Part) → PartIs d s number w p → IsBefore n p → τ.types w ≡ part_value σ inner p) where
  parts_same : (ws : List ℕ) (ps : List Part) → AllZip (PartIs d s number) ws ps → AllByRecursion (IsBefore n) ps
      → map τ.types ws ≡ map (part_value σ inner) ps
  parts_same [] [] h b = refl
  parts_same [] (p ∷ ps) h b = absurd h
  parts_same (w ∷ ws) [] h b = absurd h
  parts_same (w ∷ ws) (p ∷ ps) h b =
      ap (λ t. t ∷ map τ.types ws) (part w p h.0 b.0) ∙ ap (λ ts. part_value σ inner p ∷ ts) (parts_same ws ps h.1 b.1)

  fields_same : (gs : List FieldSlot) (fs : List FieldPart) → AllZip (FieldIs d s number) gs fs → AllByRecursion (λ (f : FieldPart). IsBefore n f.1) fs
      → row_value τ.types gs ≡ fields_value σ inner fs
  fields_same [] [] h b = refl
  fields_same [] (f ∷ fs) h b = absurd h
  fields_same (g ∷ gs) [] h b = absurd h
  fields_same (g ∷ gs) (f ∷ fs) h b =
      ap (λ x. MoreField x (τ.types g.1) (row_value τ.types gs)) h.0.0
      ∙ (ap (λ t. MoreField f.0 t (row_value τ.types gs)) (part g.1 f.1 h.0.1 b.0)
      ∙ ap (MoreField f.0 (part_value σ inner f.1)) (fields_same gs fs h.1 b.1))

  names_same : (gs : List FieldSlot) (fs : List FieldPart) → AllZip (FieldIs d s number) gs fs → field_names gs ≡ part_names fs
  names_same [] [] h = refl
  names_same [] (f ∷ fs) h = absurd h
  names_same (g ∷ gs) [] h = absurd h
  names_same (g ∷ gs) (f ∷ fs) h = ap (λ x. x ∷ field_names gs) h.0.0 ∙ ap (λ xs. f.0 ∷ xs) (names_same gs fs h.1)

  end_same : (e : Option ℕ) (p : Option Part) → EndIs d s number e p → EndBefore n p → rest_value τ.types e ≡ end_value σ inner p
  end_same None None h b = refl
  end_same None (Some p) h b = absurd h
  end_same (Some w) None h b = absurd h
  end_same (Some w) (Some p) h b = part w p h b

  row_same : (gs : List FieldSlot) (e : Option ℕ) (fs : List FieldPart) (p : Option Part) → AllZip (FieldIs d s number) gs fs → EndIs d s number e p
      → CellBefore n (Row fs p) → extend (row_value τ.types gs) (rest_value τ.types e) ≡ extend (fields_value σ inner fs) (end_value σ inner p)
  row_same gs e fs p h k b =
      ap (λ xs. extend xs (rest_value τ.types e)) (fields_same gs fs h b.0) ∙ ap (extend (fields_value σ inner fs)) (end_same e p k b.1)

  -- what the store says, the frozen cell says
  pub cell_forth : (c : FrozenCell) (slot : Slot) (t : Ground) → CellIs d s number slot c → CellBefore n c → Meets τ slot t
      → FrozenSays σ inner t c
  cell_forth (Open k) slot t is b m = (ap (λ j. fits j t) (sym is.1) ∙ m.kind, m.ground)
  cell_forth (Built h ps) slot t is b m =
      let says : Says τ t (store.Built h is.parts) = subst (Says τ t) is.is m.cell in
      says ∙ ap (λ ts. Made h (types_of ts)) (parts_same is.parts ps is.each b)
  cell_forth (Row fs end) slot t is b m =
      let says : Says τ t (store.Row is.fields is.rest) = subst (Says τ t) is.is m.cell in (
        says.0 ∙ row_same is.fields is.rest fs end is.each is.last b,
        ap (λ xs. lacks_all xs (end_value σ inner end)) (sym (names_same is.fields fs is.each))
            ∙ (ap (lacks_all (field_names is.fields)) (sym (end_same is.rest end is.last b.1)) ∙ says.1),
      )

  -- and types of which both say the same are the same
  pub cell_same : (c : FrozenCell) (slot : Slot) (t u : Ground) → CellIs d s number slot c → CellBefore n c → Says τ t slot.cell
      → FrozenSays σ inner u c → (slot.cell ≡ store.Open → t ≡ u) → t ≡ u
  cell_same (Open k) slot t u is b says frozen blank = blank is.0
  cell_same (Built h ps) slot t u is b says frozen blank =
      let here : Says τ t (store.Built h is.parts) = subst (Says τ t) is.is says in
      here ∙ (ap (λ ts. Made h (types_of ts)) (parts_same is.parts ps is.each b) ∙ sym frozen)
  cell_same (Row fs end) slot t u is b says frozen blank =
      let here : Says τ t (store.Row is.fields is.rest) = subst (Says τ t) is.is says in
      here.0 ∙ (row_same is.fields is.rest fs end is.each is.last b ∙ sym frozen.0)
