-- Frozen types where the variables of the store have the same types.
use Rattle.std.proofs.Common.{◌≡◌, ℕ, ◌≤◌, List, [], ◌∷◌, map, Option, Some, None, refl, sym, ap, ◌∙◌}
use Rattle.std.specs.List.{AllByRecursion}
use Rattle.elm_type.specs.Types.{Made, MoreField, types_of}
use Rattle.elm_type.specs.Classes.{Ground}
use Rattle.elm_type.specs.Rows.{extend}
use Rattle.elm_type.specs.Ground.{lacks_all}
use Rattle.type_store.specs.Store.{Store}
use Rattle.type_store.specs.Solutions.{Values}
use Rattle.type_walks.specs.Links.{AgreeTypes, Later}
use Rattle.type_walks.proofs.Linking.{live_later}
use Rattle.type_walks.specs.Frozen.{Frozen, Part, Inner, Outer, FieldPart, FrozenCell, Open, Built, Row, cell_at, part_value}
use Rattle.type_walks.specs.Frozen.{fields_value, end_value, part_names, FrozenSays, FitsFrozen, PartLive, EndLive}
use Rattle.type_walks.specs.Frozen.{CellLive, OuterLive}

module _ (d : ℕ) (s : Store) (σ τ : Values) (inner : ℕ → Ground) (agree : AgreeTypes d s σ τ) where
  part_same : (p : Part) → PartLive d s p → part_value σ inner p ≡ part_value τ inner p
  part_same (Inner i) h = refl
  part_same (Outer v) h = agree v h

  parts_same : (ps : List Part) → AllByRecursion (PartLive d s) ps → map (part_value σ inner) ps ≡ map (part_value τ inner) ps
  parts_same [] h = refl
  parts_same (p ∷ ps) h =
      ap (λ t. t ∷ map (part_value σ inner) ps) (part_same p h.0) ∙ ap (λ ts. part_value τ inner p ∷ ts) (parts_same ps h.1)

  fields_same : (fs : List FieldPart) → AllByRecursion (λ (f : FieldPart). PartLive d s f.1) fs → fields_value σ inner fs ≡ fields_value τ inner fs
  fields_same [] h = refl
  fields_same (f ∷ fs) h =
      ap (λ t. MoreField f.0 t (fields_value σ inner fs)) (part_same f.1 h.0)
      ∙ ap (MoreField f.0 (part_value τ inner f.1)) (fields_same fs h.1)

  end_same : (e : Option Part) → EndLive d s e → end_value σ inner e ≡ end_value τ inner e
  end_same None h = refl
  end_same (Some p) h = part_same p h

  cell_still : (c : FrozenCell) (t : Ground) → CellLive d s c → FrozenSays σ inner t c → FrozenSays τ inner t c
  cell_still (Open k) t h says = says
  cell_still (Built b ps) t h says = says ∙ ap (λ ts. Made b (types_of ts)) (parts_same ps h)
  cell_still (Row fs end) t h says = (
    says.0
        ∙ (ap (λ xs. extend xs (end_value σ inner end)) (fields_same fs h.0) ∙ ap (extend (fields_value τ inner fs)) (end_same end h.1)),
    ap (lacks_all (part_names fs)) (sym (end_same end h.1)) ∙ says.1,
  )

  pub cells_still : (frozen : Frozen) → OuterLive d s frozen → FitsFrozen σ inner frozen.cells → FitsFrozen τ inner frozen.cells
  cells_still frozen live fits = record { each = λ i l. cell_still (cell_at frozen.cells i) (inner i) (live.cells i l) (fits.each i l) }

-- ---- what is in use stays in use

module _ (d e : ℕ) (s s' : Store) (later : Later s s') (le : e ≤ d) where
  part_live : (p : Part) → PartLive e s p → PartLive d s' p
  part_live (Inner i) h = tt
  part_live (Outer v) h = live_later d e s s' v later le h

  parts_live : (ps : List Part) → AllByRecursion (PartLive e s) ps → AllByRecursion (PartLive d s') ps
  parts_live [] h = tt
  parts_live (p ∷ ps) h = (part_live p h.0, parts_live ps h.1)

  fields_live : (fs : List FieldPart) → AllByRecursion (λ (f : FieldPart). PartLive e s f.1) fs → AllByRecursion (λ (f : FieldPart). PartLive d s' f.1) fs
  fields_live [] h = tt
  fields_live (f ∷ fs) h = (part_live f.1 h.0, fields_live fs h.1)

  end_live : (o : Option Part) → EndLive e s o → EndLive d s' o
  end_live None h = tt
  end_live (Some p) h = part_live p h

  cell_live : (c : FrozenCell) → CellLive e s c → CellLive d s' c
  cell_live (Open k) h = tt
  cell_live (Built b ps) h = parts_live ps h
  cell_live (Row fs end) h = (fields_live fs h.0, end_live end h.1)

  pub outer_live : (frozen : Frozen) → OuterLive e s frozen → OuterLive d s' frozen
  outer_live frozen h = record { cells = λ i l. cell_live (cell_at frozen.cells i) (h.cells i l); root = part_live frozen.root h.root }
