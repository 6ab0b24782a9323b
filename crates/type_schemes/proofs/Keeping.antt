-- What is frozen can be copied.
use Rattle.std.proofs.Common.{◌≡◌, ℕ, List, [], ◌∷◌, map, Option, Some, None, refl, sym, ap, ◌∙◌, subst}
use Rattle.std.specs.List.{AllByRecursion, AllZip}
use Rattle.elm_type.specs.Types.{Made, MoreField, types_of}
use Rattle.elm_type.specs.Classes.{Ground}
use Rattle.elm_type.specs.Rows.{extend}
use Rattle.elm_type.specs.Ground.{lacks_all}
use Rattle.type_store.specs.Store.{FieldSlot, Slot, Store, slot_at}
use Rattle.type_store.specs.Solutions.{Values, Fit}
use Rattle.type_walks.specs.Links.{Live, Agree}
use Rattle.type_walks.specs.Frozen.{Part, Inner, Outer, FieldPart, FrozenCell, Open, Built, Row, Frozen, cell_at, part_value, fields_value, end_value, part_names, FrozenSays, FitsFrozen, PartAt, PartIs, FieldIs, EndIs, CellIs, IsBefore, EndBefore, CellBefore, PartLive, EndLive, CellLive}
use Rattle.type_walks.proofs.Cells.{cell_forth}
use Rattle.type_schemes.specs.Freezing.{IsFrozen}
use Rattle.type_schemes.specs.TypeFreezingLaws.{FrozenIsLive, FrozenCanCopy, CanCopyLater}

-- ---- cells whose parts have the same types

abbrev pub EndAll : (Part → Type 0) → Option Part → Type 0
EndAll P None = Unit {0}
EndAll P (Some p) = P p

abbrev pub CellAll : (Part → Type 0) → FrozenCell → Type 0
CellAll P (Open k) = Unit {0}
CellAll P (Built h ps) = AllByRecursion P ps
CellAll P (Row fs end) = AllByRecursion (λ f. P f.1) fs × EndAll P end

module _ (σ τ : Values) (inner copy : ℕ → Ground) (P : Part → Type 0) (same : (p : Part) → P p → part_value σ inner p ≡ part_value τ copy p) where
  parts_same : (ps : List Part) → AllByRecursion P ps → map (part_value σ inner) ps ≡ map (part_value τ copy) ps
  parts_same [] h = refl
  parts_same (p ∷ ps) h = ap (λ t. t ∷ map (part_value σ inner) ps) (same p h.0) ∙ ap (λ ts. part_value τ copy p ∷ ts) (parts_same ps h.1)

  fields_same : (fs : List FieldPart) → AllByRecursion (λ (f : FieldPart). P f.1) fs → fields_value σ inner fs ≡ fields_value τ copy fs
  fields_same [] h = refl
  fields_same (f ∷ fs) h =
      ap (λ t. MoreField f.0 t (fields_value σ inner fs)) (same f.1 h.0) ∙ ap (MoreField f.0 (part_value τ copy f.1)) (fields_same fs h.1)

  end_same : (e : Option Part) → EndAll P e → end_value σ inner e ≡ end_value τ copy e
  end_same None h = refl
  end_same (Some p) h = same p h

  pub cell_still : (c : FrozenCell) (t : Ground) → CellAll P c → FrozenSays σ inner t c → FrozenSays τ copy t c
  cell_still (Open k) t h says = says
  cell_still (Built b ps) t h says = says ∙ ap (λ ts. Made b (types_of ts)) (parts_same ps h)
  cell_still (Row fs end) t h says = (
    says.0 ∙ (ap (λ xs. extend xs (end_value σ inner end)) (fields_same fs h.0) ∙ ap (extend (fields_value τ copy fs)) (end_same end h.1)),
    ap (lacks_all (part_names fs)) (sym (end_same end h.1)) ∙ says.1,
  )

live_end : (d : ℕ) (s : Store) (e : Option Part) → EndLive d s e → EndAll (PartLive d s) e
live_end d s None h = h
live_end d s (Some p) h = h

pub live_all : (d : ℕ) (s : Store) (c : FrozenCell) → CellLive d s c → CellAll (PartLive d s) c
live_all d s (Open k) h = h
live_all d s (Built b ps) h = h
live_all d s (Row fs end) h = (h.0, live_end d s end h.1)

before_end : (n : ℕ) (e : Option Part) → EndBefore n e → EndAll (IsBefore n) e
before_end n None h = h
before_end n (Some p) h = h

pub before_all : (n : ℕ) (c : FrozenCell) → CellBefore n c → CellAll (IsBefore n) c
before_all n (Open k) h = h
before_all n (Built b ps) h = h
before_all n (Row fs end) h = (h.0, before_end n end h.1)

-- ---- the variables of the store are in use

module _ (d : ℕ) (s : Store) (number : ℕ → Option ℕ) where
  part_live : (w : ℕ) (p : Part) → PartIs d s number w p → PartLive d s p
  part_live w p h = go p h.is
    where
      go : (p : Part) → PartAt d s number h.end p → PartLive d s p
      go (Inner i) e = tt
      go (Outer v) e = subst (Live d s) (sym e.0) e.1

  parts_live : (ws : List ℕ) (ps : List Part) → AllZip (PartIs d s number) ws ps → AllByRecursion (PartLive d s) ps
  parts_live ws [] h = tt
  parts_live [] (p ∷ ps) h = absurd h
  parts_live (w ∷ ws) (p ∷ ps) h = (part_live w p h.0, parts_live ws ps h.1)

  fields_live : (gs : List FieldSlot) (fs : List FieldPart) → AllZip (FieldIs d s number) gs fs → AllByRecursion (λ (f : FieldPart). PartLive d s f.1) fs
  fields_live gs [] h = tt
  fields_live [] (f ∷ fs) h = absurd h
  fields_live (g ∷ gs) (f ∷ fs) h = (part_live g.1 f.1 h.0.1, fields_live gs fs h.1)

  end_live : (e : Option ℕ) (p : Option Part) → EndIs d s number e p → EndLive d s p
  end_live e None h = tt
  end_live None (Some p) h = absurd h
  end_live (Some w) (Some p) h = part_live w p h

  cell_live : (slot : Slot) (c : FrozenCell) → CellIs d s number slot c → CellLive d s c
  cell_live slot (Open k) h = tt
  cell_live slot (Built b ps) h = parts_live h.parts ps h.each
  cell_live slot (Row fs end) h = (fields_live h.fields fs h.each, end_live h.rest end h.last)

pub frozen_live : FrozenIsLive
frozen_live d s v frozen h = record {
  cells = λ i l. cell_live d s h.number (slot_at s (h.place i)) (cell_at frozen.cells i) (h.freezes.are i l);
  root = part_live d s h.number v frozen.root h.root;
}

-- ---- it has types, whatever those of the store are

module _ (d : ℕ) (s : Store) (v : ℕ) (frozen : Frozen) (h : IsFrozen d s v frozen) (σ : Values) (f : Fit σ s) where
  abbrev inner : ℕ → Ground
  inner i = σ.types (h.place i)

  part_has : (w : ℕ) (p : Part) → PartIs d s h.number w p → σ.types w ≡ part_value σ inner p
  part_has w p k = k.same.same σ f ∙ go p k.is
    where
      go : (p : Part) → PartAt d s h.number k.end p → σ.types k.end ≡ part_value σ inner p
      go (Inner i) e = ap σ.types (sym (h.freezes.placed k.end i e).1)
      go (Outer u) e = ap σ.types (sym e.0)

  frozen_fits : FitsFrozen σ inner frozen.cells
  frozen_fits = record {
    each = λ i l.
        cell_forth d s h.number σ σ inner i (λ w p k b. part_has w p k) (cell_at frozen.cells i) (slot_at s (h.place i)) (σ.types (h.place i))
        (h.freezes.are i l) (h.freezes.before i l) (f.each (h.place i));
  }

pub frozen_can : FrozenCanCopy
frozen_can d s v frozen h = record { each = λ σ f. (inner d s v frozen h σ f, frozen_fits d s v frozen h σ f) }

-- ---- and so it has in later stores

part_agrees : (d : ℕ) (s : Store) (σ τ : Values) (copy : ℕ → Ground) → Agree d s σ τ → (p : Part) → PartLive d s p → part_value τ copy p ≡ part_value σ copy p
part_agrees d s σ τ copy a (Inner i) h = refl
part_agrees d s σ τ copy a (Outer v) h = sym (a.types v h)

pub can_later : CanCopyLater
can_later a R items s s' before after frozen live walk can = record {
  each = λ σ f. (
      let b = walk.back σ f in
      let c = can.each b.values b.fit in (
        c.0,
        record {
          each = λ i l.
              cell_still b.values σ c.0 c.0 (PartLive a.depth s) (part_agrees a.depth s σ b.values c.0 b.agree) (cell_at frozen.cells i) (c.0 i)
              (live_all a.depth s (cell_at frozen.cells i) (live.cells i l)) (c.1.each i l);
        },
      ));
}
