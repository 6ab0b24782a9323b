-- What is frozen goes on to say what the items say, and a copy of it is a walk of these.
use Rattle.std.proofs.Common.{◌≡◌, ℕ, List, [], ◌∷◌, map, Option, Some, None, refl, sym, ap, ◌∙◌}
use Rattle.std.specs.List.{AllByRecursion}
use Rattle.elm_type.specs.Types.{Made, MoreField, types_of}
use Rattle.elm_type.specs.Classes.{Ground}
use Rattle.elm_type.specs.Rows.{extend}
use Rattle.elm_type.specs.Ground.{lacks_all}
use Rattle.type_items.specs.Items.{Place, Wanted, Item, Same, InClass, Lacks, Keeps, Small, copied}
use Rattle.type_items.specs.Solutions.{Solves}
use Rattle.type_items.specs.Principal.{unscoped}
use Rattle.type_items.proofs.Parts.{solves_copied}
use Rattle.type_store.specs.Store.{Store}
use Rattle.type_store.specs.Solutions.{Values, Fit}
use Rattle.type_walks.specs.Regions.{below}
use Rattle.type_walks.specs.Links.{Types, Links, Linked, AreLive, Agree, Away}
use Rattle.type_walks.specs.Walks.{Around, Filled, Walk}
use Rattle.type_walks.proofs.Linking.{agree_itself, agree_back, agree_below, all_live_later, linked_agree, away_same, clean_earlier}
use Rattle.type_walks.specs.Frozen.{Frozen, Part, Inner, Outer, FieldPart, FrozenCell, Open, Built, Row, cell_at, part_value, fields_value, end_value, part_names, FrozenSays, FitsFrozen, PartLive, EndLive, CellLive, OuterLive}
use Rattle.type_walks.specs.Says.{Says, Instantiates}
use Rattle.type_walks.specs.TypeCopiesLaws.{SaysOfCopies, SaysLater, SaysWithMore, Copies}

-- ---- without the items on sizes

more : (all : Types) (is : List Item) → Solves all (unscoped (copied is)) → Solves all (unscoped is)
more all [] h = tt
more all (Same pos t u ∷ is) h = (h.0, more all is h.1)
more all (InClass pos t c ∷ is) h = (h.0, more all is h.1)
more all (Lacks pos t x ∷ is) h = (h.0, more all is h.1)
more all (Keeps pos r ts ∷ is) h = more all is h
more all (Small pos t ∷ is) h = (tt, more all is h)

fewer : (all : Types) (is : List Item) → Solves all (unscoped is) → Solves all (unscoped (copied is))
fewer all [] h = tt
fewer all (Same pos t u ∷ is) h = (h.0, fewer all is h.1)
fewer all (InClass pos t c ∷ is) h = (h.0, fewer all is h.1)
fewer all (Lacks pos t x ∷ is) h = (h.0, fewer all is h.1)
fewer all (Keeps pos r ts ∷ is) h = fewer all is h
fewer all (Small pos t ∷ is) h = fewer all is h.1

pub says_of_copies : SaysOfCopies
says_of_copies a s links frozen list type says = record {
  most = λ q σ types f g away linked sol. says.most q σ types f g away linked (more types (list q) sol);
  each = λ q σ inner f away g. (
      let l = says.each q σ inner f away g in
      record {
        types = l.types;
        ground = l.ground;
        root = l.root;
        solves = λ all c h. fewer all (list q) (l.solves all c h);
        kept = λ all c h clean copies. solves_copied all (list q) (l.kept all c h clean copies);
      });
}

-- ---- of later stores

module _ (d : ℕ) (s : Store) (σ τ : Values) (inner : ℕ → Ground) (agree : Agree d s σ τ) where
  part_same : (p : Part) → PartLive d s p → part_value σ inner p ≡ part_value τ inner p
  part_same (Inner i) h = refl
  part_same (Outer v) h = agree.types v h

  parts_same : (ps : List Part) → AllByRecursion (PartLive d s) ps → map (part_value σ inner) ps ≡ map (part_value τ inner) ps
  parts_same [] h = refl
  parts_same (p ∷ ps) h =
      ap (λ t. t ∷ map (part_value σ inner) ps) (part_same p h.0) ∙ ap (λ ts. part_value τ inner p ∷ ts) (parts_same ps h.1)

  fields_same : (fs : List FieldPart) → AllByRecursion (λ (f : FieldPart). PartLive d s f.1) fs → fields_value σ inner fs ≡ fields_value τ inner fs
  fields_same [] h = refl
  fields_same (f ∷ fs) h =
      ap (λ t. MoreField f.0 t (fields_value σ inner fs)) (part_same f.1 h.0)
      ∙ ap (MoreField f.0 (part_value τ inner f.1)) (fields_same fs h.1)

  end_same : (e : Option Part) → EndLive d s e → end_value σ inner e ≡ end_value τ inner e
  end_same None h = refl
  end_same (Some p) h = part_same p h

  cell_still : (c : FrozenCell) (t : Ground) → CellLive d s c → FrozenSays σ inner t c → FrozenSays τ inner t c
  cell_still (Open k) t h says = says
  cell_still (Built b ps) t h says = says ∙ ap (λ ts. Made b (types_of ts)) (parts_same ps h)
  cell_still (Row fs end) t h says = (
    says.0
        ∙ (ap (λ xs. extend xs (end_value σ inner end)) (fields_same fs h.0) ∙ ap (extend (fields_value τ inner fs)) (end_same end h.1)),
    ap (lacks_all (part_names fs)) (sym (end_same end h.1)) ∙ says.1,
  )

  cells_still : (frozen : Frozen) → OuterLive d s frozen → FitsFrozen σ inner frozen.cells → FitsFrozen τ inner frozen.cells
  cells_still frozen live fits = record { each = λ i l. cell_still (cell_at frozen.cells i) (inner i) (live.cells i l) (fits.each i l) }

pub says_later : SaysLater
says_later a R items s s' before after links frozen list type live outer walk says = record {
  most = λ q σ types f g away linked sol. (
      let b = walk.back σ f in
      let low = linked_agree a.depth s links σ b.values types live b.agree linked in
      let m = says.most q b.values types b.fit g (away_same (below q) a.constants σ b.values b.agree.constants away) low sol in
      let up = agree_back a.depth s σ b.values b.agree in
      record {
        inner = m.inner;
        fits = cells_still a.depth s b.values σ m.inner up frozen outer m.fits;
        root = part_same a.depth s σ b.values m.inner b.agree frozen.root outer.root ∙ m.root;
      });
  each = λ q σ inner f away g. (
      let b = walk.back σ f in
      let l = says.each q b.values inner b.fit (away_same (below q) a.constants σ b.values b.agree.constants away) (cells_still a.depth s σ b.values inner b.agree frozen outer g) in
      let low = λ (all : Types) (h : Linked links σ all). linked_agree a.depth s links σ b.values all live b.agree h in
      record {
        types = l.types;
        ground = l.ground;
        root = λ all c h. l.root all c (low all h) ∙ sym (part_same a.depth s σ b.values inner b.agree frozen.root outer.root);
        solves = λ all c h. l.solves all c (low all h);
        kept = λ all c h clean copies.
            l.kept all c (low all h) (clean_earlier a.depth (below q) s s' σ b.values walk.later b.agree clean) copies;
      });
}

pub says_with_more : SaysWithMore
says_with_more a s links more frozen list type tells says = record {
  most = λ q σ types f g away linked sol. says.most q σ types f g away (tells.each σ types linked) sol;
  each = λ q σ inner f away g. (
      let l = says.each q σ inner f away g in
      record {
        types = l.types;
        ground = l.ground;
        root = λ all c h. l.root all c (tells.each σ all h);
        solves = λ all c h. l.solves all c (tells.each σ all h);
        kept = λ all c h clean copies. l.kept all c (tells.each σ all h) clean copies;
      });
}

-- ---- a copy

module _ (a : Around) (s s' : Store) (links : Links) (frozen : Frozen) (list : Place → List Item) (type : Place → Wanted) (v : ℕ) (q : Place)
    (live : AreLive a.depth s links) (says : Says a s links frozen list type) (step : Instantiates a.depth s frozen v s') where
  copy_sound : (σ : Values) → Fit σ s' → Away (below q) a.constants σ → Filled a (below q) (list q) links s' ((v, type q) ∷ links) σ
  copy_sound σ f away =
      let b = step.back σ f in
      let l = says.each q σ (λ i. σ.types (step.copy i)) b.0 away b.1 in
      record {
        types = l.types;
        ground = l.ground;
        linked = λ all c h. (sym (l.root all c h ∙ b.2), h);
        solves = l.solves;
        kept = λ all c h clean.
            l.kept all c h (clean_earlier a.depth (below q) s s' σ σ step.later (agree_itself a.depth s σ) clean)
            (λ i n. clean.each (step.copy i) (step.copies i n));
      }

  copy_walk : Walk a (below q) (list q) s links s' ((v, type q) ∷ links)
  copy_walk = record {
    later = step.later;
    live = λ h. (step.live, all_live_later a.depth s s' links step.later h);
    determined = step.determined;
    back = λ σ f. record { values = σ; fit = (step.back σ f).0; agree = agree_itself a.depth s σ };
    sound = copy_sound;
    complete = λ σ types f g away linked sol. (
        let m = says.most q σ types f g away linked sol in
        let r = step.on σ m.inner f m.fits in
        let same = agree_below a.depth s σ r.0 r.2 in
        record {
          values = r.0;
          fit = r.1;
          agree = same;
          linked = (r.3 ∙ m.root, linked_agree a.depth s links σ r.0 types live same linked);
        });
  }

pub copies : Copies
copies a s s' links frozen list type v q live says step = copy_walk a s s' links frozen list type v q live says step
