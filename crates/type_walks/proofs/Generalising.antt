-- What is frozen of a definition says what its items say.
use Rattle.std.proofs.Common.{◌≡◌, ℕ, ◌+◌, List, [], ◌∷◌, false, Option, refl, sym, ap, ◌∙◌, arith}
use Rattle.elm_type.specs.Ground.{value}
use Rattle.type_items.specs.Items.{Place, Wanted, Item}
use Rattle.type_items.specs.Solutions.{Solves}
use Rattle.type_items.specs.Principal.{unscoped}
use Rattle.elm_type.specs.Classes.{Ground}
use Rattle.type_store.specs.Store.{Store, slot_at}
use Rattle.type_store.specs.Solutions.{Values, Fit}
use Rattle.type_store.specs.Shape.{IsStore}
use Rattle.type_store.specs.Laws.{EachChoiceFits}
use Rattle.type_walks.specs.Regions.{below}
use Rattle.type_walks.specs.Links.{Types, AreGround, Links, Linked, Has, Live, AreLive, Agree, Away, Within}
use Rattle.type_walks.specs.Walks.{Around, Walk}
use Rattle.type_walks.proofs.Linking.{live_later, later_itself, all_live_later, linked_agree, away_same}
use Rattle.type_walks.specs.Frozen.{Frozen, Part, Inner, Outer, cell_at, part_value, FitsFrozen, PartIs, PartAt, Freezes}
use Rattle.type_walks.specs.Says.{Copied, Listed, Says}
use Rattle.type_walks.specs.TypeCopiesLaws.{deeper, Generalises}
use Rattle.type_walks.proofs.Cells.{cell_forth}
use Rattle.type_walks.proofs.Thawing.{thawed, thawed_fit, thawed_agree, thawed_part, thawed_clean}

below_root : (q : Place) → below q [] ≡ false
below_root [] = refl
below_root (k ∷ q) = refl

module _ (choice_fits : EachChoiceFits) (a : Around) (s s' : Store) (links : Links) (frozen : Frozen) (list : Place → List Item)
    (type : Place → Wanted) (after : Place → Links) (v : ℕ) (place : ℕ → ℕ) (number : ℕ → Option ℕ) (shape : IsStore s')
    (within : Within a.constants s') (live : AreLive a.depth s links)
    (walks : (q : Place) → Walk (deeper a) (below q) (list q) s links s' (after q)) (has : (q : Place) → Has (after q) v (type q))
    (fz : Freezes a.depth s' frozen.cells place number) (root : PartIs a.depth s' number v frozen.root) where
  live_up : (w : ℕ) → Live a.depth s w → Live (a.depth + 1) s w
  live_up w l = live_later (a.depth + 1) a.depth s s w (later_itself s) (omega arith) l

  all_up : (ls : Links) → AreLive a.depth s ls → AreLive (a.depth + 1) s ls
  all_up [] h = tt
  all_up (l ∷ ls) h = (live_up l.0 h.0, all_up ls h.1)

  module _ (τ σ : Values) (f : Fit τ s') (outer : (u : ℕ) → Live a.depth s' u → τ.types u ≡ σ.types u) where
    abbrev inner : ℕ → Ground
    inner i = τ.types (place i)

    end_forth : (u : ℕ) (p : Part) → PartAt a.depth s' number u p → τ.types u ≡ part_value σ inner p
    end_forth u (Inner j) h = ap τ.types (sym (fz.placed u j h).1)
    end_forth u (Outer w) h = outer u h.1 ∙ ap σ.types (sym h.0)

    part_forth : (w : ℕ) (p : Part) → PartIs a.depth s' number w p → τ.types w ≡ part_value σ inner p
    part_forth w p h = h.same.same τ f ∙ end_forth h.end p h.is

    cells_forth : FitsFrozen σ inner frozen.cells
    cells_forth = record {
      each = λ i l.
          cell_forth a.depth s' number τ σ inner i (λ w p h b. part_forth w p h) (cell_at frozen.cells i) (slot_at s' (place i))
          (τ.types (place i)) (fz.are i l) (fz.before i l) (f.each (place i));
    }

  general_most : (q : Place) (σ : Values) (types : Types) → Fit σ s' → AreGround types → Away (below q) a.constants σ
      → Linked links σ types → Solves types (unscoped (list q)) → Copied frozen σ (value types (type q))
  general_most q σ types f g away linked sol =
      let w = walks q in
      let b = w.back σ f in
      let low = linked_agree (a.depth + 1) s links σ b.values types (all_up links live) b.agree linked in
      let off = away_same (below q) a.constants σ b.values b.agree.constants away in
      let o = w.complete b.values types b.fit g off low sol in
      let agree = λ (x : ℕ) (l : Live a.depth s x). sym (b.agree.types x (live_up x l) ∙ o.agree.types x (live_up x l)) in
      let outer = λ (u : ℕ) (l : Live a.depth s' u). (w.determined a.depth u (omega arith) l).same o.values σ o.fit f agree in
      record {
        inner = inner o.values σ o.fit outer;
        fits = cells_forth o.values σ o.fit outer;
        root = sym (part_forth o.values σ o.fit outer v frozen.root root) ∙ (has q).same o.values types o.linked;
      }

  module _ (σ : Values) (copy : ℕ → Ground) (f : Fit σ s') (g : FitsFrozen σ copy frozen.cells) where
    abbrev τ : Values
    τ = thawed choice_fits a.depth s' shape frozen.cells place number fz σ copy f g

    τ_agree : Agree a.depth s' σ τ
    τ_agree = thawed_agree choice_fits a.depth s' shape frozen.cells place number fz σ copy f g

    general_each : (q : Place) → Away (below q) a.constants σ → Listed a q s' links (list q) (type q) frozen σ copy
    general_each q away =
        let w = walks q in
        let off = away_same (below q) a.constants σ τ τ_agree.constants away in
        let fill = w.sound τ (thawed_fit choice_fits a.depth s' shape frozen.cells place number fz σ copy f g) off in
        let low = λ (all : Types) (h : Linked links σ all).
        linked_agree a.depth s' links σ τ all (all_live_later a.depth s s' links w.later live) τ_agree h in
        record {
          types = fill.types;
          ground = fill.ground;
          root = λ all c h.
              sym ((has q).same τ all (fill.linked all c (low all h)))
              ∙ thawed_part choice_fits a.depth s' shape frozen.cells place number fz σ copy f g v frozen.root root;
          solves = λ all c h. fill.solves all c (low all h);
          kept = λ all c h clean copies.
              fill.kept all c (low all h)
              (thawed_clean choice_fits a.depth s' shape frozen.cells place number fz σ copy f g (below q) a.constants (below_root q) within clean copies away (a.depth + 1));
        }

  general : Says a s' links frozen list type
  general = record { most = general_most; each = λ q σ copy f away g. general_each σ copy f g q away }

pub generalises : EachChoiceFits → Generalises
generalises choice_fits a s s' links frozen list type after v place number shape within live walks has fz root =
    general choice_fits a s s' links frozen list type after v place number shape within live walks has fz root
