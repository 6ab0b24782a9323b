-- The type of a variable is formed, and it lacks the fields that the variable lacks.
use Rattle.std.proofs.Common.{◌≡◌, ℕ, List, [], ◌∷◌, ◌++◌, map, length, true, false, Some, None, refl, sym, ap, ◌∙◌}
use Rattle.std.proofs.Common.{subst, ⊎_elim}
use Rattle.std.specs.Prelude.{◌||◌}
use Rattle.std.specs.Str.{bytes_eq}
use Rattle.std.specs.List.{All, AllByRecursion}
use Rattle.std.proofs.lemmas.Bool.{cases_lt}
use Rattle.std.proofs.lemmas.List.Elements.{All-head, All-tail}
use Rattle.elm_type.specs.Types.{Name, Fields, Closed, Made, Record, NoField, types_of, Leaf, Kind}
use Rattle.elm_type.specs.Rows.{name_lt, has_field, is_under, rise, extend}
use Rattle.elm_type.specs.Ground.{contains}
use Rattle.type_items.specs.Principal.{is_formed, are_formed, fields_formed}
use Rattle.type_store.specs.Store.{FieldSlot, Cell, Open, Bound, Built, Row, Constant, Slot, Store, slot_at}
use Rattle.type_store.specs.Store.{field_slots, field_names}
use Rattle.type_store.specs.Shape.{Ascending, AllIn, IsCell, IsStore, Spread, parts_of}
use Rattle.type_store.specs.Steps.{is_bound}
use Rattle.type_store.proofs.Lacking.{at_contained, none_contained, has_all}
use Rattle.type_store.proofs.Parts.{slot_past, all_first, all_second}
use Rattle.type_store.proofs.RowsMeet.{and_both}
use Rattle.type_schemes.specs.Ends.{end_of}
use Rattle.type_schemes.specs.Order.{IsListed, PartsFirst}
use Rattle.type_schemes.specs.Reading.{Graph, read_row, read_cell, read_in}
use Rattle.type_schemes.specs.Bases.{type_in}
use Rattle.type_schemes.proofs.InOrder.{kinds_of, kind_here}
use Rattle.type_constructs.proofs.Inserting.{LacksField, LacksEach, formed_extended}
use Rattle.type_constructs.proofs.ToldReadingParts.{to_end, of_listed}

-- ---- the fields of a row

module _ (f : ℕ → Graph) where
  has_read : (x : Name) (fs : List FieldSlot) → has_field x (read_row f fs) ≡ contains x (field_names fs)
  has_read x [] = refl
  has_read x (g ∷ fs) = ap (λ b. bytes_eq x g.0 || b) (has_read x fs)

  under_read : (x : Name) (fs : List FieldSlot) → All (λ y. name_lt x y ≡ true) (field_names fs)
      → is_under x (read_row f fs) ≡ true
  under_read x [] h = refl
  under_read x (g ∷ fs) h = All-head (λ y. name_lt x y ≡ true) g.0 (field_names fs) h

  rise_read : (fs : List FieldSlot) → Ascending (field_names fs) → rise (read_row f fs) ≡ true
  rise_read [] a = refl
  rise_read (g ∷ fs) a =
      and_both (is_under g.0 (read_row f fs)) (rise (read_row f fs)) (under_read g.0 fs a.0) (rise_read fs a.1)

module _ (s : Store) (whole : IsStore s) where
  spread_at : (v : ℕ) → Spread s (slot_at s v).kind (slot_at s v).cell
  spread_at v =
      ⊎_elim (λ l. (whole.each v l).spread) (λ h. subst (λ (x : Slot). Spread s x.kind x.cell) (sym (slot_past s v h))
      tt) (cases_lt v (length s))

  -- what is known of a variable is known of the end of its chain
  lacks_end : (v : ℕ) (x : Name) → contains x (slot_at s v).kind.lacks ≡ true
      → contains x (slot_at s (end_of s v)).kind.lacks ≡ true
  lacks_end v =
      to_end s (λ v u. (x : Name) → contains x (slot_at s v).kind.lacks ≡ true → contains x (slot_at s u).kind.lacks ≡
      true) (λ v x h. h)
      (λ v w u e next x h. (
      let sp : Spread s (slot_at s v).kind (Bound w) = subst (Spread s (slot_at s v).kind) e (spread_at v) in
      next x (at_contained (λ y. contains y (slot_at s w).kind.lacks ≡ true) x (slot_at s v).kind.lacks h sp.1))) v

  -- the type of a variable
  pub record IsGood (v : ℕ) (t : Graph) : Type 0 where
    pub formed : is_formed (kinds_of s) t ≡ true
    pub lacks : (x : Name) → contains x (slot_at s v).kind.lacks ≡ true → LacksField (kinds_of s) x t

  module _ (f : ℕ → Graph) where
    abbrev GoodPart : ℕ → Type 0
    GoodPart w = IsGood (end_of s w) (f w)

    all_formed : (ws : List ℕ) → AllByRecursion GoodPart ws → are_formed (kinds_of s) (types_of (map f ws)) ≡ true
    all_formed [] h = refl
    all_formed (w ∷ ws) h =
        and_both (is_formed (kinds_of s) (f w)) (are_formed (kinds_of s) (types_of (map f ws))) h.0.formed
        (all_formed ws h.1)

    row_formed : (fs : List FieldSlot) (ws : List ℕ) → AllByRecursion GoodPart (field_slots fs ++ ws)
        → fields_formed (kinds_of s) (read_row f fs) ≡ true
    row_formed [] ws h = refl
    row_formed (g ∷ fs) ws h =
        and_both (is_formed (kinds_of s) (f g.1)) (fields_formed (kinds_of s) (read_row f fs)) h.0.formed
        (row_formed fs ws h.1)

    end_good : (fs : List FieldSlot) (w : ℕ) → AllByRecursion GoodPart (field_slots fs ++ w ∷ []) → GoodPart w
    end_good [] w h = h.0
    end_good (g ∷ fs) w h = end_good fs w h.1

    -- what a row is over lacks its fields
    lacks_each : (w : ℕ) (fs : List FieldSlot) → AllIn (field_names fs) (slot_at s w).kind.lacks → GoodPart w
        → LacksEach (kinds_of s) (read_row f fs) (f w)
    lacks_each w [] h g = tt
    lacks_each w (x ∷ fs) h g = (
      g.lacks x.0 (lacks_end w x.0 (All-head (λ y. contains y (slot_at s w).kind.lacks ≡ true) x.0 (field_names fs) h)),
      lacks_each w fs (All-tail (λ y. contains y (slot_at s w).kind.lacks ≡ true) x.0 (field_names fs) h) g,
    )

    closed_each : (fs : List FieldSlot) → LacksEach (kinds_of s) (read_row f fs) (Record NoField Closed)
    closed_each [] = tt
    closed_each (x ∷ fs) = ((refl, refl), closed_each fs)

    extended_lacks : (x : Name) (fs : Fields (Leaf ℕ)) (t : Graph) → has_field x fs ≡ false
        → LacksField (kinds_of s) x t → LacksField (kinds_of s) x (extend fs t)
    extended_lacks x fs (Made h ts) e l = l
    extended_lacks x fs (Record gs end) e l = (has_all x fs gs ∙ (ap (λ b. b || has_field x gs) e ∙ l.0), l.1)

    cell_good : (v : ℕ) (c : Cell) → (slot_at s v).cell ≡ c → IsCell v c → Spread s (slot_at s v).kind c
        → is_bound c ≡ false
        → AllByRecursion GoodPart (parts_of c) → IsGood v (read_cell f v c)
    cell_good v Open e i sp b h = record {
      formed = refl;
      lacks = λ x k. (refl, ap (λ (y : Kind). contains x y.lacks) (kind_here s v) ∙ k);
    }
    cell_good v (Bound w) e i sp b h = absurd (cc)
    cell_good v (Built k ws) e i sp b h = record {
      formed = all_formed ws h;
      lacks = λ x c. absurd (let y : contains x [] ≡ true = ap (contains x) (sym sp.0) ∙ c in cc);
    }
    cell_good v (Row [] None) e i sp b h = record { formed = refl; lacks = λ x c. (refl, refl) }
    cell_good v (Row [] (Some w)) e i sp b h = absurd i
    cell_good v (Row (g ∷ fs) None) e i sp b h = record {
      formed =
          formed_extended (kinds_of s) (read_row f (g ∷ fs)) (Record NoField Closed) (rise_read f (g ∷ fs) i)
          (row_formed (g ∷ fs) [] h) (closed_each (g ∷ fs)) refl;
      lacks = λ x c.
          extended_lacks x (read_row f (g ∷ fs)) (Record NoField Closed)
          (has_read f x (g ∷ fs) ∙ none_contained x (field_names (g ∷ fs)) (slot_at s v).kind.lacks sp.1 c)
          (refl, refl);
    }
    cell_good v (Row (g ∷ fs) (Some w)) e i sp b h =
        let part = end_good (g ∷ fs) w h in record {
          formed =
              formed_extended (kinds_of s) (read_row f (g ∷ fs)) (f w) (rise_read f (g ∷ fs) i)
              (row_formed (g ∷ fs) (w ∷ []) h)
              (lacks_each w (g ∷ fs)
              (all_second (λ y. contains y (slot_at s w).kind.lacks ≡ true) (slot_at s v).kind.lacks
              (field_names (g ∷ fs)) sp.2) part) part.formed;
          lacks = λ x c.
              extended_lacks x (read_row f (g ∷ fs)) (f w)
              (has_read f x (g ∷ fs) ∙ none_contained x (field_names (g ∷ fs)) (slot_at s v).kind.lacks sp.1 c)
              (part.lacks x (lacks_end w x
              (at_contained (λ y. contains y (slot_at s w).kind.lacks ≡ true) x (slot_at s v).kind.lacks c
              (all_first (λ y. contains y (slot_at s w).kind.lacks ≡ true) (slot_at s v).kind.lacks
              (field_names (g ∷ fs)) sp.2))));
        }
    cell_good v (Constant r) e i sp b h = record {
      formed = refl;
      lacks = λ x c. (refl, at_contained (λ y. contains y r.lacks ≡ true) x (slot_at s v).kind.lacks c sp.1);
    }

  pub good_read : (older : List ℕ) → PartsFirst 0 s older → (v : ℕ) → IsListed older v → IsGood v (read_in s older v)
  good_read older first =
      of_listed s whole older first IsGood
      (λ v l free h. cell_good (type_in s older) v (slot_at s v).cell refl (whole.each v l).cell (spread_at v) free h)
