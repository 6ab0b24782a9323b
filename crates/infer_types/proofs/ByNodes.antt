-- A type is written, node by node.
use Rattle.std.proofs.Common.{◌≡◌, ℕ, zero, suc, ◌<◌, List, [], ◌∷◌, ◌++◌, length, map, take, drop, Some}
use Rattle.std.proofs.Common.{None, refl, sym, ap, ◌∙◌, subst, arith}
use Rattle.std.specs.Prelude.{slice_index, All}
use Rattle.std.proofs.lemmas.List.Elements.{All-cons, All-nil}
use Rattle.std.specs.List.{AllByRecursion, AllZip}
use Rattle.elm_type.specs.Types.{Name, Closed, Over, Made, Record, NoField, Free}
use Rattle.elm_type.specs.Rows.{extend}
use Rattle.elm_type.specs.Spelling.{Read, read_types, read_fields, read_node}
use Rattle.elm_type.specs.declared.head.Head.{Head}
use Rattle.elm_type.specs.declared.node.Node.TheVariants as node
use Rattle.elm_type.specs.declared.node.Leaf.TheVariants as leaf
use Rattle.type_items.specs.Items.{Wanted}
use Rattle.type_store.specs.Store.{FieldSlot, Row, Store, field_names, field_slots}
use Rattle.type_store.specs.Shape.{Ascending, IsCell, IsStore}
use Rattle.type_walks.specs.Links.{Links, Live, Has}
use Rattle.type_walks.proofs.Linking.{live_later, later_itself, agree_itself}
use Rattle.type_walks.proofs.Walking.{rests}
use Rattle.infer_steps.specs.Codes.{State}
use Rattle.infer_steps.specs.Ready.{Follows}
use Rattle.infer_steps.specs.Made.{IsMade, OfHead, OfRow}
use Rattle.infer_types.specs.Stacks.{slots}
use Rattle.infer_types.specs.Writing.{leaf_type, written, first_named, Waits, NodeWritten}
use Rattle.infer_types.proofs.Waiting.{types_read, parts_written, fields_written, parts_have, fields_have, zip_take}
use Rattle.infer_types.proofs.Waiting.{zip_drop, waits_more, leaf_has, drop_slots_names}

module _ (old new : State) (f : Follows old new) where
  pub live_on : (v : ℕ) → Live old.depth old.store v → Live new.depth new.store v
  live_on v l = live_later new.depth old.depth old.store new.store v f.later (omega (arith, f.depth)) l

  pub left_live : (n : ℕ) (before : List FieldSlot) → AllByRecursion (Live old.depth old.store) (slots before)
      → AllByRecursion (Live new.depth new.store) (slots (drop n before))
  left_live zero [] h = tt
  left_live zero (x ∷ xs) h = (live_on x.1 h.0, left_live zero xs h.1)
  left_live (suc n) [] h = tt
  left_live (suc n) (x ∷ xs) h = left_live n xs h.1

module _ (leaves : List ℕ) (before : List FieldSlot) (old new : State)
    (live : AllByRecursion (Live old.depth old.store) (slots before)) (n v : ℕ) where
  -- a type of a head
  pub made_node : (h : Head) → IsMade old new v (OfHead h (slots (take n before)))
      → NodeWritten leaves (node.Made h n) before old (([], v) ∷ drop n before) new
  made_node h m = record {
    follows = m.follows;
    live = (m.live, left_live old new m.follows n before live);
    names = ap (λ xs. [] ∷ xs) (drop_slots_names n before);
    typed = λ a links types rs depth around has waits. (
        let t = m.typed a links (written types (Made h (read_types (take n rs)))) depth around (record {
          parts = types_read types (take n rs);
          has = parts_have types links (take n before) (take n rs) (zip_take (Waits types links) n before rs waits);
          is = ap (Made h) (parts_written types (take n rs));
        }) in
        record {
          after = t.after;
          walk = t.walk;
          tells = t.tells;
          each = (
            (refl, t.has),
            waits_more types links t.after t.tells (drop n before) (drop n rs)
                (zip_drop (Waits types links) n before rs waits),
          );
        });
  }

  -- a closed record
  pub record_node : IsMade old new v (OfRow (take n before) None)
      → NodeWritten leaves (node.Record n) before old (([], v) ∷ drop n before) new
  record_node m = record {
    follows = m.follows;
    live = (m.live, left_live old new m.follows n before live);
    names = ap (λ xs. [] ∷ xs) (drop_slots_names n before);
    typed = λ a links types rs depth around has waits. (
        let taken = zip_take (Waits types links) n before rs waits in
        let t = m.typed a links (written types (Record (read_fields (take n rs)) Closed)) depth around (record {
          types = types_read types (take n rs);
          rest = None;
          has = fields_have types links (take n before) (take n rs) taken;
          rest_has = tt;
          is = ap (λ fs. extend fs (Record NoField Closed))
              (fields_written types links (take n before) (take n rs) taken);
        }) in
        record {
          after = t.after;
          walk = t.walk;
          tells = t.tells;
          each = (
            (refl, t.has),
            waits_more types links t.after t.tells (drop n before) (drop n rs)
                (zip_drop (Waits types links) n before rs waits),
          );
        });
  }

  -- a record over a variable
  pub open_node : (i : ℕ) → i < length leaves → IsMade old new v (OfRow (take n before) (Some (slice_index leaves i)))
      → NodeWritten leaves (node.Open (leaf.Free i) n) before old (([], v) ∷ drop n before) new
  open_node i l m = record {
    follows = m.follows;
    live = (m.live, left_live old new m.follows n before live);
    names = ap (λ xs. [] ∷ xs) (drop_slots_names n before);
    typed = λ a links types rs depth around has waits. (
        let taken = zip_take (Waits types links) n before rs waits in
        let t = m.typed a links (written types (Record (read_fields (take n rs)) (Over (Free i)))) depth around
        (record {
          types = types_read types (take n rs);
          rest = Some (leaf_type types (Free i));
          has = fields_have types links (take n before) (take n rs) taken;
          rest_has = leaf_has links leaves types i l has;
          is = ap (λ fs. extend fs (leaf_type types (Free i)))
              (fields_written types links (take n before) (take n rs) taken);
        }) in
        record {
          after = t.after;
          walk = t.walk;
          tells = t.tells;
          each = (
            (refl, t.has),
            waits_more types links t.after t.tells (drop n before) (drop n rs)
                (zip_drop (Waits types links) n before rs waits),
          );
        });
  }

-- ---- nodes that make nothing

extend_none : (t : Wanted) → extend NoField t ≡ t
extend_none (Made h ts) = refl
extend_none (Record fs end) = refl

none_taken : {X Y : Type 0} (R : X → Y → Type 0) (xs : List X) (ys : List Y) → xs ≡ [] → AllZip R xs ys → ys ≡ []
none_taken R [] [] e h = refl
none_taken R [] (y ∷ ys) e h = absurd h
none_taken R (x ∷ xs) ys e h = absurd cc

module _ (leaves : List ℕ) (before : List FieldSlot) (s : State) (itself : Follows s s)
    (live : AllByRecursion (Live s.depth s.store) (slots before)) where
  -- a variable
  pub leaf_node : (i n : ℕ) → i < length leaves → Live s.depth s.store (slice_index leaves i) → take n before ≡ []
      → NodeWritten leaves (node.Open (leaf.Free i) n) before s (([], slice_index leaves i) ∷ drop n before) s
  leaf_node i n l here none = record {
    follows = itself;
    live = (here, left_live s s itself n before live);
    names = ap (λ xs. [] ∷ xs) (drop_slots_names n before);
    typed = λ a links types rs depth around has waits. (
        let taken = zip_take (Waits types links) n before rs waits in
        let blank : take n rs ≡ [] = none_taken (Waits types links) (take n before) (take n rs) none taken in
        let is : written types (Record (read_fields (take n rs)) (Over (Free i))) ≡ leaf_type types (Free i) =
        ap (λ qs. written types (Record (read_fields qs) (Over (Free i)))) blank ∙ extend_none
        (leaf_type types (Free i)) in
        let own = leaf_has links leaves types i l has in
        record {
          after = links;
          walk = rests a s.store links;
          tells = record { each = λ σ all h. h };
          each = (
            (refl, subst (Has links (slice_index leaves i)) (sym is) own),
            zip_drop (Waits types links) n before rs waits,
          );
        });
  }

  -- the name of a field
  pub field_node : (k : Name) (x : FieldSlot) (xs : List FieldSlot) → before ≡ x ∷ xs
      → NodeWritten leaves (node.Field k) before s ((k, x.1) ∷ xs) s
  field_node k x xs is = record {
    follows = itself;
    live = subst (λ fs. AllByRecursion (Live s.depth s.store) (slots fs)) is live;
    names = ap (λ fs. first_named k (map (λ f. f.0) fs)) (sym is);
    typed = λ a links types rs depth around has waits. record {
      after = links;
      walk = rests a s.store links;
      tells = record { each = λ σ all h. h };
      each = renamed types links rs (subst (λ fs. AllZip (Waits types links) fs rs) is waits);
    };
  }
    where
      renamed : (types : List Wanted) (links : Links) (rs : Read) → AllZip (Waits types links) (x ∷ xs) rs
          → AllZip (Waits types links) ((k, x.1) ∷ xs) (read_node (node.Field k) rs)
      renamed types links [] h = absurd h
      renamed types links (r ∷ rs) h = ((refl, h.0.1), h.1)

  pub nothing_named : (k : Name) → before ≡ [] → NodeWritten leaves (node.Field k) before s [] s
  nothing_named k is = record {
    follows = itself;
    live = tt;
    names = ap (λ fs. first_named k (map (λ f. f.0) fs)) (sym is);
    typed = λ a links types rs depth around has waits. record {
      after = links;
      walk = rests a s.store links;
      tells = record { each = λ σ all h. h };
      each = none types links rs (subst (λ fs. AllZip (Waits types links) fs rs) is waits);
    };
  }
    where
      none : (types : List Wanted) (links : Links) (rs : Read) → AllZip (Waits types links) [] rs
          → AllZip (Waits types links) [] (read_node (node.Field k) rs)
      none types links [] h = tt
      none types links (r ∷ rs) h = absurd h

-- ---- what the store asks

pub inside_all : (d : ℕ) (s : Store) (vs : List ℕ) → AllByRecursion (Live d s) vs → All (λ w. w < length s) vs
inside_all d s [] h = All-nil (λ w. w < length s)
inside_all d s (v ∷ vs) h = All-cons (λ w. w < length s) v vs h.0.inside (inside_all d s vs h.1)

pub taken_live : (d : ℕ) (s : Store) (n : ℕ) (fs : List FieldSlot) → AllByRecursion (Live d s) (slots fs)
    → AllByRecursion (Live d s) (slots (take n fs))
taken_live d s zero fs h = tt
taken_live d s (suc n) [] h = tt
taken_live d s (suc n) (f ∷ fs) h = (h.0, taken_live d s n fs h.1)

pub closed_inside : (d : ℕ) (s : Store) (fs : List FieldSlot) → AllByRecursion (Live d s) (slots fs)
    → All (λ w. w < length s) (field_slots fs ++ [])
closed_inside d s [] h = All-nil (λ w. w < length s)
closed_inside d s (f ∷ fs) h =
    All-cons (λ w. w < length s) f.1 (field_slots fs ++ []) h.0.inside (closed_inside d s fs h.1)

pub open_inside : (d : ℕ) (s : Store) (fs : List FieldSlot) (w : ℕ) → AllByRecursion (Live d s) (slots fs) → Live d s w
    → All (λ u. u < length s) (field_slots fs ++ w ∷ [])
open_inside d s [] w h l = All-cons (λ u. u < length s) w [] l.inside (All-nil (λ u. u < length s))
open_inside d s (f ∷ fs) w h l =
    All-cons (λ u. u < length s) f.1 (field_slots fs ++ w ∷ []) h.0.inside (open_inside d s fs w h.1 l)

pub closed_cell : (fs : List FieldSlot) → Ascending (field_names fs) → IsCell 0 (Row fs None)
closed_cell [] h = tt
closed_cell (f ∷ fs) h = h

pub open_cell : (fs : List FieldSlot) (w : ℕ) → (fs ≡ [] → ⊥) → Ascending (field_names fs) → IsCell 0 (Row fs (Some w))
open_cell [] w some h = absurd (some refl)
open_cell (f ∷ fs) w some h = h

pub at_leaf : (d : ℕ) (s : Store) (leaves : List ℕ) (i : ℕ) → i < length leaves → AllByRecursion (Live d s) leaves
    → Live d s (slice_index leaves i)
at_leaf d s [] i l h = absurd (omega arith)
at_leaf d s (v ∷ vs) zero l h = h.0
at_leaf d s (v ∷ vs) (suc i) l h = at_leaf d s vs i (omega arith) h.1

pub itself : (s : State) → IsStore s.store → Follows s s
itself s whole = record {
  place = refl;
  depth = refl;
  whole = whole;
  later = later_itself s.store;
  back = λ σ f. record { values = σ; fit = f; agree = agree_itself s.depth s.store σ };
}
