-- The variables of a type: of each nothing is known, and the variable of the type leads to it.
use Rattle.std.proofs.Common.{◌≡◌, ℕ, List, [], ◌∷◌, ◌++◌, map, false, Option, Some, None, refl, sym, subst, arith}
use Rattle.std.specs.List.{AllByRecursion, Contains}
use Rattle.std.proofs.lemmas.List.Elements.{All-contains_itself, recursion_from_All}
use Rattle.elm_type.specs.Types.{variables, variables_all, variables_fields, types_of, Leaf, Free, Fixed}
use Rattle.type_store.specs.Store.{FieldSlot, Cell, Open, Bound, Built, Row, Constant, Store, slot_at, field_slots}
use Rattle.type_store.specs.Store.{end_slots}
use Rattle.type_store.specs.Shape.{IsStore, parts_of}
use Rattle.type_store.specs.Steps.{is_bound}
use Rattle.type_store.specs.Reaching.{Path, Down}
use Rattle.type_schemes.specs.Ends.{end_of}
use Rattle.type_schemes.specs.Order.{IsListed, PartsFirst}
use Rattle.type_schemes.specs.Reading.{Graph, read_row, read_end, read_cell, read_in}
use Rattle.type_schemes.specs.Bases.{type_in}
use Rattle.type_items.proofs.Matching.{all_both}
use Rattle.type_items.proofs.Orders.{OfLeaf}
use Rattle.type_constructs.proofs.Inserting.{extended_variables}
use Rattle.type_constructs.proofs.ToldReadingParts.{to_end, of_listed}

module _ (s : Store) where
  joined : (us ws : List ℕ) (v w x : ℕ) → Path s v us w → Path s w ws x → Path s v (us ++ ws) x
  joined [] ws v w x p q = subst (λ y. Path s y ws x) (sym p) q
  joined (u ∷ us) ws v w x p q = (p.0, joined us ws u w x p.1 q)

  down_on : (v w x : ℕ) → Down s v w → Down s w x → Down s v x
  down_on v w x p q = record { path = p.path ++ q.path; leads = joined p.path q.path v w x p.leads q.leads }

  down_part : (v w x : ℕ) → Contains (parts_of (slot_at s v).cell) w → Down s w x → Down s v x
  down_part v w x c p = record { path = w ∷ p.path; leads = (c, p.leads) }

  down_end : (v : ℕ) → Down s v (end_of s v)
  down_end =
      to_end s (Down s) (λ v. record { path = []; leads = refl })
      (λ v w u e h. down_part v w u (subst (λ c. Contains (parts_of c) w) (sym e) (0, omega arith, refl)) h)

  -- of the variable nothing is known, and v leads to it
  pub record IsUnder (v u : ℕ) : Type 0 where
    pub blank : (slot_at s u).cell ≡ Open
    pub reached : Down s v u

  abbrev pub AllUnder : ℕ → Graph → Type 0
  AllUnder v t = AllByRecursion (OfLeaf (IsUnder v)) (variables t)

  leaves_up : (v w : ℕ) → Down s v w → (ls : List (Leaf ℕ)) → AllByRecursion (OfLeaf (IsUnder w)) ls
      → AllByRecursion (OfLeaf (IsUnder v)) ls
  leaves_up v w d [] h = tt
  leaves_up v w d (Free i ∷ ls) h =
      (record { blank = h.0.blank; reached = down_on v w i d h.0.reached }, leaves_up v w d ls h.1)
  leaves_up v w d (Fixed r ∷ ls) h = (tt, leaves_up v w d ls h.1)

  module _ (f : ℕ → Graph) (v : ℕ) where
    parts_up : (ws : List ℕ) → AllByRecursion (Contains (parts_of (slot_at s v).cell)) ws
        → AllByRecursion (λ w. AllUnder (end_of s w) (f w)) ws
        → AllByRecursion (λ w. AllUnder v (f w)) ws
    parts_up [] c h = tt
    parts_up (w ∷ ws) c h = (
      leaves_up v (end_of s w) (down_part v w (end_of s w) c.0 (down_end w)) (variables (f w)) h.0,
      parts_up ws c.1
          h.1,
    )

    under_all : (ws : List ℕ) → AllByRecursion (λ w. AllUnder v (f w)) ws → AllByRecursion (OfLeaf (IsUnder v))
        (variables_all (types_of (map f ws)))
    under_all [] h = tt
    under_all (w ∷ ws) h =
        all_both (OfLeaf (IsUnder v)) (variables (f w)) (variables_all (types_of (map f ws))) h.0 (under_all ws h.1)

    under_row : (fs : List FieldSlot) (ws : List ℕ) → AllByRecursion (λ w. AllUnder v (f w)) (field_slots fs ++ ws)
        → AllByRecursion (OfLeaf (IsUnder v)) (variables_fields (read_row f fs))
    under_row [] ws h = tt
    under_row (x ∷ fs) ws h =
        all_both (OfLeaf (IsUnder v)) (variables (f x.1)) (variables_fields (read_row f fs)) h.0 (under_row fs ws h.1)

    under_end : (fs : List FieldSlot) (end : Option ℕ) → AllByRecursion (λ w. AllUnder v (f w))
        (field_slots fs ++ end_slots end) → AllUnder v (read_end f end)
    under_end [] None h = tt
    under_end [] (Some w) h = h.0
    under_end (x ∷ fs) end h = under_end fs end h.1

    under_cell : (c : Cell) → (slot_at s v).cell ≡ c → is_bound c ≡ false → AllByRecursion (λ w. AllUnder v (f w))
        (parts_of c) → AllUnder v (read_cell f v c)
    under_cell Open e b h = (record { blank = e; reached = record { path = []; leads = refl } }, tt)
    under_cell (Bound w) e b h = absurd (cc)
    under_cell (Built k ws) e b h = under_all ws h
    under_cell (Row fs end) e b h =
        extended_variables (OfLeaf (IsUnder v)) (read_row f fs) (read_end f end) (under_row fs (end_slots end) h)
        (under_end fs end h)
    under_cell (Constant r) e b h = (tt, tt)

  under_read : IsStore s → (older : List ℕ) → PartsFirst 0 s older → (v : ℕ) → IsListed older v
      → AllUnder v (read_in s older v)
  under_read whole older first =
      of_listed s whole older first AllUnder
      (λ v l free h. under_cell (type_in s older) v (slot_at s v).cell refl free
      (parts_up (type_in s older) v (parts_of (slot_at s v).cell)
      (recursion_from_All (Contains (parts_of (slot_at s v).cell)) (parts_of (slot_at s v).cell)
      (All-contains_itself (parts_of (slot_at s v).cell))) h))

  -- the variables of the type of a variable
  pub under_type : IsStore s → (older : List ℕ) → PartsFirst 0 s older → (v : ℕ) → IsListed older (end_of s v)
      → AllUnder v (type_in s older v)
  under_type whole older first v h =
      leaves_up v (end_of s v) (down_end v) (variables (type_in s older v))
      (under_read whole older first (end_of s v) h)
