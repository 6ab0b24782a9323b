-- A variable that is a constant leads to the slot that holds it, which is no deeper.
use Rattle.std.proofs.Common.{◌≡◌, ℕ, suc, zero, ◌<◌, ◌≤◌, [], ◌∷◌, length, map, true, false, refl, sym, ap, ◌∙◌}
use Rattle.std.proofs.Common.{Some, None, subst, arith, inl, inr}
use Rattle.std.specs.Prelude.{◌||◌, All}
use Rattle.std.proofs.lemmas.Bool.{cases_lt}
use Rattle.std.proofs.lemmas.List.Elements.{All-head, All-nil}
use Rattle.elm_type.specs.Types.{Name, Fields, NoField, MoreField, Closed, Over, Made, Record, variable, types_of, Rigid, Kind}
use Rattle.elm_type.specs.Classes.{Ground, is_below}
use Rattle.elm_type.specs.Rows.{extend, insert_all, insert_field, has_field}
use Rattle.elm_type.specs.Ground.{lacks, lacks_all}
use Rattle.type_store.specs.Store.{Cell, Open, Bound, Built, Row, Constant, Slot, Store, slot_at, field_names}
use Rattle.type_store.specs.Solutions.{Values, Fit, Says, row_value, rest_value}
use Rattle.type_store.specs.Shape.{IsStore, IsCell, parts_of}
use Rattle.type_store.specs.Laws.{Chosen, Refit, EachChoiceFits}
use Rattle.type_store.proofs.RowsMeet.{and_left, and_both}
use Rattle.type_store.proofs.Classes.{below_itself}
use Rattle.type_store.proofs.Lacking.{all_in_itself, constant_lacks, has_inserted}
use Rattle.type_store.proofs.Names.{equal_itself}
use Rattle.type_store.proofs.Parts.{slot_past}

-- a record with a field is no constant
has_first : (k : Name) (t : Ground) (fs : Fields Rigid) → has_field k (insert_field k t fs) ≡ true
has_first k t fs = has_inserted k k t fs ∙ ap (λ b. b || has_field k fs) (equal_itself k)

abbrev fields_in : Ground → Fields Rigid
fields_in (Made h ts) = NoField
fields_in (Record gs end) = gs

no_constant : (f : Name) (t : Ground) (fs : Fields Rigid) (u : Ground) (r : Rigid) → lacks f u ≡ true → extend (MoreField f t fs) u ≡ variable r → ⊥
no_constant f t fs (Made h ts) r l e = absurd cc
no_constant f t fs (Record gs end) r l e =
    let none : insert_field f t (insert_all fs gs) ≡ NoField = ap fields_in e in
    let has : has_field f (insert_field f t (insert_all fs gs)) ≡ true = has_first f t (insert_all fs gs) in
    let not : has_field f (insert_field f t (insert_all fs gs)) ≡ false = ap (has_field f) none in
    absurd cc

-- a constant that is elsewhere
away : Rigid → Kind → Rigid
away r k = record { place = 0 ∷ r.place; name = []; class = k.class; lacks = k.lacks }

away_chosen : (r : Rigid) (k : Kind) → Chosen k (variable (away r k))
unfolding away
away_chosen r k = record {
  fits =
      and_both (is_below k.class k.class) (lacks_all k.lacks (variable (away r k))) (below_itself k.class)
      (constant_lacks k.lacks (away r k) (all_in_itself k.lacks));
  ground = refl;
}

away_other : (r : Rigid) (k : Kind) → away r k ≡ r → ⊥
unfolding away
away_other r k e = let l : length (0 ∷ r.place) ≡ length r.place = ap (λ (x : Rigid). length x.place) e in omega (arith, l)

module _ (choice_fits : EachChoiceFits) (s : Store) (shape : IsStore s) (r : Rigid) (w d : ℕ) (here : (slot_at s w).cell ≡ Constant r) where
  choice : ℕ → Ground
  choice v = variable (away r (slot_at s v).kind)

  chosen : (v : ℕ) → (slot_at s v).cell ≡ Open → Chosen (slot_at s v).kind (choice v)
  unfolding choice
  chosen v e = away_chosen r (slot_at s v).kind

  fitted : Refit s (λ t. t) choice
  fitted = choice_fits s shape (λ t. t) (record { class = λ t. refl; lacks = λ t. refl; apart = λ t u a b e. e }) choice chosen

  σ : Values
  σ = fitted.values

  fit : Fit σ s
  unfolding σ
  fit = fitted.fit

  same : (t : Rigid) → σ.constants t ≡ t
  unfolding σ
  same = fitted.same

  opened : (v : ℕ) → (slot_at s v).cell ≡ Open → σ.types v ≡ variable (away r (slot_at s v).kind)
  unfolding σ choice
  opened v e = fitted.chosen v e

  at_slot : (v : ℕ) → IsCell v (slot_at s v).cell × All (λ u. (slot_at s u).depth ≤ (slot_at s v).depth) (parts_of (slot_at s v).cell)
  at_slot v = elim (cases_lt v (length s)) [
    | inl l ↦ ((shape.each v l).cell, (shape.each v l).levelled)
    | inr h ↦ subst (λ (x : Slot). IsCell v x.cell × All (λ u. (slot_at s u).depth ≤ x.depth) (parts_of x.cell)) (sym (slot_past s v h)) (tt, All-nil (λ u. (slot_at s u).depth ≤ 0))
  ]

  abbrev leaf : Ground → Rigid → Rigid
  leaf (Made h ts) t = t
  leaf (Record fs Closed) t = t
  leaf (Record fs (Over x)) t = x

  one_leaf : (a b : Rigid) → variable a ≡ variable b → a ≡ b
  one_leaf a b e = ap (λ g. leaf g a) e

  abbrev IsShallow : ℕ → Type 0
  IsShallow v = (slot_at s v).depth ≤ d → σ.types v ≡ variable r → (slot_at s w).depth ≤ d

  at_cell : (n v : ℕ) → ((u : ℕ) → u < n → IsShallow u) → v < suc n → (c : Cell) → (slot_at s v).cell ≡ c → IsShallow v
  at_cell n v again l Open e low is =
      absurd (away_other r (slot_at s v).kind (one_leaf (away r (slot_at s v).kind) r (sym (opened v e) ∙ is)))
  at_cell n v again l (Bound u) e low is =
      let says : σ.types v ≡ σ.types u = subst (Says σ (σ.types v)) e (fit.each v).cell in
      let less : u < v = subst (IsCell v) e (at_slot v).0 in
      let deep : (slot_at s u).depth ≤ (slot_at s v).depth =
      All-head (λ x. (slot_at s x).depth ≤ (slot_at s v).depth) u []
      (subst (λ (x : Cell). All (λ y. (slot_at s y).depth ≤ (slot_at s v).depth) (parts_of x)) e (at_slot v).1) in
      again u (omega (arith, l, less)) (omega (arith, low, deep)) (sym says ∙ is)
  at_cell n v again l (Built h ws) e low is =
      let says : σ.types v ≡ Made h (types_of (map σ.types ws)) = subst (Says σ (σ.types v)) e (fit.each v).cell in
      absurd cc
  at_cell n v again l (Row [] None) e low is =
      let says = subst (Says σ (σ.types v)) e (fit.each v).cell in
      let plain : Record NoField Closed ≡ variable r = sym says.0 ∙ is in
      absurd cc
  at_cell n v again l (Row [] (Some u)) e low is = absurd (subst (IsCell v) e (at_slot v).0)
  at_cell n v again l (Row (f ∷ fs) end) e low is =
      let says = subst (Says σ (σ.types v)) e (fit.each v).cell in
      absurd (no_constant f.0 (σ.types f.1) (row_value σ.types fs) (rest_value σ.types end) r
      (and_left (lacks f.0 (rest_value σ.types end)) (lacks_all (field_names fs) (rest_value σ.types end)) says.1) (sym says.0 ∙ is))
  at_cell n v again l (Constant t) e low is =
      let says : σ.types v ≡ variable (σ.constants t) = subst (Says σ (σ.types v)) e (fit.each v).cell in
      let one : t ≡ r = sym (same t) ∙ one_leaf (σ.constants t) r (sym says ∙ is) in
      let there : v ≡ w = shape.once v w r (e ∙ ap Constant one) here in
      subst (λ x. (slot_at s x).depth ≤ d) there low

  leads : (n v : ℕ) → v < n → IsShallow v
  leads zero v l = absurd (omega (arith, l))
  leads (suc n) v l = at_cell n v (leads n) l (slot_at s v).cell refl

  -- a variable whose type is the constant in each solution
  pub shallow : (v : ℕ) → (slot_at s v).depth ≤ d → ((τ : Values) → Fit τ s → τ.types v ≡ variable (τ.constants r)) → (slot_at s w).depth ≤ d
  shallow v low is = leads (suc v) v (omega arith) low (is σ fit ∙ ap (λ t. variable t) (same r))
