-- While the body of a definition is walked its constants stay.
use Rattle.std.proofs.Common.{◌≡◌, ℕ, zero, suc, ◌+◌, List, [], ◌∷◌, length, map, true, false, Option, Some, None, refl, sym, ap, ◌∙◌, subst, arith, ⊎_elim}
use Rattle.std.specs.List.{AllByRecursion, Contains}
use Rattle.std.proofs.lemmas.Bool.{cases_lt}
use Rattle.elm_type.specs.Types.{Rigid, Kind, Closed, Over, Made, Record, NoField, types_of, variable}
use Rattle.elm_type.specs.Classes.{Ground, is_below}
use Rattle.elm_type.specs.Rows.{extend, field_type, insert_all}
use Rattle.elm_type.specs.Ground.{lacks_all}
use Rattle.type_items.specs.Items.{Place}
use Rattle.type_store.specs.Store.{FieldSlot, Cell, Open, Bound, Built, Row, Constant, Slot, Store, slot_at, field_names}
use Rattle.type_store.specs.Solutions.{Values, Fit, Says, Renames, constants_of, row_value, rest_value}
use Rattle.type_store.specs.Shape.{IsCell, IsStore}
use Rattle.type_store.specs.Steps.{is_bound}
use Rattle.type_store.specs.Laws.{Chosen, EachChoiceFits}
use Rattle.type_store.proofs.OneSlot.{leads_same}
use Rattle.type_store.proofs.RowsMeet.{and_both, first_or, found_all, found_first}
use Rattle.type_store.proofs.Parts.{slot_past}
use Rattle.type_store.proofs.Classes.{below_itself}
use Rattle.type_store.proofs.Lacking.{constant_lacks, all_in_itself}
use Rattle.type_walks.specs.Links.{Live}
use Rattle.type_schemes.specs.Constants.{Own}
use Rattle.type_schemes.specs.Laws.{StaysOwn, HoldsOwn}

all_both : {A : Type 0} (P Q R : A → Type 0) (xs : List A) → ((x : A) → P x → Q x → R x) → AllByRecursion P xs → AllByRecursion Q xs → AllByRecursion R xs
all_both P Q R [] f h k = tt
all_both P Q R (x ∷ xs) f h k = (f x h.0 k.0, all_both P Q R xs f h.1 k.1)

pub stays_own : StaysOwn
stays_own a p body items own s opened walked links after made walk = record {
  each = λ σ f. (
      let w = walk.back σ f in
      all_both (λ (o : Own). Live (a.depth + 1) opened o.slot) (λ (o : Own). w.values.types o.slot ≡ variable (w.values.constants o.rigid))
      (λ (o : Own). σ.types o.slot ≡ variable (σ.constants o.rigid)) own
      (λ o l e. w.agree.types o.slot l ∙ (e ∙ ap variable (sym (w.agree.constants o.rigid)))) made.live (made.back w.values w.fit).1);
}

-- ---- what holds of one of a list

pub own_at : (P : Own → Type 0) (own : List Own) (o : Own) → AllByRecursion P own → Contains own o → P o
own_at P [] o h (k, l, e) = absurd (omega arith)
own_at P (x ∷ xs) o h (zero, l, e) = let q : x ≡ o = e in subst P q h.0
own_at P (x ∷ xs) o h (suc k, l, e) = own_at P xs o h.1 (k, omega arith, e)

-- ---- a constant is no record with fields

row_no_constant : (σ : Values) (v : ℕ) (fs : List FieldSlot) (end : Option ℕ) (r : Rigid) → IsCell v (Row fs end) → Says σ (variable r) (Row fs end) → ⊥
row_no_constant σ v [] None r k p = let e : Record NoField (Over r) ≡ Record NoField Closed = p.0 in cc
row_no_constant σ v [] (Some w) r k p = k
row_no_constant σ v (f ∷ fs) end r k p = go (rest_value σ.types end) p
  where
    go : (t : Ground) → (variable r ≡ extend (row_value σ.types (f ∷ fs)) t) × (lacks_all (field_names (f ∷ fs)) t ≡ true) → ⊥
    go (Made j us) q = (let w : false ≡ true = q.1 in cc)
    go (Record gs x) q = (
        let w : Record NoField (Over r) ≡ Record (insert_all (row_value σ.types (f ∷ fs)) gs) x = q.0 in
        let v : NoField ≡ insert_all (row_value σ.types (f ∷ fs)) gs = cc in
        let found = found_all f.0 (row_value σ.types (f ∷ fs)) gs ∙ ap (λ o. first_or o (field_type f.0 gs)) (found_first f.0 (σ.types f.1) (row_value σ.types fs)) in
        let none : None ≡ Some (σ.types f.1) = ap (field_type f.0) v ∙ found in cc)

-- ---- two choices of a type

abbrev of_kind : Place → Kind → Rigid
of_kind q k = record { place = q; name = []; class = k.class; lacks = k.lacks }

chosen : (q : Place) (k : Kind) → Chosen k (variable (of_kind q k))
chosen q k = record {
  fits = and_both (is_below k.class k.class) (lacks_all k.lacks (variable (of_kind q k))) (below_itself k.class)
      (constant_lacks k.lacks (of_kind q k) (all_in_itself k.lacks));
  ground = refl;
}

themselves : (s : Store) → Renames (constants_of s) (λ r. r)
themselves s = record { class = λ r. refl; lacks = λ r. refl; apart = λ r t a b e. e }

module _ (choice_fits : EachChoiceFits) (s : Store) (v : ℕ) (r : Rigid) (whole : IsStore s)
    (says : (σ : Values) → Fit σ s → σ.types v ≡ variable (σ.constants r)) where
  -- with constants that stand for themselves
  value_at : (q : Place) (σ : Values) → Fit σ s → ((t : Rigid) → σ.constants t ≡ t) → σ.types v ≡ variable r
  value_at q σ f same = says σ f ∙ ap variable (same r)

  open_there : (q : Place) → (slot_at s v).cell ≡ Open → variable (of_kind q (slot_at s v).kind) ≡ variable r
  open_there q e =
      let m = choice_fits s whole (λ t. t) (themselves s) (λ w. variable (of_kind q (slot_at s w).kind)) (λ w o. chosen q (slot_at s w).kind) in
      sym (m.chosen v e) ∙ value_at q m.values m.fit m.same

  no_open : (slot_at s v).cell ≡ Open → ⊥
  no_open e =
      let one = open_there [] e in
      let two = open_there (0 ∷ []) e in
      let same : of_kind [] (slot_at s v).kind ≡ of_kind (0 ∷ []) (slot_at s v).kind = (let q = one ∙ sym two in cc) in
      let places : ◌≡◌ {A = List ℕ} [] (0 ∷ []) = ap (λ (x : Rigid). x.place) same in
      omega (arith, ap length places)

  is_cell : IsCell v (slot_at s v).cell
  is_cell = ⊎_elim (λ l. (whole.each v l).cell) (λ k. subst (λ (x : Slot). IsCell v x.cell) (sym (slot_past s v k)) tt) (cases_lt v (length s))

  pub holds : is_bound (slot_at s v).cell ≡ false → (slot_at s v).cell ≡ Constant r
  holds free = go (slot_at s v).cell refl free
    where
      go : (c : Cell) → (slot_at s v).cell ≡ c → is_bound c ≡ false → (slot_at s v).cell ≡ Constant r
      go Open e b = absurd (no_open e)
      go (Bound w) e b = absurd (let x : true ≡ false = b in cc)
      go (Built h ws) e b =
          let m = choice_fits s whole (λ t. t) (themselves s) (λ w. variable (of_kind [] (slot_at s w).kind)) (λ w o. chosen [] (slot_at s w).kind) in
          let x : m.values.types v ≡ Made h (types_of (map m.values.types ws)) = subst (Says m.values (m.values.types v)) e (m.fit.each v).cell in
          let y : m.values.types v ≡ Record NoField (Over r) = value_at [] m.values m.fit m.same in
          absurd (cc)
      go (Row fs end) e b =
          let m = choice_fits s whole (λ t. t) (themselves s) (λ w. variable (of_kind [] (slot_at s w).kind)) (λ w o. chosen [] (slot_at s w).kind) in
          let x = subst (Says m.values (m.values.types v)) e (m.fit.each v).cell in
          let y = value_at [] m.values m.fit m.same in
          absurd (row_no_constant m.values v fs end r (subst (IsCell v) e is_cell) (subst (λ t. Says m.values t (Row fs end)) y x))
      go (Constant t) e b =
          let m = choice_fits s whole (λ t. t) (themselves s) (λ w. variable (of_kind [] (slot_at s w).kind)) (λ w o. chosen [] (slot_at s w).kind) in
          let x : m.values.types v ≡ variable (m.values.constants t) = subst (Says m.values (m.values.types v)) e (m.fit.each v).cell in
          let y = value_at [] m.values m.fit m.same in
          let z : variable t ≡ variable r = ap variable (sym (m.same t)) ∙ (sym x ∙ y) in
          let w : t ≡ r = cc in
          e ∙ ap Constant w

pub holds_own : EachChoiceFits → HoldsOwn
holds_own choice_fits s own o root whole have inside leads ends =
    holds choice_fits s root o.rigid whole
    (λ σ f. sym (leads_same σ s o.slot root f leads)
    ∙ own_at (λ (x : Own). σ.types x.slot ≡ variable (σ.constants x.rigid)) own o (have.each σ f) inside) ends
