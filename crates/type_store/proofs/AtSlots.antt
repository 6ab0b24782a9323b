-- Steps for one variable, as the program keeps the slots.
use Rattle.std.proofs.Common.{◌≡◌, ℕ, ◌<◌, List, [], ◌∷◌, ◌++◌, length, get_or, set, Bool, true, false, Option, Some, None, Result, Ok, Err, IfOk, refl, sym, ap, ◌∙◌, subst, arith}
use Rattle.elm_type.specs.Types.{Name}
use Rattle.elm_type.specs.Classes.{meet, is_below}
use Rattle.elm_type.specs.declared.class.Class.{Class}
use Rattle.elm_type.specs.Ground.{contains}
use Rattle.type_store.specs.Store.{Slot, Store, slot_at}
use Rattle.type_store.specs.Solutions.{Ask, InClass, Lacks, Clash}
use Rattle.type_store.specs.Steps.{IsGraph, Stepped, Pushed, class_asks, lack_asks, with_kind}
use Rattle.type_store.specs.declared.slot.Slot as stored
use Rattle.type_store.specs.View.{cell_view, slot_view, store_view}
use Rattle.type_store.proofs.Undoing.{view_or, length_view}
use Rattle.type_store.proofs.KindSteps.{no_class}
use Rattle.type_store.proofs.Graphs.{class_there, class_clash, class_step, lack_there, lack_clash, lack_step}

pub if_ok : {A E : Type 0} {P Q : A → Type 0} (r : Result A E) → ((a : A) → P a → Q a) → IfOk r P → IfOk r Q
if_ok (Ok a) h p = h a p
if_ok (Err e) h p = tt

pub pushed_none : (o : Option (List Ask)) (b : Bool) (before after : List Ask) → Pushed o b before after → b ≡ false → o ≡ None
pushed_none None b before after p e = refl
pushed_none (Some left) b before after p e = absurd (let w : b ≡ true = p.0 in cc)

pub record Left (o : Option (List Ask)) (before after : List Ask) : Type 0 where
  pub left : List Ask
  pub some : o ≡ Some left
  pub work : after ≡ before ++ left

pub pushed_some : (o : Option (List Ask)) (b : Bool) (before after : List Ask) → Pushed o b before after → b ≡ true → Left o before after
pushed_some None b before after p e = absurd (let w : b ≡ false = p in cc)
pushed_some (Some left) b before after p e = record { left = left; some = refl; work = p.1 }

module _ (slots : List stored.Slot) (at : ℕ) (d : stored.Slot) (l : at < length slots) (g : IsGraph (store_view slots)) where
  abbrev x : stored.Slot
  x = get_or slots at d

  here : slot_at (store_view slots) at ≡ slot_view x
  here = view_or slots at d l

  there : at < length (store_view slots)
  there = omega (arith, length_view slots, l)

  pub at_class_there : (c : Class) (before : List Ask) → is_below x.class c ≡ true → Stepped (store_view slots) before (InClass at c ∷ []) (store_view slots) before
  at_class_there c before h = class_there (store_view slots) at c g there before before (ap (λ (y : Slot). is_below y.kind.class c) here ∙ h) refl

  pub at_no_class : (c : Class) → meet x.class c ≡ None → Clash (store_view slots) (InClass at c ∷ [])
  at_no_class c h = no_class (store_view slots) at c (ap (λ (y : Slot). meet y.kind.class c) here ∙ h)

  pub at_class_clash : (c : Class) (b : Bool) (before after : List Ask) → Pushed (class_asks c (cell_view x.cell)) b before after → b ≡ false → Clash (store_view slots) (InClass at c ∷ [])
  at_class_clash c b before after p h =
      class_clash (store_view slots) at c g there (ap (λ (y : Slot). class_asks c y.cell) here ∙ pushed_none (class_asks c (cell_view x.cell)) b before after p h)

  pub at_class_step : (c k : Class) (b : Bool) (before after : List Ask) (new : Store) → meet x.class c ≡ Some k → Pushed (class_asks c (cell_view x.cell)) b before after → b ≡ true
      → new ≡ set (store_view slots) at (with_kind (slot_at (store_view slots) at) (record { class = k; lacks = (slot_at (store_view slots) at).kind.lacks }))
      → Stepped (store_view slots) before (InClass at c ∷ []) new after
  at_class_step c k b before after new m p h w =
      let some = pushed_some (class_asks c (cell_view x.cell)) b before after p h in
      subst (λ s. Stepped (store_view slots) before (InClass at c ∷ []) s after) (sym w)
      (class_step (store_view slots) at c g there k some.left before after (ap (λ (z : Slot). meet z.kind.class c) here ∙ m) (ap (λ (z : Slot). class_asks c z.cell) here ∙ some.some) some.work)

  pub at_lack_there : (n : Name) (before : List Ask) → contains n x.lacks.items ≡ true → Stepped (store_view slots) before (Lacks at n ∷ []) (store_view slots) before
  at_lack_there n before h = lack_there (store_view slots) at n g there before before (ap (λ (y : Slot). contains n y.kind.lacks) here ∙ h) refl

  pub at_lack_clash : (n : Name) (b : Bool) (before after : List Ask) → Pushed (lack_asks n (cell_view x.cell)) b before after → b ≡ false → Clash (store_view slots) (Lacks at n ∷ [])
  at_lack_clash n b before after p h =
      lack_clash (store_view slots) at n g there (ap (λ (y : Slot). lack_asks n y.cell) here ∙ pushed_none (lack_asks n (cell_view x.cell)) b before after p h)

  pub at_lack_step : (n : Name) (b : Bool) (before after : List Ask) (new : Store) → Pushed (lack_asks n (cell_view x.cell)) b before after → b ≡ true
      → new ≡ set (store_view slots) at (with_kind (slot_at (store_view slots) at)
      (record { class = (slot_at (store_view slots) at).kind.class; lacks = (slot_at (store_view slots) at).kind.lacks ++ n ∷ [] }))
      → Stepped (store_view slots) before (Lacks at n ∷ []) new after
  at_lack_step n b before after new p h w =
      let k = pushed_some (lack_asks n (cell_view x.cell)) b before after p h in
      subst (λ s. Stepped (store_view slots) before (Lacks at n ∷ []) s after) (sym w)
      (lack_step (store_view slots) at n g there k.left before after (ap (λ (z : Slot). lack_asks n z.cell) here ∙ k.some) k.work)
