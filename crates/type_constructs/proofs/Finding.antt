-- The first constant whose variable is no deeper than what is around.
use Rattle.std.proofs.Common.{◌≡◌, ℕ, zero, suc, ◌<◌, List, [], ◌∷◌, length, take, inl, inr, refl, sym, ap, ◌∙◌, subst, arith}
use Rattle.std.specs.Prelude.{All}
use Rattle.std.specs.List.{AllByRecursion, Contains, slice_index_or}
use Rattle.std.proofs.lemmas.Bool.{cases_lt}
use Rattle.std.proofs.lemmas.List.Elements.{All-head, All-tail, Contains-append_right}
use Rattle.type_store.specs.Store.{Constant, Slot, Store, slot_at}
use Rattle.type_store.specs.Shape.{IsStore}
use Rattle.type_store.proofs.Parts.{slot_past}
use Rattle.type_schemes.specs.Constants.{Own, HaveOwn, IsFree}
use Rattle.type_schemes.specs.Calls.{own_slots, Escapes}
use Rattle.type_schemes.specs.Laws.{StaysOwn, HoldsOwn}
use Rattle.type_constructs.specs.Annotated.{IsDeep}
use Rattle.type_constructs.specs.TypeAnnotationsLaws.{DefinitionEscapes}
use Rattle.type_constructs.specs.TypeEscapesLaws.{AllDeep, FirstEscape, FindsEscape, FailsEscaped}

module _ (holds : HoldsOwn) (d : ℕ) (s : Store) (own : List Own) (shape : IsStore s) (have : HaveOwn s own) where
  one_deep : (o : Own) → Contains own o → IsFree d s o.slot → IsDeep d s o
  one_deep o there free = record {
    each = λ u e. (
        let held = holds s own o free.root shape have there free.leads free.ends in
        let same : u ≡ free.root = shape.once u free.root o.rigid e held in
        subst (λ k. d < (slot_at s k).depth) (sym same) free.deep);
  }

  pub all_deep_of : (os : List Own) → AllByRecursion (Contains own) os → All (IsFree d s) (own_slots os) → AllByRecursion (IsDeep d s) os
  all_deep_of [] there free = tt
  all_deep_of (o ∷ os) there free = (
    one_deep o there.0 (All-head (IsFree d s) o.slot (own_slots os) free),
    all_deep_of os there.1 (All-tail (IsFree d s) o.slot (own_slots os) free),
  )

  -- ---- the first one

  no_past : (u : ℕ) (o : Own) → (slot_at s u).cell ≡ Constant o.rigid → u < length s
  no_past u o e = elim (cases_lt u (length s)) [
    | inl l ↦ l
    | inr h ↦ absurd (
        let x = ap (λ (y : Slot). y.cell) (slot_past s u h) in
        let y = sym x ∙ e in
        cc)
  ]

  here : (o : Own) (later : List Own) → Contains own o → Escapes d s o.slot → FirstEscape d s (o ∷ later) 0
  here o later there escapes =
      let held = holds s own o escapes.root shape have there escapes.leads escapes.ends in
      record {
        earlier = [];
        constant = o;
        later = later;
        split = refl;
        number = refl;
        deep = tt;
        variable = escapes.root;
        is = held;
        low = record { inside = no_past escapes.root o held; depth = escapes.low };
      }

  pub find : (os : List Own) → AllByRecursion (Contains own) os → (i : ℕ) → i < length (own_slots os) → All (IsFree d s) (take i (own_slots os))
      → Escapes d s (slice_index_or (own_slots os) i 0) → FirstEscape d s os i
  find [] there i l before escapes = absurd (omega arith)
  find (o ∷ os) there zero l before escapes = here o os there.0 escapes
  find (o ∷ os) there (suc i) l before escapes =
      let r = find os there.1 i (omega arith) (All-tail (IsFree d s) o.slot (take i (own_slots os)) before) escapes in
      record {
        earlier = o ∷ r.earlier;
        constant = r.constant;
        later = r.later;
        split = ap (λ l. o ∷ l) r.split;
        number = ap suc r.number;
        deep = (one_deep o there.0 (All-head (IsFree d s) o.slot (take i (own_slots os)) before), r.deep);
        variable = r.variable;
        is = r.is;
        low = r.low;
      }

-- each of a list is in it
more_there : (x : Own) (xs os : List Own) → AllByRecursion (Contains xs) os → AllByRecursion (Contains (x ∷ xs)) os
more_there x xs [] h = tt
more_there x xs (o ∷ os) h = (Contains-append_right (x ∷ []) xs o h.0, more_there x xs os h.1)

each_there : (os : List Own) → AllByRecursion (Contains os) os
each_there [] = tt
each_there (o ∷ os) = ((0, omega arith, refl), more_there o os os (each_there os))

pub all_deep : StaysOwn → HoldsOwn → AllDeep
all_deep stays holds a p body items own s opened walked links after shape opens walk free =
    all_deep_of holds a.depth walked own shape (stays a p body items own s opened walked links after opens walk) own (each_there own) free

pub finds_escape : StaysOwn → HoldsOwn → FindsEscape
finds_escape stays holds a p body items own s opened walked links after i shape opens walk escapes =
    find holds a.depth walked own shape (stays a p body items own s opened walked links after opens walk) own (each_there own) i escapes.inside escapes.before
    escapes.here

pub fails_escaped : DefinitionEscapes → FailsEscaped
fails_escaped law a p d annotation scope own s opened walked s' links after i shape done covered first =
    law a p d annotation scope own first.earlier first.later first.constant s opened walked s' links after first.variable shape done covered first.split first.deep
    first.is first.low
