-- A definition that is closed: its state, and the variables of its constants.
use Rattle.std.proofs.Common.{◌≡◌, ℕ, zero, suc, ◌+◌, ◌-◌, ◌<◌, ◌≤◌, List, [], ◌∷◌, length, get_or, Some, sym, ap, ◌∙◌}
use Rattle.std.proofs.Common.{subst, arith}
use Rattle.std.specs.Prelude.{slice_get}
use Rattle.std.specs.List.{AllByRecursion, slice_index_or}
use Rattle.elm_canon.specs.Tree.{Annotation}
use Rattle.type_items.specs.Items.{child}
use Rattle.type_items.specs.Definitions.{Definition}
use Rattle.type_store.specs.Store.{Store}
use Rattle.type_walks.specs.Links.{Live}
use Rattle.type_schemes.specs.Constants.{Own}
use Rattle.type_schemes.specs.Calls.{own_slots}
use Rattle.infer_steps.specs.Codes.{Code, State}
use Rattle.infer_groups.specs.Defined.{inside}
use Rattle.infer_groups.specs.Annotated.{own_names, its_own, AnnotatedDone}
use Rattle.infer_groups.proofs.InferAnnotatedClosing.{slots_same}

inside_slots : (d : ℕ) (mid : Store) (n : ℕ) → length mid ≤ n → (own : List Own)
    → AllByRecursion (λ (o : Own). Live d mid o.slot) own → (k e : ℕ)
    → k < length (own_slots own) → slice_index_or (own_slots own) k e < n
inside_slots d mid n le [] h k e l = absurd (omega arith)
inside_slots d mid n le (o ∷ os) h zero e l = omega (arith, h.0.inside, le)
inside_slots d mid n le (o ∷ os) h (suc k) e l = inside_slots d mid n le os h.1 k e (omega arith)

pub get_is : {X : Type 0} (xs : List X) (i : ℕ) (x : X) → i < length xs → x ≡ get_or xs i x → slice_get xs i ≡ Some x
get_is [] i x l e = absurd (omega arith)
get_is (y ∷ ys) zero x l e = ap Some (sym e)
get_is (y ∷ ys) (suc i) x l e = get_is ys i x (omega arith) e

module _ (code : Code) (d : Definition) (annotation : Annotation) (i : ℕ) (vs : List ℕ) (v : ℕ) (old mid now : State)
    (done : AnnotatedDone code d annotation i vs v old mid now) where
  pub slots_inside : (k e : ℕ) → k < length vs → slice_index_or vs k e < length now.store
  slots_inside =
      subst (λ (l : List ℕ). (k e : ℕ) → k < length l → slice_index_or l k e < length now.store)
      (slots_same (child old.place i) annotation (own_names code annotation) vs done.opening.count)
      (inside_slots (old.depth + 1) mid.store (length now.store) done.follows.later.grows
      (its_own code annotation (child old.place i) vs)
      done.opening.opens.live)

  pub deep : now.depth ≡ old.depth + 1
  deep = done.follows.depth ∙ done.opening.depth

  pub less : now.depth - 1 ≡ old.depth
  less = omega (arith, deep)

  pub at_inside : (s : Store) → record { store = s; depth = now.depth; place = now.place } ≡ inside
      (record { store = s; depth = old.depth; place = old.place }) i
  at_inside s = λ j. record { store = s; depth = deep j; place = (done.follows.place ∙ done.opening.place) j }
