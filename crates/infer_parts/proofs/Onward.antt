-- Where nothing is asked, and the step after the record of an update.
use Rattle.std.specs.Prelude.{nat_lt, None}
use Rattle.std.proofs.lemmas.Bool.Decides.{nat_tests}
use Rattle.std.proofs.Common.{◌≡◌, ℕ, zero, suc, ◌<◌, ◌≤◌, List, [], ◌∷◌, length, get_or, true, false, refl}
use Rattle.std.proofs.Common.{sym, ◌∙◌, subst, arith}
use Rattle.elm_base.specs.declared.position.Pos.{Pos}
use Rattle.elm_canon.specs.Tree.{Op, TupleOf, ListOf, Build, RecordOf, Access, Update, Negate, Binary}
use Rattle.elm_type.specs.Types.{Name, int_type}
use Rattle.type_items.specs.Items.{Wanted}
use Rattle.type_store.specs.Shape.{IsStore}
use Rattle.type_constructs.specs.Failing.{Bad}
use Rattle.type_walks.specs.Regions.{none, span}
use Rattle.type_walks.specs.Links.{Has}
use Rattle.type_walks.proofs.Walking.{rests}
use Rattle.type_constructs.proofs.Chains.{tells_same, has_still}
use Rattle.infer_steps.specs.Codes.{Code, State}
use Rattle.infer_steps.proofs.Stepping.{follows_itself}
use Rattle.infer_steps.specs.Begun.{Begun, BeginStops}
use Rattle.infer_steps.specs.Operations.{next_two, update_items, update_types}
use Rattle.infer_parts.specs.Steps.{Saying, each, Opens}
use Rattle.infer_parts.specs.Parts.{GoesOn, GoesOnAt, GoesOnStuck, StopsOnAt, type_at}
use Rattle.infer_parts.proofs.Going.{plain_step, zip_at}

pub opens_nothing : (W : Type 0) (code : Code) (says : Saying W) (s : State) → IsStore s.store
    → Opens W code says (λ q. none) (λ scope q w. []) W says (λ scope q w. w) s s
opens_nothing W code says s whole = record {
  follows = follows_itself s whole;
  gives = λ real a links scope q w real_at set has. record {
    after = links;
    step = plain_step real a none [] s.store s.store links links tt (rests a s.store links);
    tells = tells_same links;
    known = has;
  };
}

pub goes_update : (code : Code) (n : ℕ) (here : Pos) (xs : List Name) (vs rest : List ℕ) (v : ℕ) (old new : State)
    → 0 < length vs → v ≡ get_or vs 0 0
    → Begun code v next_two (update_items xs n here) rest (update_types xs n here) old new → GoesOn code (Update xs) n
    here vs (v ∷ rest) old new
goes_update code n here xs vs rest v old new some is b = record {
  follows = b.follows;
  gives = λ real a links scope q ts real_at set has. (
      let h : Has links v (type_at ts 0) = subst (λ x. Has links x (type_at ts 0)) (sym is)
      (zip_at (Has links) vs ts 0 0 int_type some has) in
      let g = b.gives a links scope q (type_at ts 0) set h in
      record {
        after = g.after;
        step =
            plain_step real a (span q 1 2) (update_items xs n here scope q (type_at ts 0)) old.store new.store links
            g.after
            (b.plain scope q (type_at ts 0)) g.walk;
        tells = g.tells;
        known = (has_still g.tells h, g.has);
      });
}

pub stops_update : (code : Code) (n : ℕ) (here : Pos) (xs : List Name) (vs : List ℕ) (v : ℕ) (old new : State)
    (bad : Bad) → 0 < length vs
    → v ≡ get_or vs 0 0 → BeginStops code v next_two (update_items xs n here) old new bad → GoesOnStuck code (Update xs)
    n here vs old new bad
stops_update code n here xs vs v old new bad some is b = record {
  fails = λ a links scope q ts at set has.
      b.fails a links scope q (type_at ts 0) set
      (subst (λ x. Has links x (type_at ts 0)) (sym is) (zip_at (Has links) vs ts 0 0 int_type some has));
}

-- ---- at the first part

-- after its first part the operation asks nothing
abbrev pub AsksNoMore : Op → Type 0
AsksNoMore (Update xs) = ⊥
AsksNoMore TupleOf = Unit {0}
AsksNoMore ListOf = Unit {0}
AsksNoMore (Build pos u c) = Unit {0}
AsksNoMore (RecordOf xs) = Unit {0}
AsksNoMore (Access x) = Unit {0}
AsksNoMore Negate = Unit {0}
AsksNoMore (Binary pos op) = Unit {0}

goes_plain : (op : Op) (s : State) (code : Code) (n : ℕ) (here : Pos) (vs : List ℕ) → AsksNoMore op → IsStore s.store
    → GoesOn code op n here vs vs s s
goes_plain (Update xs) s code n here vs keeps whole = absurd keeps
goes_plain TupleOf s code n here vs keeps whole = opens_nothing (List Wanted) code (each vs) s whole
goes_plain ListOf s code n here vs keeps whole = opens_nothing (List Wanted) code (each vs) s whole
goes_plain (Build pos u c) s code n here vs keeps whole = opens_nothing (List Wanted) code (each vs) s whole
goes_plain (RecordOf xs) s code n here vs keeps whole = opens_nothing (List Wanted) code (each vs) s whole
goes_plain (Access x) s code n here vs keeps whole = opens_nothing (List Wanted) code (each vs) s whole
goes_plain Negate s code n here vs keeps whole = opens_nothing (List Wanted) code (each vs) s whole
goes_plain (Binary pos op) s code n here vs keeps whole = opens_nothing (List Wanted) code (each vs) s whole

-- a scope without names
pub no_code : Code
no_code = record { known = λ m x. None; names = λ x. None; constants = λ x. None }

pub first_goes : (i : ℕ) (code : Code) (op : Op) (n : ℕ) (here : Pos) (vs us : List ℕ) (old new : State) → i ≤ 0
    → GoesOn code op n here vs us old new → GoesOnAt i code op n here vs us old new
first_goes zero code op n here vs us old new off g = g
first_goes (suc i) code op n here vs us old new off g = absurd (omega (arith, off))

pub first_stops : (i : ℕ) (code : Code) (op : Op) (n : ℕ) (here : Pos) (vs : List ℕ) (old new : State) (bad : Bad)
    → i ≤ 0
    → GoesOnStuck code op n here vs old new bad → StopsOnAt i code op n here vs old new bad
first_stops zero code op n here vs old new bad off s = s
first_stops (suc i) code op n here vs old new bad off s = absurd (omega (arith, off))

pub goes_same : (i : ℕ) (op : Op) (s : State) (code : Code) (n : ℕ) (here : Pos) (vs : List ℕ) → i ≤ 0 → AsksNoMore op
    → IsStore s.store
    → GoesOnAt i code op n here vs vs s s
goes_same i op s code n here vs off plain whole =
    first_goes i code op n here vs vs s s off (goes_plain op s code n here vs plain whole)

pub later_goes : (i : ℕ) (code : Code) (op : Op) (n : ℕ) (here : Pos) (vs : List ℕ) (s : State) → nat_lt 0 i ≡ true
    → GoesOnAt i code op n here vs vs s s
later_goes zero code op n here vs s later =
    absurd (let e : nat_lt 0 0 ≡ false = grind (arith, nat_tests) in let z : true ≡ false = sym later ∙ e in cc)
later_goes (suc i) code op n here vs s later = (refl, refl)
