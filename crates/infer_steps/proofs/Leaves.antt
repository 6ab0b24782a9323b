-- What is of a type alone, and numbers.
use Rattle.std.proofs.Common.{◌≡◌, ℕ, [], ◌∷◌, true, false, Bool, Result, Ok, Err, OnOk, refl, sym, ◌∙◌}
use Rattle.elm_base.specs.declared.position.Pos.{Pos}
use Rattle.elm_type.specs.declared.class.Class.TheVariants.{Number}
use Rattle.type_items.specs.Items.{Place, child, Wanted, at, Same, InClass}
use Rattle.type_items.specs.Scopes.{Scope}
use Rattle.type_walks.specs.Regions.{none, below}
use Rattle.type_walks.specs.Links.{Links, AreLive, Has}
use Rattle.type_walks.specs.Walks.{Around}
use Rattle.type_constructs.specs.Failing.{Bad, Fails}
use Rattle.type_constructs.specs.Stepping.{Step}
use Rattle.type_constructs.proofs.Walking.{walks_type}
use Rattle.type_constructs.proofs.Running.{plain, last, on, whole}
use Rattle.type_constructs.proofs.Stops.{past, ends, stopped}
use Rattle.type_constructs.proofs.Spots.{Here, Child, Itself, Nowhere, In}
use Rattle.type_constructs.proofs.Chains.{tells_same, tells_more, has_new, has_still}
use Rattle.infer_steps.specs.Codes.{State}
use Rattle.infer_steps.specs.Made.{IsOpened, IsMade, Just}
use Rattle.infer_steps.specs.Asked.{AsksSame, RefusesSame, AsksClass, RefusesClass}
use Rattle.infer_steps.proofs.Stepping.{follows_on}
use Rattle.infer_steps.specs.Leaves.{of_type, of_number, WalksAlone, StopsAlone}

pub ok_on : {A E P Q : Type 0} (r : Result A E) → OnOk r P → (P → Q) → OnOk r Q
ok_on (Ok x) p f = f p
ok_on (Err e) p f = tt

-- ---- of a type

module _ (old u new : State) (here : Pos) (t : Wanted) (v wanted : ℕ) (made : IsMade old u v (Just t)) where
  type_step : AsksSame u new here v wanted → (real : Bool) (a : Around) (links : Links) (q : Place) (w : Wanted) → a.depth ≡ old.depth → AreLive a.depth old.store links
      → Has links wanted w → Step real a (below q) (Same here t w ∷ []) old.store links new.store links
  type_step same real a links q w e live has =
      let m = made.typed a links t e live refl in
      walks_type real a t here q w old.store u.store new.store links v live m
      (same.walk a m.after t w (e ∙ sym made.follows.depth) (m.walk.live live) m.has (has_still m.tells has))

  pub type_walked : AsksSame u new here v wanted → WalksAlone wanted (of_type t here) old new
  type_walked same = record {
    follows = follows_on old u new made.follows same.follows;
    walked = λ code. record {
      walk = λ a links scope q w s h. (type_step same false a links q w s.around.depth s.live h).walk;
      passes = λ a links scope w s h. (type_step same true a links old.place w s.around.depth s.live h).passes refl;
    };
  }

  type_fails : (bad : Bad) → RefusesSame u new here v wanted bad → (a : Around) (links : Links) (q : Place) (w : Wanted) → a.depth ≡ old.depth → AreLive a.depth old.store links
      → Has links wanted w → Fails a old.store links (below q) (Same here t w ∷ []) bad new.store
  type_fails bad refuses a links q w e live has =
      let m = made.typed a links t e live refl in
      stopped refl (past Nowhere refl (plain tt m.walk) (ends Nowhere (refuses.fails a m.after none t w [] m.has (has_still m.tells has))))

  pub type_stopped : (bad : Bad) → RefusesSame u new here v wanted bad → StopsAlone wanted (of_type t here) old new bad
  type_stopped bad refuses = record {
    stopped = λ code. record { fails = λ a links scope w s h. type_fails bad refuses a links old.place w s.around.depth s.live h };
  }

-- ---- a number

module _ (old one : State) (here : Pos) (v wanted : ℕ) (opened : IsOpened old one v) where
  abbrev own : Place → Links → Links
  own q links = (v, at (child q 0)) ∷ links

  still : (q : Place) (links : Links) (w : Wanted) → Has links wanted w → Has ((v, at (child q 0)) ∷ links) wanted w
  still q links w h = has_still (tells_more v (at (child q 0)) (tells_same links)) h

  number_step : (two new : State) → AsksClass one two here v Number → AsksSame two new here v wanted → (real : Bool) (a : Around) (links : Links) (scope : Scope) (q : Place) (w : Wanted)
      → a.depth ≡ old.depth → AreLive a.depth old.store links → Has links wanted w
      → Step real a (below q) (InClass here (at (child q 0)) Number ∷ Same here (at (child q 0)) w ∷ []) old.store links new.store links
  number_step two new class same real a links scope q w e live has =
      let t = at (child q 0) in
      let open_walk = opened.walk a links (child q 0) e live in
      let there = open_walk.live live in
      let f = e ∙ sym opened.follows.depth in
      let class_walk = class.walk a (own q links) t f there (has_new v t links) in
      let same_walk = same.walk a (own q links) t w (f ∙ sym class.follows.depth) (class_walk.live there) (has_new v t links) (still q links w has) in
      whole refl (tells_more v t (tells_same links)) live
      (on (In (Child Here 0) Itself) refl (plain tt open_walk) (on Nowhere refl (plain (refl, tt) class_walk) (last Nowhere (plain (refl, tt) same_walk))))

  pub number_walked : (two new : State) → AsksClass one two here v Number → AsksSame two new here v wanted → WalksAlone wanted (of_number here) old new
  number_walked two new class same = record {
    follows = follows_on old one new opened.follows (follows_on one two new class.follows same.follows);
    walked = λ code. record {
      walk = λ a links scope q w s h. (number_step two new class same false a links scope q w s.around.depth s.live h).walk;
      passes = λ a links scope w s h. (number_step two new class same true a links scope old.place w s.around.depth s.live h).passes refl;
    };
  }

  no_class : (new : State) (bad : Bad) → RefusesClass one new here v Number bad → (a : Around) (links : Links) (q : Place) (w : Wanted) → a.depth ≡ old.depth
      → AreLive a.depth old.store links → Fails a old.store links (below q) (InClass here (at (child q 0)) Number ∷ Same here (at (child q 0)) w ∷ []) bad new.store
  no_class new bad refuses a links q w e live =
      let t = at (child q 0) in
      let open_walk = opened.walk a links (child q 0) e live in
      stopped refl (past (In (Child Here 0) Itself) refl (plain tt open_walk)
      (ends Nowhere (refuses.fails a (own q links) none t (Same here t w ∷ []) (has_new v t links))))

  pub number_no_class : (new : State) (bad : Bad) → RefusesClass one new here v Number bad → StopsAlone wanted (of_number here) old new bad
  number_no_class new bad refuses = record {
    stopped = λ code. record { fails = λ a links scope w s h. no_class new bad refuses a links old.place w s.around.depth s.live };
  }

  no_same : (two new : State) (bad : Bad) → AsksClass one two here v Number → RefusesSame two new here v wanted bad → (a : Around) (links : Links) (q : Place) (w : Wanted)
      → a.depth ≡ old.depth → AreLive a.depth old.store links → Has links wanted w
      → Fails a old.store links (below q) (InClass here (at (child q 0)) Number ∷ Same here (at (child q 0)) w ∷ []) bad new.store
  no_same two new bad class refuses a links q w e live has =
      let t = at (child q 0) in
      let open_walk = opened.walk a links (child q 0) e live in
      let class_walk = class.walk a (own q links) t (e ∙ sym opened.follows.depth) (open_walk.live live) (has_new v t links) in
      stopped refl (past (In (Child Here 0) Itself) refl (plain tt open_walk)
      (past Nowhere refl (plain (refl, tt) class_walk)
      (ends Nowhere (refuses.fails a (own q links) none t w [] (has_new v t links) (still q links w has)))))

  pub number_no_same : (two new : State) (bad : Bad) → AsksClass one two here v Number → RefusesSame two new here v wanted bad → StopsAlone wanted (of_number here) old new bad
  number_no_same two new bad class refuses = record {
    stopped = λ code. record { fails = λ a links scope w s h. no_same two new bad class refuses a links old.place w s.around.depth s.live h };
  }
