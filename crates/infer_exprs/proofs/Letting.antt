-- A let: its definitions, and its body in their scope.
use Rattle.std.proofs.Common.{◌≡◌, ℕ, sym, ap, ◌∙◌, subst}
use Rattle.elm_base.specs.declared.position.Pos.{Pos}
use Rattle.elm_canon.specs.Tree.{Groups, Expr, Let}
use Rattle.type_items.specs.Items.{child, Wanted}
use Rattle.type_items.specs.Definitions.{list_definitions}
use Rattle.type_items.specs.Expressions.{definitions}
use Rattle.type_constructs.specs.Failing.{Bad}
use Rattle.type_walks.specs.Regions.{below}
use Rattle.infer_steps.specs.Codes.{Code, State}
use Rattle.infer_steps.specs.Promises.{Walked}
use Rattle.infer_steps.specs.Ready.{Follows}
use Rattle.infer_steps.proofs.Staying.{follows_on}
use Rattle.infer_groups.specs.Defined.{Defined, DefinitionsStop, at_child}
use Rattle.infer_groups.specs.Defined as groups
use Rattle.infer_groups.proofs.Lets.{let_is_walked, let_stops, body_stops}
use Rattle.infer_parts.specs.Steps.{CanWalk, one, Went, Stuck}
use Rattle.infer_parts.specs.Parts.{listed}
use Rattle.infer_parts.proofs.Going.{went_walked, walked_went, stuck_stopped, stopped_stuck}
use Rattle.infer_parts.proofs.Placing.{moved, follows_back, can_on, can_child}

module _ (code : Code) (gs : Groups) (e : Expr) (here : Pos) (w : ℕ) (old : State) where
  pub let_refused : (new : State) (bad : Bad)
      → DefinitionsStop code below (list_definitions (definitions gs)) (at_child old 0) new bad
      → Stuck Wanted code (one w) below (listed (Let gs e) here) old new bad
  let_refused new bad stop =
      stuck_stopped code w (listed (Let gs e) here) old new bad (let_stops code gs e here w old new bad stop)

  module _ (inner : Code) (mid entered : State) (follows : Follows old mid)
      (defined : Defined code inner below (list_definitions (definitions gs)) (at_child old 0) (at_child mid 0))
      (is : entered ≡ moved mid (child mid.place 1)) where
    -- where the body stands
    there : entered ≡ groups.moved (at_child mid 0) (child old.place 1)
    there = is ∙ ap (λ q. moved mid (child q 1)) follows.place

    -- it can go on there
    pub body_can : CanWalk code old → CanWalk inner entered
    body_can can =
        subst (CanWalk inner) (sym is)
        (can_child inner mid 1
        (record { ready = defined.ready; clear = (can_on code old mid can follows).clear }))

    pub let_done : (x new : State) → Went Wanted inner (one w) below (listed e here) entered x
        → new ≡ moved x mid.place → Went Wanted code (one w) below (listed (Let gs e) here) old new
    let_done x new went back =
        let body = walked_went inner w (listed e here) (groups.moved (at_child mid 0) (child old.place 1)) x
        (subst (λ s. Went Wanted inner (one w) below (listed e here) s x) there went) in
        let whole = let_is_walked code inner gs e here w old (at_child mid 0) x defined body in
        let on = follows_on old mid (moved x mid.place) follows
        (follows_back mid x (child mid.place 1) (subst (λ s. Follows s x) is went.follows)) in
        let same : groups.moved x old.place ≡ moved x mid.place = ap (λ q. moved x q) (sym follows.place) in
        subst (λ s. Went Wanted code (one w) below (listed (Let gs e) here) old s) (sym back)
        (went_walked code w (listed (Let gs e) here) old (moved x mid.place) on
        (subst (λ s. Walked code w (listed (Let gs e) here) old s) same whole))

    pub body_refused : (x : State) (bad : Bad) → Stuck Wanted inner (one w) below (listed e here) entered x bad
        → Stuck Wanted code (one w) below (listed (Let gs e) here) old x bad
    body_refused x bad stuck =
        let body = stopped_stuck inner w (listed e here) (groups.moved (at_child mid 0) (child old.place 1)) x bad
        (subst (λ s. Stuck Wanted inner (one w) below (listed e here) s x bad) there stuck) in
        stuck_stopped code w (listed (Let gs e) here) old x bad
        (body_stops code inner gs e here w old (at_child mid 0) x bad defined body)

    -- it came back
    pub body_there : (x : State) → Follows entered x
        → x ≡ record (moved x mid.place) { place = child (moved x mid.place).place 1 }
    body_there x f = ap (λ q. moved x q) (subst (λ s. Follows s x) is f).place
