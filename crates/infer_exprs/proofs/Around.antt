-- What is done before and after the value of a pattern.
use Rattle.std.proofs.Common.{◌≡◌, ℕ, List, refl, sym, ap, ◌∙◌, subst}
use Rattle.elm_base.specs.declared.position.Pos.{Pos}
use Rattle.elm_canon.specs.Tree.{Pattern, Destructure}
use Rattle.type_items.specs.Items.{Place, child, Wanted}
use Rattle.type_items.specs.Patterns.{pattern_start}
use Rattle.type_items.specs.Expressions.{items, nowhere, group_definitions}
use Rattle.type_store.proofs.Solution.{choice_fits}
use Rattle.type_walks.specs.Regions.{below}
use Rattle.type_walks.proofs.Saying.{says_later, says_with_more}
use Rattle.type_walks.proofs.Telling.{tells_principal}
use Rattle.type_constructs.specs.Failing.{Large}
use Rattle.infer_steps.specs.Codes.{Code, State, Bound, with_bound}
use Rattle.infer_patterns.specs.Matches.{MatchesPattern}
use Rattle.infer_steps.specs.Made.{IsOpened}
use Rattle.infer_steps.proofs.Stepping.{still_live}
use Rattle.infer_groups.specs.Defined.{IsSmallIn, IsLargeIn, at_child, inside, moved}
use Rattle.infer_groups.specs.Members.{Named, GroupDone}
use Rattle.infer_groups.specs.Laws.{bound_named, PatternIsDone}
use Rattle.infer_groups.proofs.Deeper.{ready_deeper}
use Rattle.infer_groups.proofs.Patterns.{pattern_done}
use Rattle.infer_parts.specs.Steps.{CanWalk, one, Went, Stuck}
use Rattle.infer_parts.specs.Parts.{listed}
use Rattle.infer_parts.proofs.Going.{walked_went}
use Rattle.infer_parts.proofs.Placing.{can_child, can_on}
use Rattle.infer_parts.proofs.Coding.{can_bound}
use Rattle.infer_exprs.specs.Begun.{PatternBegun, PatternStops, ValueStops, PatternEnds, PatternIsLarge}
use Rattle.infer_exprs.proofs.Stopping.{follows_at, value_stops, value_large}

-- one definition deeper it can go on too
pub can_inside : (code : Code) (s : State) (i : ℕ) → CanWalk code s → CanWalk code (inside s i)
can_inside code s i can = record {
  ready = ready_deeper code s.depth s.store can.ready;
  clear = (can_child code s i can).clear;
}

module _ (code : Code) (p : Pattern) (i v : ℕ) (old mid : State) (can : CanWalk code old)
    (place : mid.place ≡ child (child old.place i) 0)
    (opened : IsOpened (inside old i) (moved mid (child old.place i)) v) where
  pub can_mid : CanWalk code mid
  can_mid =
      let there = can_on code (inside old i) (moved mid (child old.place i)) (can_inside code old i can) opened.follows
      in
      subst (CanWalk code) (sym (ap (λ q. moved mid q) place)) (can_child code (moved mid (child old.place i)) 0 there)

  pub begins : (here : Pos) (bound : List Bound) (names : List Named) (inner : Code) (now : State)
      → here ≡ pattern_start nowhere p → MatchesPattern code.known here v p bound mid now
      → names ≡ bound_named bound → inner ≡ with_bound bound code → PatternBegun code inner p i v names old now
  begins here bound names inner now at m named is = record {
    bound = bound;
    named = named;
    scope = is;
    before = can.ready;
    mid = mid;
    place = place;
    opened = opened;
    follows = m.follows;
    bound_live = m.live;
    matched = (subst (λ (h : Pos). MatchesPattern code.known h v p bound mid now) at m).matched;
    can = subst (λ (c : Code). CanWalk c now) (sym is)
        (can_bound code now bound m.live (can_on code mid now can_mid m.follows));
    live = still_live mid now v m.follows opened.live;
  }

pub ends : PatternIsDone → (here : Pos) (v : ℕ) (x new : State) → IsSmallIn x.store v
    → ((s : State) (i j : ℕ) → x ≡ record s { place = child (child s.place i) j } → new ≡ s)
    → PatternEnds here v x new
ends done here v x new small back code inner p e i names old now at begun went =
    let there = child old.place i in
    let named = subst (λ (c : Code). Went Wanted c (one v) below (listed e (pattern_start nowhere p)) (at_child now 1)
    x)
    begun.scope (subst (λ (h : Pos). Went Wanted inner (one v) below (listed e h) (at_child now 1) x) at went) in
    let whole = done code p e i v begun.bound old begun.mid now x begun.before begun.place begun.opened begun.follows
    begun.bound_live begun.matched named.follows
    (walked_went (with_bound begun.bound code) v (λ s q w. items e s (pattern_start nowhere p) q w) (at_child now 1) x
    named) small in
    let is : x ≡ record (moved x there) { place = child (child there 0) 1 } =
    ap (λ q. moved x q) (went.follows.place ∙ ap (λ q. child q 1) (begun.follows.place ∙ begun.place)) in
    subst (λ (ns : List Named). GroupDone code (group_definitions (Destructure p e)) i ns old new) (sym begun.named)
    (subst (λ (s : State). GroupDone code (group_definitions (Destructure p e)) i (bound_named begun.bound) old s)
    (sym (back (moved x there) 0 1 is)) whole)

pub value_law : ValueStops
value_law code inner p e i v names old now new bad begun stuck =
    value_stops code p e i v old begun.mid begun.before begun.opened begun.bound now begun.place begun.follows
    begun.bound_live begun.matched new bad
    (subst (λ (c : Code). Stuck Wanted c (one v) below (listed e (pattern_start nowhere p)) (at_child now 1) new bad)
    begun.scope stuck)

pub large : (here : Pos) (v : ℕ) (x : State) → IsLargeIn x.store v → PatternIsLarge here v x x (Large here v)
large here v x large_ code inner p e i names old now at begun went =
    let named = subst (λ (c : Code). Went Wanted c (one v) below (listed e (pattern_start nowhere p)) (at_child now 1)
    x)
    begun.scope (subst (λ (h : Pos). Went Wanted inner (one v) below (listed e h) (at_child now 1) x) at went) in
    subst (λ (h : Pos). PatternStops code p e i old x (Large h v)) (sym at)
    (value_large code p e i v old begun.mid begun.before begun.opened begun.bound now begun.place begun.follows
    begun.bound_live begun.matched (tells_principal choice_fits) x x named large_ refl)

pub pattern_is_done : PatternIsDone
pattern_is_done code p e i v bound old mid u x ready place opened f live matched g walked small =
    pattern_done choice_fits says_later says_with_more (tells_principal choice_fits) code p e i v bound old mid u x
    ready
    place opened f live matched g walked small

-- a variable that was made serves whatever the place of the state
pub opened_at : (old new : State) (p : Place) (v : ℕ) → IsOpened old new v → IsOpened (moved old p) (moved new p) v
opened_at old new p v o = record { follows = follows_at old new p o.follows; live = o.live; walk = o.walk }
