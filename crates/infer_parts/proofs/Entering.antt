-- Patterns, and what stands after them with the names that they bind.
use Rattle.std.proofs.Common.{◌≡◌, ℕ, suc, List, [], ◌∷◌, ◌++◌, length, drop, true, refl}
use Rattle.std.proofs.Common.{sym, ap, ◌∙◌, subst}
use Rattle.std.proofs.lemmas.List.{append-nil}
use Rattle.std.specs.List.{AllZip}
use Rattle.elm_base.specs.declared.position.Pos.{Pos}
use Rattle.elm_canon.specs.Tree.{Pattern, Expr, patterns_of}
use Rattle.elm_canon.specs.Proper.{count_of}
use Rattle.type_items.specs.Items.{Place, child, Wanted}
use Rattle.type_items.specs.Scopes.{Scope, Known}
use Rattle.type_items.specs.Patterns.{pattern_items, patterns_items, bind_pattern, bind_patterns}
use Rattle.type_items.specs.Expressions.{items}
use Rattle.type_constructs.specs.Failing.{Bad, Fails}
use Rattle.type_walks.specs.Regions.{Region, below, only, either, Inside, Apart}
use Rattle.type_walks.specs.Links.{Links, Has}
use Rattle.type_walks.proofs.Regions.{either_inside}
use Rattle.type_walks.proofs.Linking.{left_inside, right_inside}
use Rattle.type_walks.proofs.Saying.{says_later, says_with_more}
use Rattle.type_constructs.proofs.Failing.{fails_after, fails_earlier}
use Rattle.type_constructs.specs.Regions.{tops, deep}
use Rattle.type_constructs.proofs.Spots.{Here, Child, Itself, Below, Tops, Deep, In, atoms_apart, atom_inside}
use Rattle.type_constructs.proofs.Sizes.{pattern_sizes, patterns_sizes}
use Rattle.type_constructs.proofs.Chains.{has_still}
use Rattle.infer_steps.specs.Codes.{Code, State, Bound, with_bound}
use Rattle.infer_steps.specs.Ready.{IsReady}
use Rattle.infer_steps.proofs.Staying.{follows_on, setting_later}
use Rattle.infer_steps.proofs.Entering.{setting_binds}
use Rattle.infer_patterns.specs.Matches.{MatchesPattern, RefusesPattern, MatchesEach, RefusesEach}
use Rattle.infer_patterns.specs.Scopes.{EntersPattern, EntersEach}
use Rattle.infer_patterns.proofs.Entering as entering
use Rattle.infer_steps.specs.Begun.{Begun, BeginStops}
use Rattle.infer_steps.specs.Operations.{parameters, function_types}
use Rattle.infer_steps.specs.Operations as ops
use Rattle.infer_parts.specs.Steps.{Lists, Saying, one, two, each, Went, Stuck}
use Rattle.infer_parts.specs.Parts.{part_of, part_place, type_at, branch_of, function_of}
use Rattle.infer_parts.proofs.Going.{step_on, step_forgets, plain_step, went_as, stuck_as, closes, sticks, same_inside}
use Rattle.infer_parts.proofs.Going.{either_apart, apart_either}
use Rattle.infer_parts.proofs.Operating.{begun_opens, begin_stuck}

enters_pattern : EntersPattern
enters_pattern = entering.enters_pattern (setting_later says_later) (setting_binds says_with_more)

enters_each : EntersEach
enters_each = entering.enters_each (setting_later says_later) (setting_binds says_with_more)

-- ---- regions

first_below : (i : ℕ) (q : Place) → Inside (part_place i q) (below q)
first_below i q = atom_inside q (In (Child Here i) Below) refl

firsts_apart : (q : Place) → Apart (part_place 0 q) (part_place 1 q)
firsts_apart q = atoms_apart q (In (Child Here 0) Below) (In (Child Here 1) Below) refl

-- ---- a pattern, and an expression after it

module _ (code : Code) (here : Pos) (p : Pattern) (e : Expr) (v w : ℕ) (old : State)
    (ready : IsReady code old.depth old.store) where
  pub branch_went : (bound : List Bound) (mid new : State) → MatchesPattern code.known here v p bound old mid
      → Went Wanted (with_bound bound code) (one w) (part_place 1) (part_of e here 1) mid new
      → Went (Wanted × Wanted) code (two v w) below (branch_of p e here) old new
  branch_went bound mid new m two = record {
    follows = follows_on old mid new m.follows two.follows;
    step = λ real a links scope q ts real_at set has. (
        let b = enters_pattern code here v p bound old mid ready m a links scope (child q 0) ts.0 set has.0 in
        let after = b.matched.after in
        let inner = bind_pattern p (child q 0) ts.0 scope in
        let s2 = two.step real a after inner q ts.1 (λ r. real_at r ∙ sym m.follows.place) b.setting
        (has_still b.matched.tells has.1) in
        step_forgets real a (below q) (branch_of p e here scope q ts) old.store new.store links after b.matched.tells
        set.live
        (step_on real a (part_place 0 q) (part_place 1 q) (below q) (pattern_items p scope.known here (child q 0) ts.0)
        (items e inner here (child q 1) ts.1)
        old.store mid.store new.store links after after (firsts_apart q) (first_below 0 q) (first_below 1 q) set.live
        (plain_step real a (part_place 0 q) (pattern_items p scope.known here (child q 0) ts.0) old.store mid.store
        links after
        (pattern_sizes p scope.known here (child q 0) ts.0) b.matched.walk) s2));
  }

  pub branch_refused : (new : State) (bad : Bad) → RefusesPattern code.known here v p bad old new
      → Stuck (Wanted × Wanted) code (two v w) below (branch_of p e here) old new bad
  branch_refused new bad r = record {
    fails = λ a links scope q ts at set has. (
        let same = entering.same_known a links code scope old set in
        fails_earlier a old.store links (part_place 0 q) (below q) (pattern_items p scope.known here (child q 0) ts.0)
        (items e (bind_pattern p (child q 0) ts.0 scope) here (child q 1) ts.1) bad new.store (first_below 0 q)
        (subst (λ (k : Known). Fails a old.store links (part_place 0 q) (pattern_items p k here (child q 0) ts.0) bad
        new.store) same
        (r.fails a links (child q 0) ts.0 set.around.depth set.live has.0)));
  }

  pub branch_stuck : (bound : List Bound) (mid new : State) (bad : Bad)
      → MatchesPattern code.known here v p bound old mid
      → Stuck Wanted (with_bound bound code) (one w) (part_place 1) (part_of e here 1) mid new bad
      → Stuck (Wanted × Wanted) code (two v w) below (branch_of p e here) old new bad
  branch_stuck bound mid new bad m s = record {
    fails = λ a links scope q ts at set has. (
        let b = enters_pattern code here v p bound old mid ready m a links scope (child q 0) ts.0 set has.0 in
        let after = b.matched.after in
        let inner = bind_pattern p (child q 0) ts.0 scope in
        let first = plain_step true a (part_place 0 q) (pattern_items p scope.known here (child q 0) ts.0) old.store
        mid.store links after
        (pattern_sizes p scope.known here (child q 0) ts.0) b.matched.walk in
        fails_after a (part_place 0 q) (part_place 1 q) (below q) (pattern_items p scope.known here (child q 0) ts.0)
        (items e inner here (child q 1) ts.1)
        old.store mid.store new.store links after bad (firsts_apart q) (first_below 0 q) (first_below 1 q) first.walk
        (first.passes refl)
        (s.fails a after inner q ts.1 (at ∙ sym m.follows.place) b.setting (has_still b.matched.tells has.1)));
  }

-- ---- parameters, and the body of a function after them

abbrev Bodied : Type 0
Bodied = Wanted × List Wanted

-- of the value, and of the parameters
abbrev bodied : ℕ → List ℕ → Saying Bodied
bodied r vs links ts = Has links r ts.0 × AllZip (Has links) vs ts.1

abbrev body_of : List Pattern → Expr → Pos → Lists Bodied
body_of ps e here scope q ts =
    patterns_items (patterns_of ps) scope.known here (child q 0) 0 ts.1
    ++ items e (bind_patterns (patterns_of ps) (child q 0) ts.1 scope) here (child q 1) ts.0

abbrev body_region : List Pattern → Place → Region
body_region ps q = either (deep (child q 0) 0 (length ps)) (part_place 1 q)

patterns_apart : (n : ℕ) (q : Place) → Apart (deep (child q 0) 0 n) (part_place 1 q)
patterns_apart n q = atoms_apart q (In (Child Here 0) (Deep 0 n)) (In (Child Here 1) Below) refl

begun_apart : (n m : ℕ) (q : Place) → Apart (parameters n q) (either (deep (child q 0) 0 m) (part_place 1 q))
begun_apart n m q =
    either_apart (tops (child q 0) 0 n) (only (child q 1)) (either (deep (child q 0) 0 m) (part_place 1 q))
    (apart_either (deep (child q 0) 0 m) (part_place 1 q) (tops (child q 0) 0 n)
    (atoms_apart q (In (Child Here 0) (Tops 0 n)) (In (Child Here 0) (Deep 0 m)) refl)
    (atoms_apart q (In (Child Here 0) (Tops 0 n)) (In (Child Here 1) Below) refl))
    (apart_either (deep (child q 0) 0 m) (part_place 1 q) (only (child q 1))
    (atoms_apart q (In (Child Here 1) Itself) (In (Child Here 0) (Deep 0 m)) refl)
    (atoms_apart q (In (Child Here 1) Itself) (In (Child Here 1) Below) refl))

parameters_below : (n : ℕ) (q : Place) → Inside (parameters n q) (below q)
parameters_below n q =
    either_inside (tops (child q 0) 0 n) (only (child q 1)) (below q)
    (atom_inside q (In (Child Here 0) (Tops 0 n)) refl)
    (atom_inside q (In (Child Here 1) Itself) refl)

body_below : (ps : List Pattern) (q : Place) → Inside (body_region ps q) (below q)
body_below ps q =
    either_inside (deep (child q 0) 0 (length ps)) (part_place 1 q) (below q)
    (atom_inside q (In (Child Here 0) (Deep 0 (length ps))) refl) (first_below 1 q)

pub count_patterns : (ps : List Pattern) → count_of (patterns_of ps) ≡ length ps
count_patterns [] = refl
count_patterns (p ∷ ps) = ap suc (count_patterns ps)

module _ (code : Code) (here : Pos) (ps : List Pattern) (e : Expr) (r : ℕ) (vs : List ℕ) where
  -- after the function was begun
  module _ (old : State) (ready : IsReady code old.depth old.store) where
    body_went : (bound : List Bound) (mid new : State) → MatchesEach code.known here vs ps bound old mid
        → Went Wanted (with_bound bound code) (one r) (part_place 1) (part_of e here 1) mid new
        → Went Bodied code (bodied r vs) (body_region ps) (body_of ps e here) old new
    body_went bound mid new m two = record {
      follows = follows_on old mid new m.follows two.follows;
      step = λ real a links scope q ts real_at set has. (
          let b = enters_each code here vs ps bound old mid ready m a links scope (child q 0) ts.1 set has.1 in
          let after = b.matched.after in
          let inner = bind_patterns (patterns_of ps) (child q 0) ts.1 scope in
          let s2 = two.step real a after inner q ts.0 (λ x. real_at x ∙ sym m.follows.place) b.setting
          (has_still b.matched.tells has.0) in
          step_forgets real a (body_region ps q) (body_of ps e here scope q ts) old.store new.store links after
          b.matched.tells set.live
          (step_on real a (deep (child q 0) 0 (length ps)) (part_place 1 q) (body_region ps q)
          (patterns_items (patterns_of ps) scope.known here (child q 0) 0 ts.1) (items e inner here (child q 1) ts.0)
          old.store mid.store new.store links after after (patterns_apart (length ps) q)
          (left_inside (deep (child q 0) 0 (length ps)) (part_place 1 q))
          (right_inside (deep (child q 0) 0 (length ps)) (part_place 1 q)) set.live
          (plain_step real a (deep (child q 0) 0 (length ps))
          (patterns_items (patterns_of ps) scope.known here (child q 0) 0 ts.1) old.store mid.store links after
          (patterns_sizes (patterns_of ps) scope.known here (child q 0) 0 ts.1) b.matched.walk) s2));
    }

    body_refused : (new : State) (bad : Bad) → RefusesEach code.known here vs ps bad old new
        → Stuck Bodied code (bodied r vs) (body_region ps) (body_of ps e here) old new bad
    body_refused new bad x = record {
      fails = λ a links scope q ts at set has. (
          let same = entering.same_known a links code scope old set in
          fails_earlier a old.store links (deep (child q 0) 0 (length ps)) (body_region ps q)
          (patterns_items (patterns_of ps) scope.known here (child q 0) 0 ts.1)
          (items e (bind_patterns (patterns_of ps) (child q 0) ts.1 scope) here (child q 1) ts.0) bad new.store
          (left_inside (deep (child q 0) 0 (length ps)) (part_place 1 q))
          (subst (λ (k : Known). Fails a old.store links (deep (child q 0) 0 (length ps))
          (patterns_items (patterns_of ps) k here (child q 0) 0 ts.1) bad new.store) same
          (x.fails a links (child q 0) ts.1 set.around.depth set.live has.1)));
    }

    body_stuck : (bound : List Bound) (mid new : State) (bad : Bad) → MatchesEach code.known here vs ps bound old mid
        → Stuck Wanted (with_bound bound code) (one r) (part_place 1) (part_of e here 1) mid new bad
        → Stuck Bodied code (bodied r vs) (body_region ps) (body_of ps e here) old new bad
    body_stuck bound mid new bad m s = record {
      fails = λ a links scope q ts at set has. (
          let b = enters_each code here vs ps bound old mid ready m a links scope (child q 0) ts.1 set has.1 in
          let after = b.matched.after in
          let inner = bind_patterns (patterns_of ps) (child q 0) ts.1 scope in
          let first = plain_step true a (deep (child q 0) 0 (length ps))
          (patterns_items (patterns_of ps) scope.known here (child q 0) 0 ts.1) old.store mid.store
          links after (patterns_sizes (patterns_of ps) scope.known here (child q 0) 0 ts.1) b.matched.walk in
          fails_after a (deep (child q 0) 0 (length ps)) (part_place 1 q) (body_region ps q)
          (patterns_items (patterns_of ps) scope.known here (child q 0) 0 ts.1)
          (items e inner here (child q 1) ts.0) old.store mid.store new.store links after bad
          (patterns_apart (length ps) q)
          (left_inside (deep (child q 0) 0 (length ps)) (part_place 1 q))
          (right_inside (deep (child q 0) 0 (length ps)) (part_place 1 q)) first.walk (first.passes refl)
          (s.fails a after inner q ts.0 (at ∙ sym m.follows.place) b.setting (has_still b.matched.tells has.0)));
    }

  -- the whole function
  abbrev split_types : List Wanted → Bodied
  split_types ts = (type_at ts 0, drop 1 ts)

  split_has : (links : Links) (ts : List Wanted) → AllZip (Has links) (r ∷ vs) ts → bodied r vs links (split_types ts)
  split_has links [] has = absurd has
  split_has links (t ∷ ts) has = has

  asked_first : (n : ℕ) (scope : Scope) (q : Place) (w : Wanted) → length ps ≡ n
      → ops.function_items n here scope q w ++ body_of ps e here scope q (split_types (function_types n scope q w)) ≡
      function_of ps e here scope q w
  asked_first n scope q w count =
      ap (λ k. ops.function_items k here scope q w ++ body_of ps e here scope q
      (split_types (function_types k scope q w))) (sym (count_patterns ps ∙ count))

  module _ (v n : ℕ) (old begun : State) (ready : IsReady code old.depth old.store) (count : length ps ≡ n)
      (b : Begun code v (parameters n) (ops.function_items n here) (r ∷ vs) (function_types n) old begun) where
    pub function_went : (ready_then : IsReady code begun.depth begun.store) (bound : List Bound) (mid new : State)
        → MatchesEach code.known here vs ps bound begun mid → Went Wanted (with_bound bound code) (one r) (part_place 1)
        (part_of e here 1) mid new
        → Went Wanted code (one v) below (function_of ps e here) old new
    function_went ready_then bound mid new m w =
        closes Wanted (List Wanted) code (one v) (each (r ∷ vs)) (function_types n) (parameters n) (body_region ps)
        below (ops.function_items n here)
        (λ scope q ts. body_of ps e here scope q (split_types ts)) (function_of ps e here) old begun ready
        (begun_apart n (length ps)) (parameters_below n)
        (body_below ps) (λ links scope q t has. asked_first n scope q t count)
        (begun_opens code v (parameters n) (ops.function_items n here) (r ∷ vs) (function_types n) old begun b) new
        (went_as Bodied (List Wanted) code (bodied r vs) (each (r ∷ vs)) (body_region ps) (body_region ps)
        (body_of ps e here)
        (λ scope q ts. body_of ps e here scope q (split_types ts)) begun new (λ scope q ts. split_types ts)
        (λ links scope q ts has. split_has links ts has)
        (λ q. same_inside (body_region ps q)) (λ links scope q ts has. refl)
        (body_went begun ready_then bound mid new m w))

    part_stuck : (new : State) (bad : Bad) → Stuck Bodied code (bodied r vs) (body_region ps)
        (body_of ps e here) begun new bad
        → Stuck Wanted code (one v) below (function_of ps e here) old new bad
    part_stuck new bad s =
        sticks Wanted (List Wanted) code (one v) (each (r ∷ vs)) (function_types n) (parameters n) (body_region ps)
        below (ops.function_items n here)
        (λ scope q ts. body_of ps e here scope q (split_types ts)) (function_of ps e here) old begun ready
        (begun_apart n (length ps)) (parameters_below n)
        (body_below ps) (λ links scope q t has. asked_first n scope q t count)
        (begun_opens code v (parameters n) (ops.function_items n here) (r ∷ vs) (function_types n) old begun b) new bad
        (stuck_as Bodied (List Wanted) code (bodied r vs) (each (r ∷ vs)) (body_region ps) (body_region ps)
        (body_of ps e here)
        (λ scope q ts. body_of ps e here scope q (split_types ts)) begun new bad (λ scope q ts. split_types ts)
        (λ scope q ts. [])
        (λ links scope q ts has. split_has links ts has) (λ q. same_inside (body_region ps q))
        (λ links scope q ts has. append-nil (body_of ps e here scope q (split_types ts))) s)

    pub function_refused : (ready_then : IsReady code begun.depth begun.store) (new : State) (bad : Bad)
        → RefusesEach code.known here vs ps bad begun new
        → Stuck Wanted code (one v) below (function_of ps e here) old new bad
    function_refused ready_then new bad x = part_stuck new bad (body_refused begun ready_then new bad x)

    pub function_stuck : (ready_then : IsReady code begun.depth begun.store) (bound : List Bound) (mid new : State)
        (bad : Bad)
        → MatchesEach code.known here vs ps bound begun mid → Stuck Wanted (with_bound bound code) (one r)
        (part_place 1) (part_of e here 1) mid new bad
        → Stuck Wanted code (one v) below (function_of ps e here) old new bad
    function_stuck ready_then bound mid new bad m s =
        part_stuck new bad (body_stuck begun ready_then bound mid new bad m s)

  pub function_unbegun : (v n : ℕ) (old new : State) (bad : Bad) → length ps ≡ n
      → BeginStops code v (parameters n) (ops.function_items n here) old new bad → Stuck Wanted code (one v) below
      (function_of ps e here) old new bad
  function_unbegun v n old new bad count s =
      stuck_as Wanted Wanted code (one v) (one v) (parameters n) below (ops.function_items n here)
      (function_of ps e here) old new bad (λ scope q w. w)
      (λ scope q w. body_of ps e here scope q (split_types (function_types n scope q w))) (λ links scope q w has. has)
      (parameters_below n)
      (λ links scope q w has. asked_first n scope q w count)
      (begin_stuck code v (parameters n) (ops.function_items n here) old new bad s)
