-- A chain: its links are opened from the last to the first, and closed from the first to the last.
use Rattle.std.proofs.Common.{◌≡◌, ℕ, suc, ◌+◌, ◌<◌, List, [], ◌∷◌, ◌++◌, length, get_or, refl, sym, ap, ◌∙◌}
use Rattle.std.proofs.Common.{subst, arith}
use Rattle.std.specs.List.{AllByRecursion}
use Rattle.elm_base.specs.declared.position.Pos.{Pos}
use Rattle.elm_canon.specs.Tree.{Op, Expr, Strict, Apply, Logical, exprs_of}
use Rattle.elm_canon.specs.View.{LinkView, Given, Composed, After, Before, Decided, done, linked}
use Rattle.type_items.specs.Items.{child, Wanted}
use Rattle.type_constructs.specs.Failing.{Bad}
use Rattle.type_walks.specs.Regions.{below}
use Rattle.type_walks.specs.Links.{Live}
use Rattle.infer_steps.specs.Codes.{Code, State}
use Rattle.infer_steps.specs.Ready.{Follows}
use Rattle.infer_steps.proofs.Staying.{follows_on}
use Rattle.infer_steps.proofs.Stepping.{all_still_live}
use Rattle.infer_parts.specs.Steps.{CanWalk, one, Went, Stuck}
use Rattle.infer_parts.specs.Parts.{IsStrict, listed, operand_of, operand_place, GoesOnAt, StopsOnAt, known_count}
use Rattle.infer_parts.specs.Parts.{OpOpens, CallOpens}
use Rattle.infer_parts.specs.Chains.{inner, IsInside, OpensOne, Closable, Closed, DecidedOpens}
use Rattle.infer_parts.specs.Chains.{Waits, Winding}
use Rattle.elm_canon.specs.declared.tree.Connective.{Connective}
use Rattle.infer_parts.specs.Formed.{FormedOp}
use Rattle.infer_parts.proofs.Placing.{moved, can_child, can_on, follows_back, still_there}
use Rattle.infer_parts.proofs.Showing.{live_at}
use Rattle.infer_parts.proofs.Turning.{known_enough}
use Rattle.infer_parts.proofs.Chaining.{inner_went, given_closes, composed_closes, composed_stuck, after_closes}
use Rattle.infer_parts.proofs.Chaining.{after_stuck, before_closes, before_go_stuck, before_stuck, waits_stuck}
use Rattle.infer_parts.proofs.Choosing.{decided_closes}

-- ---- the last of a list

front : {X : Type 0} → List X → List X
front [] = []
front (x ∷ []) = []
front (x ∷ y ∷ xs) = x ∷ front (y ∷ xs)

last_or : {X : Type 0} → X → List X → X
last_or d [] = d
last_or d (x ∷ []) = x
last_or d (x ∷ y ∷ xs) = last_or d (y ∷ xs)

front_push : {X : Type 0} (xs : List X) (x : X) → front (xs ++ x ∷ []) ≡ xs
unfolding front
front_push [] x = refl
front_push (y ∷ []) x = refl
front_push (y ∷ z ∷ xs) x = ap (λ l. y ∷ l) (front_push (z ∷ xs) x)

last_push : {X : Type 0} (d : X) (xs : List X) (x : X) → last_or d (xs ++ x ∷ []) ≡ x
unfolding last_or
last_push d [] x = refl
last_push d (y ∷ []) x = refl
last_push d (y ∷ z ∷ xs) x = last_push d (z ∷ xs) x

pub last_same : {X : Type 0} (xs ys : List X) (x y : X) → xs ++ x ∷ [] ≡ ys ++ y ∷ [] → (xs ≡ ys) × (x ≡ y)
last_same xs ys x y e = (
  sym (front_push xs x) ∙ (ap front e ∙ front_push ys y),
  sym (last_push x xs x) ∙
      (ap (last_or x) e ∙ last_push x ys y),
)

-- ---- one link more is opened

pub waits_more : (code : Code) (here : Pos) (old : State) (w : ℕ) (l : LinkView) (ls : List LinkView)
    (others kept : List (List ℕ)) (inside now : State) (v u : ℕ)
    → Waits code here old w ls others inside v → OpensOne code here l others kept inside v now u → Waits code here old w
    (l ∷ ls) kept now u
waits_more code here old w l ls others kept inside now v u h o = record {
  others = others;
  own = o.own;
  is = o.is;
  before = inside;
  wanted = v;
  waits = h;
  opens = o.inside_is;
}

-- it stops
pub opening_stuck : (code : Code) (here : Pos) (old : State) (w : ℕ) (l : LinkView) (ls : List LinkView)
    (kept : List (List ℕ)) (inside : State) (v : ℕ)
    (e : Expr) (new : State) (bad : Bad) → Waits code here old w ls kept inside v
    → Stuck Wanted code (one v) below (listed (done l e) here) inside new bad
    → Stuck Wanted code (one w) below (listed (linked e (l ∷ ls)) here) old new bad
opening_stuck code here old w l ls kept inside v e new bad h s =
    waits_stuck code here old w ls kept inside v (done l e) new bad h s

-- ---- what is closed, and what waits

pub winds_end : (code : Code) (here : Pos) (old : State) (w : ℕ) (e : Expr) (kept : List (List ℕ)) (now : State)
    → Winding code here old w e [] kept now → Went Wanted code (one w) below (listed e here) old now
winds_end code here old w e kept now h =
    subst (λ x. Went Wanted code (one x) below (listed e here) old now) h.waits.1.1
    (subst (λ s. Went Wanted code (one h.variable) below (listed e here) s now) h.waits.1.0 h.went)

pub winds_closable : (code : Code) (here : Pos) (old : State) (w : ℕ) (e : Expr) (l : LinkView) (rest : List LinkView)
    (kept : List (List ℕ)) (now : State)
    → Winding code here old w e (l ∷ rest) kept now → Closable code here l kept now
winds_closable code here old w e l rest kept now h = record {
  others = h.waits.others;
  own = h.waits.own;
  is = h.waits.is;
  before = h.waits.before;
  wanted = h.waits.wanted;
  inside = h.inside;
  variable = h.variable;
  opens = h.waits.opens;
  follows = h.went.follows;
}

pub winds_on : (code : Code) (here : Pos) (old : State) (w : ℕ) (e : Expr) (l : LinkView) (rest : List LinkView)
    (kept left : List (List ℕ)) (now new : State)
    → (h : Winding code here old w e (l ∷ rest) kept now)
    → Closed code here l h.waits.others left h.waits.before h.waits.wanted e new
    → Winding code here old w (done l e) rest left new
winds_on code here old w e l rest kept left now new h c = record {
  inside = h.waits.before;
  variable = h.waits.wanted;
  waits = subst (λ k. Waits code here old w rest k h.waits.before h.waits.wanted) (sym c.is) h.waits.waits;
  went = c.went;
}

-- it stops while it is closed
pub winds_stuck : (code : Code) (here : Pos) (old : State) (w : ℕ) (e : Expr) (l : LinkView) (rest : List LinkView)
    (kept : List (List ℕ)) (now new : State) (bad : Bad)
    → (h : Winding code here old w e (l ∷ rest) kept now)
    → Stuck Wanted code (one h.waits.wanted) below (listed (done l e) here) h.waits.before new bad
    → Stuck Wanted code (one w) below (listed (linked e (l ∷ rest)) here) old new bad
winds_stuck code here old w e l rest kept now new bad h s =
    waits_stuck code here old w rest h.waits.others h.waits.before h.waits.wanted (done l e) new bad h.waits.waits s

-- ---- outside again

module _ (code : Code) (here : Pos) (l : LinkView) (kept : List ℕ) (old : State) (w : ℕ) (inside : State) (v : ℕ)
    (i : IsInside code here l kept old w inside v)
    (walked : State) (f : Follows inside walked) where
  -- the state with the place outside
  abbrev pub back : State
  back = moved walked i.outside.place

  pub back_follows : Follows i.outside back
  back_follows = follows_back i.outside walked (inner l i.outside.place) (subst (λ s. Follows s walked) i.at f)

  pub back_can : CanWalk code back
  back_can = can_on code old back i.can (follows_on old i.outside back i.follows back_follows)

  pub back_live : AllByRecursion (Live back.depth back.store) kept
  back_live = all_still_live i.outside back kept back_follows i.live

-- ---- inside

module _ (code : Code) (here : Pos) (kept : List ℕ) (old : State) (w : ℕ) (inside : State) (v : ℕ) where
  inner_can : (l : LinkView) (s : State) → CanWalk code s → CanWalk code (moved s (inner l s.place))
  inner_can (Given f es) s c = can_child code (moved s (child s.place 1)) (length es) (can_child code s 1 c)
  inner_can (Composed f a) s c = can_child code (moved s (child s.place 1)) 0 (can_child code s 1 c)
  inner_can (After op es) s c = can_child code (moved s (child s.place 0)) (length es) (can_child code s 0 c)
  inner_can (Before op a) s c = can_child code (moved s (child s.place 0)) 0 (can_child code s 0 c)
  inner_can (Decided pos c a) s d = can_child code s 1 d

  pub inside_can : (l : LinkView) → IsInside code here l kept old w inside v → CanWalk code inside
  inside_can l i = subst (CanWalk code) (sym i.at) (inner_can l i.outside (can_on code old i.outside i.can i.follows))

  pub inside_live : (l : LinkView) → IsInside code here l kept old w inside v → Live inside.depth inside.store v
  inside_live l i = subst (λ (s : State). Live s.depth s.store v) (sym i.at) i.inner_live

  module _ (outside : State) (can : CanWalk code old) (follows : Follows old outside)
      (live : AllByRecursion (Live outside.depth outside.store) kept) where
    pub given_inside : (f : Expr) (es : List Expr) (n : ℕ) → length es ≡ n
        → CallOpens code w f (n + 1) here es kept old outside
        → length kept ≡ suc (n + 1) → v ≡ get_or kept (n + 1) 0 → inside ≡ moved outside
        (child (child outside.place 1) n)
        → IsInside code here (Given f es) kept old w inside v
    given_inside f es n count o many is at =
        let e : n + 1 ≡ suc (length es) = omega (arith, count) in
        record {
          can = can;
          strict = tt;
          outside = outside;
          follows = follows;
          opens = (subst (λ k. CallOpens code w f k here es kept old outside) e o, is ∙ ap (λ k. get_or kept k 0) e);
          count = many ∙ ap suc e;
          live = live;
          inner_live = subst (Live outside.depth outside.store) (sym is)
              (live_at outside.depth outside.store kept (n + 1) 0 (omega (arith, many)) live);
          at = at ∙ ap (λ k. moved outside (child (child outside.place 1) k)) (sym count);
        }

    pub composed_inside : (f a : Expr) → CallOpens code w f 2 here [] kept old outside → length kept ≡ 3
        → v ≡ get_or kept 1 0
        → inside ≡ moved outside (child (child outside.place 1) 0) → IsInside code here (Composed f a) kept old w inside
        v
    composed_inside f a o many is at = record {
      can = can;
      strict = tt;
      outside = outside;
      follows = follows;
      opens = (o, is);
      count = many;
      live = live;
      inner_live = subst (Live outside.depth outside.store) (sym is)
          (live_at outside.depth outside.store kept 1 0 (omega (arith, many)) live);
      at = at;
    }

    pub after_inside : (op : Op) (es : List Expr) (n : ℕ) → length es ≡ n → IsStrict op → FormedOp op (n + 1)
        → OpOpens code w op (n + 1) here es kept old outside
        → length kept ≡ known_count op (n + 1) n → n < length kept → v ≡ get_or kept n 0
        → inside ≡ moved outside (child (child outside.place 0) n) → IsInside code here (After op es) kept old w inside
        v
    after_inside op es n count strict formed o many enough is at =
        let e : n + 1 ≡ suc (length es) = omega (arith, count) in
        record {
          can = can;
          strict = (strict, subst (FormedOp op) e formed);
          outside = outside;
          follows = follows;
          opens = (
            subst (λ k. OpOpens code w op k here es kept old outside) e o,
            is ∙ ap (λ k. get_or kept k 0)
                (sym count),
          );
          count = many ∙ (ap (λ k. known_count op k n) e ∙ ap (known_count op (suc (length es))) (sym count));
          live = live;
          inner_live = subst (Live outside.depth outside.store) (sym is)
              (live_at outside.depth outside.store kept n 0 enough live);
          at = at ∙ ap (λ k. moved outside (child (child outside.place 0) k)) (sym count);
        }

    pub before_inside : (op : Op) (a : Expr) → IsStrict op → FormedOp op 2
        → OpOpens code w op 2 here [] kept old outside
        → length kept ≡ known_count op 2 0 → v ≡ get_or kept 0 0 → inside ≡ moved outside
        (child (child outside.place 0) 0)
        → IsInside code here (Before op a) kept old w inside v
    before_inside op a strict formed o many is at = record {
      can = can;
      strict = (strict, formed);
      outside = outside;
      follows = follows;
      opens = (o, is);
      count = many;
      live = live;
      inner_live =
          subst (Live outside.depth outside.store) (sym is)
          (live_at outside.depth outside.store kept 0 0
          (let m = known_enough op 1 0 formed (omega arith) in omega (arith, m, many)) live);
      at = at;
    }

  pub decided_inside : (pos : Pos) (c : Connective) (a : Expr) (outside : State) → kept ≡ [] → CanWalk code old
      → Follows old outside
      → DecidedOpens code w pos here a v old outside → Live outside.depth outside.store v → inside ≡ moved outside
      (child outside.place 1)
      → IsInside code here (Decided pos c a) kept old w inside v
  decided_inside pos c a outside none can follows o live at = record {
    can = can;
    strict = tt;
    outside = outside;
    follows = follows;
    opens = o;
    count = ap length none;
    live = subst (AllByRecursion (Live outside.depth outside.store)) (sym none) tt;
    inner_live = live;
    at = at;
  }

-- ---- each is closed

pub back_there : (code : Code) (here : Pos) (l : LinkView) (kept : List ℕ) (old : State) (w : ℕ) (inside : State)
    (v : ℕ)
    (i : IsInside code here l kept old w inside v) (walked : State) → Follows inside walked
    → walked ≡ moved (moved walked i.outside.place) (inner l i.outside.place)
back_there code here l kept old w inside v i walked f =
    still_there i.outside walked (inner l i.outside.place) (subst (λ s. Follows s walked) i.at f)

module _ (code : Code) (here : Pos) (kept : List ℕ) (old : State) (w : ℕ) (inside : State) (v : ℕ) (e : Expr)
    (walked : State)
    (went : Went Wanted code (one v) below (listed e here) inside walked) where
  module _ (f : Expr) (es : List Expr) (i : IsInside code here (Given f es) kept old w inside v) where
    pub given_closed : (new : State) → new ≡ moved walked i.outside.place
        → Went Wanted code (one w) below (listed (Apply f (exprs_of (es ++ e ∷ []))) here) old new
    given_closed new is =
        subst (Went Wanted code (one w) below (listed (Apply f (exprs_of (es ++ e ∷ []))) here) old) (sym is)
        (given_closes code w here old i.can.ready e f es kept v i.outside (moved walked i.outside.place) i.count
        i.opens.0 i.opens.1
        (inner_went code v e here (Given f es) i.outside inside walked i.at went))

  module _ (f a : Expr) (i : IsInside code here (Composed f a) kept old w inside v) (left : State)
      (is : left ≡ moved walked i.outside.place) where
    composed_first : Went Wanted code (one v) (operand_place 1 0) (operand_of e here 1 0) i.outside left
    composed_first =
        subst (Went Wanted code (one v) (operand_place 1 0) (operand_of e here 1 0) i.outside) (sym is)
        (inner_went code v e here (Composed f a) i.outside inside walked i.at went)

    pub composed_closed : (u : ℕ) (new : State) → u ≡ get_or kept 2 0 → Went Wanted code (one u) (operand_place 1 1)
        (operand_of a here 1 1) left new
        → Went Wanted code (one w) below (listed (Apply f (exprs_of (e ∷ a ∷ []))) here) old new
    composed_closed u new at two_ =
        composed_closes code w here old i.can.ready e f kept v i.outside i.count i.opens.0 i.opens.1 a u left new
        composed_first at two_

    pub composed_stopped : (u : ℕ) (new : State) (bad : Bad) → u ≡ get_or kept 2 0
        → Stuck Wanted code (one u) (operand_place 1 1) (operand_of a here 1 1) left new bad
        → Stuck Wanted code (one w) below (listed (Apply f (exprs_of (e ∷ a ∷ []))) here) old new bad
    composed_stopped u new bad at s =
        composed_stuck code w here old i.can.ready e f kept v i.outside i.count i.opens.0 i.opens.1 a u left new bad
        composed_first at s

  module _ (op : Op) (es : List Expr) (i : IsInside code here (After op es) kept old w inside v) (left : State)
      (is : left ≡ moved walked i.outside.place)
      (n : ℕ) (count : length es ≡ n) where
    after_first : Went Wanted code (one v) (operand_place 0 (length es))
        (operand_of e here 0 (length es)) i.outside left
    after_first =
        subst (Went Wanted code (one v) (operand_place 0 (length es)) (operand_of e here 0 (length es)) i.outside)
        (sym is)
        (inner_went code v e here (After op es) i.outside inside walked i.at went)

    pub after_closed : (us : List ℕ) (new : State) → ((m : ℕ) → GoesOnAt n code op m here kept us left new)
        → Went Wanted code (one w) below (listed (Strict op (exprs_of (es ++ e ∷ []))) here) old new
    after_closed us new g =
        after_closes code w here old i.can.ready e op i.strict.0 es i.strict.1 kept v i.outside i.count i.opens.0
        i.opens.1 us left new after_first
        (subst (λ k. GoesOnAt k code op (suc (length es)) here kept us left new) (sym count) (g (suc (length es))))

    pub after_stopped : (new : State) (bad : Bad) → ((m : ℕ) → StopsOnAt n code op m here kept left new bad)
        → Stuck Wanted code (one w) below (listed (Strict op (exprs_of (es ++ e ∷ []))) here) old new bad
    after_stopped new bad s =
        after_stuck code w here old i.can.ready e op i.strict.0 es i.strict.1 kept v i.outside i.count i.opens.0
        i.opens.1 left new bad after_first
        (subst (λ k. StopsOnAt k code op (suc (length es)) here kept left new bad) (sym count) (s (suc (length es))))

  module _ (op : Op) (a : Expr) (i : IsInside code here (Before op a) kept old w inside v) (left : State)
      (is : left ≡ moved walked i.outside.place) where
    before_first : Went Wanted code (one v) (operand_place 0 0) (operand_of e here 0 0) i.outside left
    before_first =
        subst (Went Wanted code (one v) (operand_place 0 0) (operand_of e here 0 0) i.outside) (sym is)
        (inner_went code v e here (Before op a) i.outside inside walked i.at went)

    pub before_closed : (us : List ℕ) (u : ℕ) (gone new : State)
        → ((m : ℕ) → GoesOnAt 0 code op m here kept us left gone) → length us ≡ 2
        → u ≡ get_or us 1 0 → Went Wanted code (one u) (operand_place 0 1) (operand_of a here 0 1) gone new
        → Went Wanted code (one w) below (listed (Strict op (exprs_of (e ∷ a ∷ []))) here) old new
    before_closed us u gone new g two_ at last =
        before_closes code w here old i.can.ready e op i.strict.0 i.strict.1 kept v i.outside i.count i.opens.0
        i.opens.1 a us u left gone new before_first
        (g 2) two_ at last

    pub before_go_stopped : (new : State) (bad : Bad) → ((m : ℕ) → StopsOnAt 0 code op m here kept left new bad)
        → Stuck Wanted code (one w) below (listed (Strict op (exprs_of (e ∷ a ∷ []))) here) old new bad
    before_go_stopped new bad s =
        before_go_stuck code w here old i.can.ready e op i.strict.0 i.strict.1 kept v i.outside i.count i.opens.0
        i.opens.1 a left new bad before_first (s 2)

    pub before_stopped : (us : List ℕ) (u : ℕ) (gone new : State) (bad : Bad)
        → ((m : ℕ) → GoesOnAt 0 code op m here kept us left gone) → length us ≡ 2
        → u ≡ get_or us 1 0 → Stuck Wanted code (one u) (operand_place 0 1) (operand_of a here 0 1) gone new bad
        → Stuck Wanted code (one w) below (listed (Strict op (exprs_of (e ∷ a ∷ []))) here) old new bad
    before_stopped us u gone new bad g two_ at s =
        before_stuck code w here old i.can.ready e op i.strict.0 i.strict.1 kept v i.outside i.count i.opens.0 i.opens.1
        a us u left gone new bad before_first
        (g 2) two_ at s

  pub decided_closed : (pos : Pos) (c : Connective) (a : Expr)
      (i : IsInside code here (Decided pos c a) kept old w inside v) (new : State)
      → new ≡ moved walked i.outside.place → Went Wanted code (one w) below (listed (Logical pos c a e) here) old new
  decided_closed pos c a i new is =
      subst (Went Wanted code (one w) below (listed (Logical pos c a e) here) old) (sym is)
      (decided_closes code w pos here c a e v old i.outside (moved walked i.outside.place) i.can.ready i.opens
      (inner_went code v e here (Decided pos c a) i.outside inside walked i.at went))
