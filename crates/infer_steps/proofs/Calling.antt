-- Functions that are applied, functions that are written, and `&&` and `||`.
use Rattle.std.proofs.Common.{◌≡◌, ℕ, List, [], ◌∷◌, length, refl, sym, ◌∙◌, subst}
use Rattle.std.specs.List.{AllZip}
use Rattle.elm_base.specs.declared.position.Pos.{Pos}
use Rattle.elm_type.specs.Types.{functions, bool_type}
use Rattle.type_items.specs.Items.{Place, child, Wanted, at, children, Same}
use Rattle.type_store.specs.Store.{Store}
use Rattle.type_walks.specs.Regions.{none, only}
use Rattle.type_walks.specs.Links.{Links, AreLive, Has, Tells}
use Rattle.type_walks.specs.Walks.{Around, Walk}
use Rattle.type_constructs.specs.Failing.{Bad, Fails}
use Rattle.type_constructs.specs.Binding.{Children, Typed}
use Rattle.type_constructs.proofs.Spots.{Here, Child, Itself, Tops, In}
use Rattle.type_constructs.proofs.Chains.{tells_same, tells_more, tells_on, has_new, has_still, all_still}
use Rattle.infer_steps.specs.Codes.{Code, State}
use Rattle.infer_steps.specs.Made.{IsOpened, AreOpened, IsMade, Just, OfFunctions}
use Rattle.infer_steps.specs.Asked.{AsksSame, RefusesSame}
use Rattle.infer_steps.proofs.Stepping.{follows_on, still_live, all_still_live}
use Rattle.infer_steps.proofs.Lacking.{both_walks}
use Rattle.infer_steps.specs.Begun.{Gives, Begun, BeginStops}
use Rattle.infer_steps.specs.Operations.{apply_types, nothing, arguments, logical_items, logical_types, operands}
use Rattle.infer_steps.specs.Operations.{function_items, function_types, parameters}
use Rattle.infer_steps.proofs.Inside.{same_tops, left_operand, right_operand, parameters_in, value_in}
use Rattle.infer_steps.proofs.Steps.{ends, quiet, spot, lined, halts, past_quiet, past_spot, halted}

-- ---- applications

pub apply_begun : (code : Code) (old s new : State) (n wanted : ℕ) (vs us : List ℕ) (function : ℕ)
    → us ≡ function ∷ vs → AreOpened old s vs → length vs ≡ n
    → IsMade s new function (OfFunctions vs wanted) → Begun code wanted (arguments n) nothing us (apply_types n) old new
apply_begun code old s new n wanted vs us function are o count m =
    subst (λ zs. Begun code wanted (arguments n) nothing zs (apply_types n) old new) (sym are)
    (record {
      follows = follows_on old s new o.follows m.follows;
      live = (m.live, all_still_live s new vs m.follows o.live);
      plain = λ scope q w. tt;
      gives = λ a links scope q w set has. (
          let e = set.around.depth in
          let x = o.children a links (child q 1) e set.live in
          let ts = subst (λ k. AllZip (Has x.after) vs (children (child q 1) k)) count x.each in
          let y = m.typed a x.after (functions (children (child q 1) n) w) (e ∙ sym o.follows.depth)
          (x.walk.live set.live)
          (record {
            parameters = children (child q 1) n;
            result = w;
            has = ts;
            result_has = has_still x.tells has;
            is =
                refl;
          }) in
          record {
            after = y.after;
            walk =
                lined set.live
                (spot (In (Child Here 1) (Tops 0 (length vs))) refl (same_tops (child q 1) (length vs) n count) x.walk
                (ends y.walk));
            tells = tells_on y.tells x.tells;
            has = (y.has, all_still vs (children (child q 1) n) y.tells ts);
          });
    })

-- ---- `&&` and `||`

typed_on : (a : Around) (t u : Wanted) (s x s' : Store) (links : Links) (v w : ℕ) → AreLive a.depth s links
    → (one : Typed a t s links x v)
    → Typed a u x one.after s' w → Typed a u s links s' w
typed_on a t u s x s' links v w live one two = record {
  after = two.after;
  walk = both_walks a [] [] s x s' links one.after two.after live one.walk two.walk;
  tells = tells_on two.tells one.tells;
  has = two.has;
}

-- the states between
pub record Logic (old s t x y z : State) (wanted left right choice is asked : ℕ) : Type 0 where
  pub left_opened : IsOpened old s left
  pub right_opened : IsOpened s t right
  pub choice_made : IsMade t x choice (Just bool_type)
  pub is_made : IsMade x y is (OfFunctions (choice ∷ choice ∷ []) choice)
  pub asked_made : IsMade y z asked (OfFunctions (left ∷ right ∷ []) wanted)

module _ (old s t x y z : State) (wanted left right choice is asked : ℕ) (h : Logic old s t x y z wanted left right
    choice is asked) (pos : Pos)
    (a : Around) (links : Links) (q : Place) (w : Wanted) (e : a.depth ≡ old.depth) (live : AreLive a.depth old.store
    links) (has : Has links wanted w) where
  abbrev first : Links
  first = (left, at (child q 0)) ∷ links

  abbrev both : Links
  both = (right, at (child q 1)) ∷ first

  e1 : a.depth ≡ s.depth
  e1 = e ∙ sym h.left_opened.follows.depth

  e2 : a.depth ≡ t.depth
  e2 = e1 ∙ sym h.right_opened.follows.depth

  e3 : a.depth ≡ x.depth
  e3 = e2 ∙ sym h.choice_made.follows.depth

  e4 : a.depth ≡ y.depth
  e4 = e3 ∙ sym h.is_made.follows.depth

  e5 : a.depth ≡ z.depth
  e5 = e4 ∙ sym h.asked_made.follows.depth

  left_walk : Walk a (only (child q 0)) [] old.store links s.store first
  left_walk = h.left_opened.walk a links (child q 0) e live

  l1 : AreLive a.depth s.store first
  l1 = left_walk.live live

  right_walk : Walk a (only (child q 1)) [] s.store first t.store both
  right_walk = h.right_opened.walk a first (child q 1) e1 l1

  l2 : AreLive a.depth t.store both
  l2 = right_walk.live l1

  more : Tells both links
  more = tells_more right (at (child q 1)) (tells_more left (at (child q 0)) (tells_same links))

  left_has : Has both left (at (child q 0))
  left_has = has_still (tells_more right (at (child q 1)) (tells_same first)) (has_new left (at (child q 0)) links)

  right_has : Has both right (at (child q 1))
  right_has = has_new right (at (child q 1)) first

  one : Typed a (functions (bool_type ∷ bool_type ∷ []) bool_type) t.store both y.store is
  one =
      let c = h.choice_made.typed a both bool_type e2 l2 refl in
      typed_on a bool_type (functions (bool_type ∷ bool_type ∷ []) bool_type) t.store x.store y.store both choice is l2
      c
      (h.is_made.typed a c.after (functions (bool_type ∷ bool_type ∷ []) bool_type) e3 (c.walk.live l2)
      (record {
        parameters = bool_type ∷ bool_type ∷ [];
        result = bool_type;
        has = (c.has, (c.has, tt));
        result_has =
            c.has;
        is = refl;
      }))

  l4 : AreLive a.depth y.store one.after
  l4 = one.walk.live l2

  two : Typed a (functions (at (child q 0) ∷ at (child q 1) ∷ []) w) y.store one.after z.store asked
  two =
      h.asked_made.typed a one.after (functions (at (child q 0) ∷ at (child q 1) ∷ []) w) e4 l4
      (record {
        parameters = at (child q 0) ∷ at (child q 1) ∷ [];
        result = w;
        has = (has_still one.tells left_has, (has_still one.tells right_has, tt));
        result_has = has_still one.tells (has_still more has);
        is = refl;
      })

  logical_gives : (new : State) → AsksSame z new pos is asked
      → Gives a (operands q) (Same pos (functions (bool_type ∷ bool_type ∷ []) bool_type)
      (functions (at (child q 0) ∷ at (child q 1) ∷ []) w) ∷ []) old.store links new.store (left ∷ right ∷ [])
      (at (child q 0) ∷ at (child q 1) ∷ [])
  logical_gives new k = record {
    after = two.after;
    walk =
        lined live
        (spot (In (Child Here 0) Itself) refl (left_operand q) left_walk
        (spot (In (Child Here 1) Itself) refl (right_operand q) right_walk
        (quiet one.walk
        (quiet two.walk
        (ends (k.walk a two.after (functions (bool_type ∷ bool_type ∷ []) bool_type) (functions
        (at (child q 0) ∷ at (child q 1) ∷ []) w) e5 (two.walk.live l4)
        (has_still two.tells one.has) two.has))))));
    tells = tells_on two.tells (tells_on one.tells more);
    has = (
      has_still two.tells (has_still one.tells left_has),
      (
        has_still two.tells (has_still one.tells right_has),
        tt,
      ),
    );
  }

  logical_fails : (new : State) (bad : Bad) → RefusesSame z new pos is asked bad
      → Fails a old.store links (operands q) (Same pos (functions (bool_type ∷ bool_type ∷ []) bool_type)
      (functions (at (child q 0) ∷ at (child q 1) ∷ []) w) ∷ []) bad new.store
  logical_fails new bad r =
      halted
      (past_spot (In (Child Here 0) Itself) refl (left_operand q) tt left_walk
      (past_spot (In (Child Here 1) Itself) refl (right_operand q) tt right_walk
      (past_quiet tt one.walk
      (past_quiet tt two.walk
      (halts (r.fails a two.after none (functions (bool_type ∷ bool_type ∷ []) bool_type)
      (functions (at (child q 0) ∷ at (child q 1) ∷ []) w) []
      (has_still two.tells one.has) two.has))))))

pub logical_begun : (code : Code) (old s t x y z new : State) (pos : Pos) (wanted left right choice is asked : ℕ)
    → Logic old s t x y z wanted left right choice is asked → AsksSame z new pos is asked
    → Begun code wanted operands (logical_items pos) (left ∷ right ∷ []) logical_types old new
logical_begun code old s t x y z new pos wanted left right choice is asked h k =
    let f5 = follows_on y z new h.asked_made.follows k.follows in
    let f4 = follows_on x y new h.is_made.follows f5 in
    let f3 = follows_on t x new h.choice_made.follows f4 in
    let f2 = follows_on s t new h.right_opened.follows f3 in
    record {
      follows = follows_on old s new h.left_opened.follows f2;
      live = (still_live s new left f2 h.left_opened.live, (still_live t new right f3 h.right_opened.live, tt));
      plain = λ scope q w. (refl, tt);
      gives = λ a links scope q w set has.
          logical_gives old s t x y z wanted left right choice is asked h pos a links q w set.around.depth set.live has
          new k;
    }

pub logical_stops : (code : Code) (old s t x y z new : State) (pos : Pos) (wanted left right choice is asked : ℕ)
    (bad : Bad)
    → Logic old s t x y z wanted left right choice is asked → RefusesSame z new pos is asked bad
    → BeginStops code wanted operands (logical_items pos) old new bad
logical_stops code old s t x y z new pos wanted left right choice is asked bad h r = record {
  fails = λ a links scope q w set has.
      logical_fails old s t x y z wanted left right choice is asked h pos a links q w set.around.depth set.live has new
      bad r;
}

-- ---- functions with parameters

-- the states between
module _ (old s t u : State) (n wanted : ℕ) (vs : List ℕ) (value v : ℕ) (o : AreOpened old s vs)
    (count : length vs ≡ n) (p : IsOpened s t value)
    (m : IsMade t u v (OfFunctions vs value)) (here : Pos) (a : Around) (links : Links) (q : Place) (w : Wanted)
    (e : a.depth ≡ old.depth)
    (live : AreLive a.depth old.store links) (has : Has links wanted w) where
  kids : Children a (child q 0) old.store links s.store vs
  kids = o.children a links (child q 0) e live

  d1 : a.depth ≡ s.depth
  d1 = e ∙ sym o.follows.depth

  m1 : AreLive a.depth s.store kids.after
  m1 = kids.walk.live live

  abbrev more_links : Links
  more_links = (value, at (child q 1)) ∷ kids.after

  value_walk : Walk a (only (child q 1)) [] s.store kids.after t.store more_links
  value_walk = p.walk a kids.after (child q 1) d1 m1

  d2 : a.depth ≡ t.depth
  d2 = d1 ∙ sym p.follows.depth

  m2 : AreLive a.depth t.store more_links
  m2 = value_walk.live m1

  more_tells : Tells more_links kids.after
  more_tells = tells_more value (at (child q 1)) (tells_same kids.after)

  params : AllZip (Has more_links) vs (children (child q 0) n)
  params =
      all_still vs (children (child q 0) n) more_tells (subst (λ k. AllZip (Has kids.after) vs
      (children (child q 0) k)) count kids.each)

  function_typed : Typed a (functions (children (child q 0) n) (at (child q 1))) t.store more_links u.store v
  function_typed =
      m.typed a more_links (functions (children (child q 0) n) (at (child q 1))) d2 m2
      (record {
        parameters = children (child q 0) n;
        result = at (child q 1);
        has = params;
        result_has = has_new value (at (child q 1)) kids.after;
        is = refl;
      })

  wanted_has : Has function_typed.after wanted w
  wanted_has = has_still function_typed.tells (has_still more_tells (has_still kids.tells has))

  function_gives : (new : State) → AsksSame u new here v wanted
      → Gives a (parameters n q) (Same here (functions (children (child q 0) n) (at (child q 1))) w ∷ []) old.store
      links new.store (value ∷ vs) (at (child q 1) ∷ children (child q 0) n)
  function_gives new k = record {
    after = function_typed.after;
    walk =
        lined live
        (spot (In (Child Here 0) (Tops 0 (length vs))) refl (parameters_in q (length vs) n count) kids.walk
        (spot (In (Child Here 1) Itself) refl (value_in q n) value_walk
        (quiet function_typed.walk
        (ends (k.walk a function_typed.after (functions (children (child q 0) n) (at (child q 1))) w
        (d2 ∙ sym m.follows.depth)
        (function_typed.walk.live m2) function_typed.has wanted_has)))));
    tells = tells_on function_typed.tells (tells_on more_tells kids.tells);
    has = (
      has_still function_typed.tells (has_new value (at (child q 1)) kids.after),
      all_still vs (children (child q 0) n) function_typed.tells params,
    );
  }

  function_fails : (new : State) (bad : Bad) → RefusesSame u new here v wanted bad
      → Fails a old.store links (parameters n q) (Same here (functions (children (child q 0) n) (at (child q 1))) w ∷
      []) bad new.store
  function_fails new bad r =
      halted
      (past_spot (In (Child Here 0) (Tops 0 (length vs))) refl (parameters_in q (length vs) n count) tt kids.walk
      (past_spot (In (Child Here 1) Itself) refl (value_in q n) tt value_walk
      (past_quiet tt function_typed.walk
      (halts (r.fails a function_typed.after none (functions (children (child q 0) n) (at (child q 1))) w []
      function_typed.has wanted_has)))))

pub function_begun : (code : Code) (old s t u new : State) (here : Pos) (n wanted : ℕ) (vs us : List ℕ) (value v : ℕ) →
    us ≡ value ∷ vs → AreOpened old s vs
    → length vs ≡ n → IsOpened s t value → IsMade t u v (OfFunctions vs value) → AsksSame u new here v wanted
    → Begun code wanted (parameters n) (function_items n here) us (function_types n) old new
function_begun code old s t u new here n wanted vs us value v are o count p m k =
    let f3 = follows_on t u new m.follows k.follows in
    let f2 = follows_on s t new p.follows f3 in
    subst (λ zs. Begun code wanted (parameters n) (function_items n here) zs (function_types n) old new) (sym are)
    (record {
      follows = follows_on old s new o.follows f2;
      live = (still_live t new value f3 p.live, all_still_live s new vs f2 o.live);
      plain = λ scope q w. (refl, tt);
      gives = λ a links scope q w set has.
          function_gives old s t u n wanted vs value v o count p m here a links q w set.around.depth set.live has new k;
    })

pub function_stops : (code : Code) (old s t u new : State) (here : Pos) (n wanted : ℕ) (vs : List ℕ) (value v : ℕ)
    (bad : Bad) → AreOpened old s vs
    → length vs ≡ n → IsOpened s t value → IsMade t u v (OfFunctions vs value) → RefusesSame u new here v wanted bad
    → BeginStops code wanted (parameters n) (function_items n here) old new bad
function_stops code old s t u new here n wanted vs value v bad o count p m r = record {
  fails = λ a links scope q w set has.
      function_fails old s t u n wanted vs value v o count p m here a links q w set.around.depth set.live has new bad r;
}
