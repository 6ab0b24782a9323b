-- Constructors with all their fields.
use Rattle.std.proofs.Common.{Result, Ok, Err, IfOk, ◌≡◌, ℕ, List, [], ◌∷◌, ◌++◌, length, refl, sym, ap, ◌∙◌, subst}
use Rattle.std.specs.List.{AllZip}
use Rattle.elm_base.specs.declared.position.Pos.{Pos}
use Rattle.elm_canon.specs.declared.unions.Alternative.{Alternative}
use Rattle.elm_canon.specs.Unions.{Union, TupleUnion, ListUnion, Declared}
use Rattle.elm_canon.specs.Tree.{Build}
use Rattle.elm_type.specs.Types.{Name, functions}
use Rattle.type_items.specs.Items.{Place, child, Wanted, children, Item, Same}
use Rattle.type_items.specs.Scopes.{Known, Scope}
use Rattle.type_items.specs.Patterns.{Shape, shape, shape_items, declared_shape, declared_items}
use Rattle.type_walks.specs.Regions.{none, below}
use Rattle.type_walks.specs.Links.{Links, AreLive, Has, Tells}
use Rattle.type_walks.specs.Walks.{Around}
use Rattle.type_constructs.specs.Failing.{Bad, Fails}
use Rattle.type_constructs.specs.Binding.{Children, Typed, Shaped}
use Rattle.type_constructs.proofs.Spots.{Here, Child, Below, Tops, In}
use Rattle.type_constructs.proofs.Sizes.{shape_sizes, sizes_both}
use Rattle.type_constructs.proofs.Chains.{tells_on, has_still, all_still}
use Rattle.infer_steps.specs.Codes.{Code, State}
use Rattle.infer_steps.specs.Ready.{Follows}
use Rattle.infer_steps.specs.Means.{Setting}
use Rattle.infer_steps.specs.Made.{AreOpened, IsMade, OfFunctions}
use Rattle.infer_steps.specs.Asked.{AsksSame, RefusesSame}
use Rattle.infer_steps.proofs.Stepping.{follows_on, all_still_live}
use Rattle.infer_patterns.specs.Shapes.{IsShaped, NoShape}
use Rattle.infer_steps.specs.Begun.{Gives}
use Rattle.infer_steps.specs.Operations.{beside, before_items, part_types, BeginsOp, OpStops}
use Rattle.infer_steps.proofs.Inside.{types_beside, below_beside}
use Rattle.infer_steps.proofs.Steps.{ends, quiet, spot, lined, halts, halts_at, past_quiet, past_spot, halted, begun_as}
use Rattle.infer_steps.proofs.Steps.{stops_as}
use Rattle.infer_steps.proofs.Plans.{turn_before, build_types}

-- ---- what is declared elsewhere

abbrev pub KnowsSame : Known → Known → Type 0
KnowsSame k l = (m x : Name) → k m x ≡ l m x

shape_known : (u : Union) (c : Alternative) (k l : Known) (p : Place) → KnowsSame k l → shape u c k p ≡ shape u c l p
shape_known (TupleUnion n) c k l p h = refl
shape_known ListUnion c k l p h = refl
shape_known (Declared m x cs) c k l p h = ap (λ s. declared_shape s c.arity p) (h m c.name)

items_known : (u : Union) (c : Alternative) (k l : Known) (pos : Pos) (p : Place) → KnowsSame k l
    → shape_items u c k pos p ≡ shape_items u c l pos p
items_known (TupleUnion n) c k l pos p h = refl
items_known ListUnion c k l pos p h = refl
items_known (Declared m x cs) c k l pos p h = ap (λ s. declared_items s pos p) (h m c.name)

-- ---- the items

abbrev same_item : Pos → Union → Alternative → ℕ → Scope → Place → Wanted → Item
same_item pos u c n scope q w =
    Same pos (functions (shape u c scope.known (child q 1)).parts (shape u c scope.known (child q 1)).result)
    (functions (children (child q 0) n) w)

abbrev all_items : Pos → Union → Alternative → ℕ → Scope → Place → Wanted → List Item
all_items pos u c n scope q w = shape_items u c scope.known pos (child q 1) ++ same_item pos u c n scope q w ∷ []

-- the states between, before the last question
pub record Builds (known : Known) (old s t y z : State) (pos : Pos) (u : Union) (c : Alternative) (n wanted : ℕ)
    (vs parts : List ℕ) (result is asked : ℕ) : Type 0 where
  pub opened : AreOpened old s vs
  pub count : length vs ≡ n
  pub shaped : IsShaped known pos u c s t result parts
  pub made : IsMade t y is (OfFunctions parts result)
  pub wants : IsMade y z asked (OfFunctions vs wanted)

module _ (known : Known) (old s t y z : State) (pos : Pos) (u : Union) (c : Alternative) (n wanted : ℕ)
    (vs parts : List ℕ) (result is asked : ℕ)
    (h : Builds known old s t y z pos u c n wanted vs parts result is asked) (a : Around) (links : Links)
    (scope : Scope) (q : Place) (w : Wanted)
    (e : a.depth ≡ old.depth) (live : AreLive a.depth old.store links) (knows : KnowsSame known scope.known)
    (has : Has links wanted w) where
  kids : Children a (child q 0) old.store links s.store vs
  kids = h.opened.children a links (child q 0) e live

  e1 : a.depth ≡ s.depth
  e1 = e ∙ sym h.opened.follows.depth

  l1 : AreLive a.depth s.store kids.after
  l1 = kids.walk.live live

  form : Shaped a (below (child q 1)) (shape_items u c scope.known pos (child q 1)) (shape u c scope.known (child q 1))
      s.store kids.after t.store result parts
  form =
      subst (λ l. Shaped a (below (child q 1)) l (shape u c scope.known (child q 1)) s.store kids.after t.store result
      parts)
      (items_known u c known scope.known pos (child q 1) knows)
      (subst (λ (x : Shape). Shaped a (below (child q 1)) (shape_items u c known pos (child q 1)) x s.store kids.after
      t.store result parts)
      (shape_known u c known scope.known (child q 1) knows) (h.shaped.shaped a kids.after (child q 1) e1 l1))

  e2 : a.depth ≡ t.depth
  e2 = e1 ∙ sym h.shaped.follows.depth

  l2 : AreLive a.depth t.store form.after
  l2 = form.walk.live l1

  one : Typed a (functions (shape u c scope.known (child q 1)).parts (shape u c scope.known (child q 1)).result)
      t.store form.after y.store is
  one =
      h.made.typed a form.after (functions (shape u c scope.known (child q 1)).parts (shape u c scope.known
      (child q 1)).result) e2 l2
      (record {
        parameters = (shape u c scope.known (child q 1)).parts;
        result = (shape u c scope.known (child q 1)).result;
        has = form.parts_have;
        result_has = form.result_has;
        is = refl;
      })

  e3 : a.depth ≡ y.depth
  e3 = e2 ∙ sym h.made.follows.depth

  l3 : AreLive a.depth y.store one.after
  l3 = one.walk.live l2

  more : Tells one.after kids.after
  more = tells_on one.tells form.tells

  fields : AllZip (Has one.after) vs (children (child q 0) n)
  fields = all_still vs (children (child q 0) n) more (subst (λ k. AllZip (Has kids.after) vs (children (child q 0) k))
      h.count kids.each)

  two : Typed a (functions (children (child q 0) n) w) y.store one.after z.store asked
  two =
      h.wants.typed a one.after (functions (children (child q 0) n) w) e3 l3
      (record {
        parameters = children (child q 0) n;
        result = w;
        has = fields;
        result_has = has_still more (has_still kids.tells has);
        is = refl;
      })

  e4 : a.depth ≡ z.depth
  e4 = e3 ∙ sym h.wants.follows.depth

  build_gives : (new : State) → AsksSame z new pos is asked
      → Gives a (beside n q) (all_items pos u c n scope q w) old.store links new.store vs (children (child q 0) n)
  build_gives new k = record {
    after = two.after;
    walk =
        lined live
        (spot (In (Child Here 0) (Tops 0 (length vs))) refl (types_beside q (length vs) n h.count) kids.walk
        (spot (In (Child Here 1) Below) refl (below_beside q n) form.walk
        (quiet one.walk
        (quiet two.walk
        (ends (k.walk a two.after (functions (shape u c scope.known (child q 1)).parts
        (shape u c scope.known (child q 1)).result)
        (functions (children (child q 0) n) w) e4 (two.walk.live l3) (has_still two.tells one.has) two.has))))));
    tells = tells_on two.tells (tells_on more kids.tells);
    has = all_still vs (children (child q 0) n) two.tells fields;
  }

  build_fails : (new : State) (bad : Bad) → RefusesSame z new pos is asked bad
      → Fails a old.store links (beside n q) (all_items pos u c n scope q w) bad new.store
  build_fails new bad r =
      halted
      (past_spot (In (Child Here 0) (Tops 0 (length vs))) refl (types_beside q (length vs) n h.count) tt kids.walk
      (past_spot (In (Child Here 1) Below) refl (below_beside q n) (shape_sizes u c scope.known pos (child q 1))
      form.walk
      (past_quiet tt one.walk
      (past_quiet tt two.walk
      (halts (r.fails a two.after none (functions (shape u c scope.known (child q 1)).parts
      (shape u c scope.known (child q 1)).result)
      (functions (children (child q 0) n) w) [] (has_still two.tells one.has) two.has))))))

-- ---- for a scope of the code

knows_scope : (known : Known) (code : Code) → code.known ≡ known → (a : Around) (links : Links) (scope : Scope)
    (s : State) → Setting a links code scope s
    → KnowsSame known scope.known
knows_scope known code e a links scope s set m x = ap (λ (k : Known). k m x) (sym e) ∙ set.means.known m x

pub build_begun : (known : Known) (code : Code) (old s t y z new : State) (here pos : Pos) (u : Union)
    (c : Alternative) (n wanted : ℕ) (vs parts : List ℕ)
    (result is asked : ℕ) → code.known ≡ known → Builds known old s t y z pos u c n wanted vs parts result is asked
    → AsksSame z new pos is asked
    → BeginsOp code (Build pos u c) n here wanted vs old new
build_begun known code old s t y z new here pos u c n wanted vs parts result is asked e h k =
    let f : Follows s new = follows_on s t new h.shaped.follows (follows_on t y new h.made.follows
    (follows_on y z new h.wants.follows k.follows)) in
    begun_as code wanted (beside n) (all_items pos u c n) (before_items (Build pos u c) n here) vs
    (λ scope q w. children (child q 0) n)
    (part_types (Build pos u c) n here) old new
    (λ scope q w. sym (turn_before (all_items pos u c n scope q w) (children (child q 0) n)))
    (λ scope q w. build_types pos u c n here scope q w)
    (record {
      follows = follows_on old s new h.opened.follows f;
      live = all_still_live s new vs f h.opened.live;
      plain = λ scope q w. sizes_both (shape_items u c scope.known pos (child q 1)) (same_item pos u c n scope q w ∷
          []) (shape_sizes u c scope.known pos (child q 1)) (refl, tt);
      gives = λ a links scope q w set has.
          build_gives known old s t y z pos u c n wanted vs parts result is asked h a links scope q w set.around.depth
          set.live
          (knows_scope known code e a links scope old set) has new k;
    })

pub build_stops : (known : Known) (code : Code) (old s t y z new : State) (here pos : Pos) (u : Union)
    (c : Alternative) (n wanted : ℕ) (vs parts : List ℕ)
    (result is asked : ℕ) (bad : Bad) → code.known ≡ known → Builds known old s t y z pos u c n wanted vs parts result
    is asked
    → RefusesSame z new pos is asked bad → OpStops code (Build pos u c) n here wanted old new bad
build_stops known code old s t y z new here pos u c n wanted vs parts result is asked bad e h r =
    stops_as code wanted (beside n) (all_items pos u c n) (before_items (Build pos u c) n here) old new bad
    (λ scope q w. sym (turn_before (all_items pos u c n scope q w) (children (child q 0) n)))
    (record {
      fails = λ a links scope q w set has.
          build_fails known old s t y z pos u c n wanted vs parts result is asked h a links scope q w set.around.depth
          set.live
          (knows_scope known code e a links scope old set) has new bad r;
    })

-- what the constructor asks is bad
pub shape_stops : (known : Known) (code : Code) (old s new : State) (here pos : Pos) (u : Union) (c : Alternative)
    (n wanted : ℕ) (vs : List ℕ) (bad : Bad)
    → code.known ≡ known → AreOpened old s vs → length vs ≡ n → NoShape known pos u c s new bad
    → OpStops code (Build pos u c) n here wanted old new bad
shape_stops known code old s new here pos u c n wanted vs bad e o count r =
    stops_as code wanted (beside n) (all_items pos u c n) (before_items (Build pos u c) n here) old new bad
    (λ scope q w. sym (turn_before (all_items pos u c n scope q w) (children (child q 0) n)))
    (record {
      fails = λ a links scope q w set has. (
          let d = set.around.depth in
          let x = o.children a links (child q 0) d set.live in
          halted
          (past_spot (In (Child Here 0) (Tops 0 (length vs))) refl (types_beside q (length vs) n count) tt x.walk
          (halts_at (In (Child Here 1) Below) (same_item pos u c n scope q w ∷ []) (below_beside q n)
          (subst (λ l. Fails a s.store x.after (below (child q 1)) l bad new.store)
          (items_known u c known scope.known pos (child q 1) (knows_scope known code e a links scope old set))
          (r.fails a x.after (child q 1) (d ∙ sym o.follows.depth) (x.walk.live set.live))))));
    })

-- ---- what a call answers

pub ok_so : {A E : Type 0} (P Q : A → Type 0) (r : Result A E) → ((x : A) → P x → Q x) → IfOk r P → IfOk r Q
ok_so P Q (Ok x) f h = f x h
ok_so P Q (Err e) f h = tt
