-- Operations whose parts are walked one after the other.
use Rattle.std.proofs.Common.{◌≡◌, ℕ, List, [], ◌∷◌, ◌++◌, length, replicate, None, refl, sym, ap, ◌∙◌, subst}
use Rattle.std.specs.List.{AllZip}
use Rattle.elm_base.specs.declared.position.Pos.{Pos}
use Rattle.elm_canon.specs.declared.tree.Operator.{Operator}
use Rattle.elm_canon.specs.Tree.{TupleOf, ListOf, RecordOf, Update, Negate, Binary}
use Rattle.elm_type.specs.Types.{Name, tuple, list_type, functions, int_type}
use Rattle.elm_type.specs.Rows.{closed}
use Rattle.elm_type.specs.declared.class.Class.TheVariants.{Number}
use Rattle.elm_type.specs.declared.head.Head.TheVariants as head
use Rattle.type_items.specs.Items.{Place, child, Wanted, at, children, Same, class_items}
use Rattle.type_items.specs.Patterns.{fields_at}
use Rattle.type_items.specs.Operations.{operator_class, operator_type}
use Rattle.type_store.specs.Shape.{IsStore}
use Rattle.type_walks.specs.Regions.{none, only}
use Rattle.type_walks.specs.Links.{Links, Live, AreLive, Has, Tells}
use Rattle.type_walks.specs.Walks.{Around, Walk}
use Rattle.type_walks.proofs.Walking.{rests}
use Rattle.type_constructs.specs.Failing.{Bad, Fails}
use Rattle.type_constructs.specs.Binding.{Children, Typed}
use Rattle.type_constructs.proofs.Spots.{Here, Child, Itself, Tops, In}
use Rattle.type_constructs.proofs.Sizes.{class_sizes, sizes_both}
use Rattle.type_constructs.proofs.Chains.{tells_same, tells_more, tells_on, has_new, has_still, all_still}
use Rattle.infer_steps.specs.Codes.{Code, State}
use Rattle.infer_steps.specs.Ready.{Follows}
use Rattle.infer_steps.specs.Made.{IsOpened, AreOpened, IsMade, Just, OfHead, OfList, OfFunctions}
use Rattle.infer_steps.specs.Asked.{AsksSame, RefusesSame, AsksClass, RefusesClass}
use Rattle.infer_steps.specs.Records.{OfRecord}
use Rattle.infer_steps.proofs.Stepping.{follows_itself, follows_on, still_live, all_still_live}
use Rattle.infer_steps.specs.Operators.{OfOperator, AsksClassItems, RefusesClassItems}
use Rattle.infer_steps.specs.Begun.{Gives}
use Rattle.infer_steps.specs.Operations.{beside, before_region, before_items, part_types, types_at, BeginsOp, OpStops}
use Rattle.infer_steps.specs.Operations.{when_any}
use Rattle.infer_steps.specs.Filled.{some_types, Fills}
use Rattle.infer_steps.proofs.Inside.{types_beside, first_beside}
use Rattle.infer_steps.proofs.Steps.{ends, quiet, spot, lined, halts, past_quiet, past_spot, halted, begun_as, stops_as}
use Rattle.infer_steps.proofs.Plans.{turn_before, turn_types, tuple_types, list_types, when_parts, all_repeated}
use Rattle.infer_steps.proofs.Plans.{zip_repeated, closed_zip}

-- ---- tuples

tuple_of : (a : Around) (links : Links) (p : Place) (n : ℕ) (old s t : State) (vs : List ℕ) (v : ℕ) → length vs ≡ n
    → a.depth ≡ s.depth
    → (opened : Children a p old.store links s.store vs) → AreLive a.depth s.store opened.after
    → IsMade s t v (OfHead head.Tuple vs)
    → Typed a (tuple (children p n)) s.store opened.after t.store v
tuple_of a links p n old s t vs v count e opened live m =
    m.typed a opened.after (tuple (children p n)) e live
    (record {
      parts = children p n;
      has = subst (λ k. AllZip (Has opened.after) vs (children p k)) count opened.each;
      is = refl;
    })

pub tuple_begun : (code : Code) (old s t new : State) (here : Pos) (n wanted : ℕ) (vs : List ℕ) (v : ℕ)
    → AreOpened old s vs → length vs ≡ n
    → IsMade s t v (OfHead head.Tuple vs) → AsksSame t new here v wanted
    → BeginsOp code TupleOf n here wanted vs old new
tuple_begun code old s t new here n wanted vs v o count m k =
    begun_as code wanted (beside n) (λ scope q w. Same here (tuple (children (child q 0) n)) w ∷ [])
    (before_items TupleOf n here) vs
    (λ scope q w. children (child q 0) n) (part_types TupleOf n here) old new
    (λ scope q w. sym (turn_before (Same here (tuple (children (child q 0) n)) w ∷ []) (children (child q 0) n)))
    (λ scope q w. tuple_types n here scope q w)
    (record {
      follows = follows_on old s new o.follows (follows_on s t new m.follows k.follows);
      live = all_still_live s new vs (follows_on s t new m.follows k.follows) o.live;
      plain = λ scope q w. (refl, tt);
      gives = λ a links scope q w set has. (
          let e = set.around.depth in
          let x = o.children a links (child q 0) e set.live in
          let l = x.walk.live set.live in
          let y = tuple_of a links (child q 0) n old s t vs v count (e ∙ sym o.follows.depth) x l m in
          record {
            after = y.after;
            walk =
                lined set.live
                (spot (In (Child Here 0) (Tops 0 (length vs))) refl (types_beside q (length vs) n count) x.walk
                (quiet y.walk
                (ends (k.walk a y.after (tuple (children (child q 0) n)) w (e ∙ sym o.follows.depth ∙ sym
                m.follows.depth) (y.walk.live l) y.has
                (has_still y.tells (has_still x.tells has))))));
            tells = tells_on y.tells x.tells;
            has =
                all_still vs (children (child q 0) n) y.tells
                (subst (λ k. AllZip (Has x.after) vs (children (child q 0) k)) count x.each);
          });
    })

pub tuple_stops : (code : Code) (old s t new : State) (here : Pos) (n wanted : ℕ) (vs : List ℕ) (v : ℕ) (bad : Bad)
    → AreOpened old s vs → length vs ≡ n
    → IsMade s t v (OfHead head.Tuple vs) → RefusesSame t new here v wanted bad
    → OpStops code TupleOf n here wanted old new bad
tuple_stops code old s t new here n wanted vs v bad o count m r =
    stops_as code wanted (beside n) (λ scope q w. Same here (tuple (children (child q 0) n)) w ∷ [])
    (before_items TupleOf n here) old new bad
    (λ scope q w. sym (turn_before (Same here (tuple (children (child q 0) n)) w ∷ []) (children (child q 0) n)))
    (record {
      fails = λ a links scope q w set has. (
          let e = set.around.depth in
          let x = o.children a links (child q 0) e set.live in
          let l = x.walk.live set.live in
          let y = tuple_of a links (child q 0) n old s t vs v count (e ∙ sym o.follows.depth) x l m in
          halted
          (past_spot (In (Child Here 0) (Tops 0 (length vs))) refl (types_beside q (length vs) n count) tt x.walk
          (past_quiet tt y.walk
          (halts (r.fails a y.after none (tuple (children (child q 0) n)) w [] y.has (has_still y.tells
          (has_still x.tells has)))))));
    })

-- ---- lists

list_of : (a : Around) (links : Links) (q : Place) (s t : State) (item v : ℕ) → a.depth ≡ s.depth
    → AreLive a.depth s.store ((item, at (child q 1)) ∷ links) → IsMade s t v (OfList item)
    → Typed a (list_type (at (child q 1))) s.store ((item, at (child q 1)) ∷ links) t.store v
list_of a links q s t item v e live m =
    m.typed a ((item, at (child q 1)) ∷ links) (list_type (at (child q 1))) e live
    (record { item = at (child q 1); has = has_new item (at (child q 1)) links; is = refl })

pub list_begun : (code : Code) (old s t new : State) (here : Pos) (n wanted item v : ℕ) (vs : List ℕ)
    → vs ≡ replicate n item → IsOpened old s item
    → IsMade s t v (OfList item) → AsksSame t new here v wanted → BeginsOp code ListOf n here wanted vs old new
list_begun code old s t new here n wanted item v vs are o m k =
    subst (λ us. BeginsOp code ListOf n here wanted us old new) (sym are)
    (begun_as code wanted (beside n) (λ scope q w. Same here (list_type (at (child q 1))) w ∷ [])
    (before_items ListOf n here) (replicate n item)
    (λ scope q w. replicate n (at (child q 1))) (part_types ListOf n here) old new
    (λ scope q w. sym (turn_before (Same here (list_type (at (child q 1))) w ∷ []) (replicate n (at (child q 1)))))
    (λ scope q w. list_types n here scope q w)
    (record {
      follows = follows_on old s new o.follows (follows_on s t new m.follows k.follows);
      live = all_repeated (Live new.depth new.store) n item (still_live s new item (follows_on s t new m.follows
          k.follows) o.live);
      plain = λ scope q w. (refl, tt);
      gives = λ a links scope q w set has. (
          let e = set.around.depth in
          let x = o.walk a links (child q 1) e set.live in
          let l = x.live set.live in
          let y = list_of a links q s t item v (e ∙ sym o.follows.depth) l m in
          let more = tells_more item (at (child q 1)) (tells_same links) in
          record {
            after = y.after;
            walk =
                lined set.live
                (spot (In (Child Here 1) Itself) refl (first_beside q n) x
                (quiet y.walk
                (ends (k.walk a y.after (list_type (at (child q 1))) w (e ∙ sym o.follows.depth ∙ sym m.follows.depth)
                (y.walk.live l) y.has
                (has_still y.tells (has_still more has))))));
            tells = tells_on y.tells more;
            has = zip_repeated y.after n item (at (child q 1)) (has_still y.tells (has_new item (at (child q 1))
                links));
          });
    }))

pub list_stops : (code : Code) (old s t new : State) (here : Pos) (n wanted item v : ℕ) (bad : Bad)
    → IsOpened old s item
    → IsMade s t v (OfList item) → RefusesSame t new here v wanted bad → OpStops code ListOf n here wanted old new bad
list_stops code old s t new here n wanted item v bad o m r =
    stops_as code wanted (beside n) (λ scope q w. Same here (list_type (at (child q 1))) w ∷ [])
    (before_items ListOf n here) old new bad
    (λ scope q w. sym (turn_before (Same here (list_type (at (child q 1))) w ∷ []) (replicate n (at (child q 1)))))
    (record {
      fails = λ a links scope q w set has. (
          let e = set.around.depth in
          let x = o.walk a links (child q 1) e set.live in
          let y = list_of a links q s t item v (e ∙ sym o.follows.depth) (x.live set.live) m in
          halted
          (past_spot (In (Child Here 1) Itself) refl (first_beside q n) tt x
          (past_quiet tt y.walk
          (halts (r.fails a y.after none (list_type (at (child q 1))) w [] y.has
          (has_still y.tells (has_still (tells_more item (at (child q 1)) (tells_same links)) has)))))));
    })

-- ---- variables, or one for Int

pub fills_none : (old new : State) (vs ws : List ℕ) (v : ℕ) → vs ≡ [] → ws ≡ v ∷ []
    → IsMade old new v (Just int_type) → Fills old new vs ws
fills_none old new vs ws v none_there one m =
    subst (λ us. Fills old new us ws) (sym none_there)
    (subst (Fills old new []) (sym one)
    (record {
      follows = m.follows;
      live = λ h. (m.live, tt);
      gives = λ a links ts e live h. go a links ts e live h;
    }))
  where
    go : (a : Around) (links : Links) (ts : List Wanted) → a.depth ≡ old.depth → AreLive a.depth old.store links
        → AllZip (Has links) [] ts
        → Gives a none [] old.store links new.store (v ∷ []) (some_types ts)
    go a links [] e live h =
        let y = m.typed a links int_type e live refl in
        record { after = y.after; walk = y.walk; tells = y.tells; has = (y.has, tt) }
    go a links (t ∷ ts) e live h = absurd h

pub fills_some : (s : State) (vs : List ℕ) → (length vs ≡ 0 → ⊥) → IsStore s.store → Fills s s vs vs
fills_some s vs some whole = record {
  follows = follows_itself s whole;
  live = λ h. h;
  gives = λ a links ts e live h. go a links vs ts some h;
}
  where
    go : (a : Around) (links : Links) (us : List ℕ) (ts : List Wanted) → (length us ≡ 0 → ⊥) → AllZip (Has links) us ts
        → Gives a none [] s.store links s.store us (some_types ts)
    go a links [] ts n h = absurd (n refl)
    go a links (u ∷ us) [] n h = absurd h
    go a links (u ∷ us) (t ∷ ts) n h = record {
      after = links;
      walk = rests a s.store links;
      tells = tells_same links;
      has = h;
    }

-- ---- records

record_of : (a : Around) (links : Links) (p : Place) (xs : List Name) (old s t : State) (vs : List ℕ) (v : ℕ)
    → length vs ≡ length xs → a.depth ≡ s.depth
    → (opened : Children a p old.store links s.store vs) → AreLive a.depth s.store opened.after
    → IsMade s t v (OfRecord xs vs None)
    → Typed a (closed (fields_at xs p)) s.store opened.after t.store v
record_of a links p xs old s t vs v count e opened live m =
    m.typed a opened.after (closed (fields_at xs p)) e live
    (record {
      types = children p (length xs);
      rest = None;
      has = subst (λ k. AllZip (Has opened.after) vs (children p k)) count opened.each;
      rest_has = tt;
      is = closed_zip xs p;
    })

pub record_begun : (code : Code) (old s t u new : State) (here : Pos) (xs : List Name) (n wanted : ℕ)
    (vs ws us : List ℕ) (v : ℕ) → us ≡ when_any n ws
    → AreOpened old s vs → length vs ≡ length xs → IsMade s t v (OfRecord xs vs None) → AsksSame t u here v wanted
    → Fills u new vs ws
    → BeginsOp code (RecordOf xs) n here wanted us old new
record_begun code old s t u new here xs n wanted vs ws us v are o count m k f =
    subst (λ zs. BeginsOp code (RecordOf xs) n here wanted zs old new) (sym are)
    (when_parts code wanted (beside (length xs)) (before_items (RecordOf xs) n here) (RecordOf xs) n here ws old new
    (begun_as code wanted (beside (length xs)) (λ scope q w. Same here (closed (fields_at xs (child q 0))) w ∷ [])
    (before_items (RecordOf xs) n here) ws
    (λ scope q w. some_types (children (child q 0) (length xs))) (λ scope q w. types_at (RecordOf xs) n scope here q w)
    old new
    (λ scope q w. sym (turn_before (Same here (closed (fields_at xs (child q 0))) w ∷ [])
    (children (child q 0) (length xs))))
    (λ scope q w. sym (turn_types (Same here (closed (fields_at xs (child q 0))) w ∷ [])
    (children (child q 0) (length xs))))
    (record {
      follows = follows_on old s new o.follows (follows_on s t new m.follows (follows_on t u new k.follows f.follows));
      live = f.live (all_still_live s u vs (follows_on s t u m.follows k.follows) o.live);
      plain = λ scope q w. (refl, tt);
      gives = λ a links scope q w set has. (
          let e = set.around.depth in
          let x = o.children a links (child q 0) e set.live in
          let l = x.walk.live set.live in
          let y = record_of a links (child q 0) xs old s t vs v count (e ∙ sym o.follows.depth) x l m in
          let z = k.walk a y.after (closed (fields_at xs (child q 0))) w (e ∙ sym o.follows.depth ∙ sym
          m.follows.depth) (y.walk.live l) y.has
          (has_still y.tells (has_still x.tells has)) in
          let g = f.gives a y.after (children (child q 0) (length xs)) (e ∙ sym o.follows.depth ∙ sym m.follows.depth ∙
          sym k.follows.depth)
          (z.live (y.walk.live l))
          (all_still vs (children (child q 0) (length xs)) y.tells (subst (λ k. AllZip (Has x.after) vs
          (children (child q 0) k)) count x.each)) in
          record {
            after = g.after;
            walk =
                lined set.live
                (spot (In (Child Here 0) (Tops 0 (length vs))) refl (types_beside q (length vs) (length xs) count)
                x.walk
                (quiet y.walk (quiet z (ends g.walk))));
            tells = tells_on g.tells (tells_on y.tells x.tells);
            has = g.has;
          });
    })))

pub record_stops : (code : Code) (old s t new : State) (here : Pos) (xs : List Name) (n wanted : ℕ) (vs : List ℕ)
    (v : ℕ) (bad : Bad)
    → AreOpened old s vs → length vs ≡ length xs → IsMade s t v (OfRecord xs vs None)
    → RefusesSame t new here v wanted bad
    → OpStops code (RecordOf xs) n here wanted old new bad
record_stops code old s t new here xs n wanted vs v bad o count m r =
    stops_as code wanted (beside (length xs)) (λ scope q w. Same here (closed (fields_at xs (child q 0))) w ∷ [])
    (before_items (RecordOf xs) n here) old new bad
    (λ scope q w. sym (turn_before (Same here (closed (fields_at xs (child q 0))) w ∷ [])
    (children (child q 0) (length xs))))
    (record {
      fails = λ a links scope q w set has. (
          let e = set.around.depth in
          let x = o.children a links (child q 0) e set.live in
          let l = x.walk.live set.live in
          let y = record_of a links (child q 0) xs old s t vs v count (e ∙ sym o.follows.depth) x l m in
          halted
          (past_spot (In (Child Here 0) (Tops 0 (length vs))) refl (types_beside q (length vs) (length xs) count) tt
          x.walk
          (past_quiet tt y.walk
          (halts (r.fails a y.after none (closed (fields_at xs (child q 0))) w [] y.has
          (has_still y.tells (has_still x.tells has)))))));
    })

-- ---- negations

pub negation_begun : (code : Code) (old new : State) (here : Pos) (n wanted : ℕ) (ws us : List ℕ)
    → us ≡ when_any n ws → ws ≡ wanted ∷ []
    → Live old.depth old.store wanted → AsksClass old new here wanted Number
    → BeginsOp code Negate n here wanted us old new
negation_begun code old new here n wanted ws us are one live k =
    subst (λ zs. BeginsOp code Negate n here wanted zs old new) (sym (are ∙ ap (when_any n) one))
    (when_parts code wanted (beside n) (before_items Negate n here) Negate n here (wanted ∷ []) old new
    (record {
      follows = k.follows;
      live = (still_live old new wanted k.follows live, tt);
      plain = λ scope q w. (refl, tt);
      gives = λ a links scope q w set has. record {
        after = links;
        walk = lined {q = q} set.live (ends (k.walk a links w set.around.depth set.live has));
        tells = tells_same links;
        has = (has, tt);
      };
    }))

pub negation_stops : (code : Code) (old new : State) (here : Pos) (n wanted : ℕ) (bad : Bad)
    → RefusesClass old new here wanted Number bad
    → OpStops code Negate n here wanted old new bad
negation_stops code old new here n wanted bad r = record {
  fails = λ a links scope q w set has. halted {q = q} (halts (r.fails a links none w [] has));
}

-- ---- operators

-- the states between, before the last question
pub record Operates (old s t x y z : State) (pos : Pos) (op : Operator) (wanted : ℕ) (vs : List ℕ) (v is asked : ℕ) :
    Type 0 where
  pub opened : AreOpened old s vs
  pub count : length vs ≡ 2
  pub operand : IsOpened s t v
  pub class : AsksClassItems t x pos v (operator_class op)
  pub made : IsMade x y is (OfOperator op v)
  pub wants : IsMade y z asked (OfFunctions vs wanted)

module _ (old s t x y z : State) (pos : Pos) (op : Operator) (wanted : ℕ) (vs : List ℕ) (v is asked : ℕ)
    (h : Operates old s t x y z pos op wanted vs v is asked)
    (a : Around) (links : Links) (q : Place) (w : Wanted) (e : a.depth ≡ old.depth) (live : AreLive a.depth old.store
    links) (has : Has links wanted w) where
  e1 : a.depth ≡ s.depth
  e1 = e ∙ sym h.opened.follows.depth

  e2 : a.depth ≡ t.depth
  e2 = e1 ∙ sym h.operand.follows.depth

  e3 : a.depth ≡ x.depth
  e3 = e2 ∙ sym h.class.follows.depth

  e4 : a.depth ≡ y.depth
  e4 = e3 ∙ sym h.made.follows.depth

  e5 : a.depth ≡ z.depth
  e5 = e4 ∙ sym h.wants.follows.depth

  kids : Children a (child q 0) old.store links s.store vs
  kids = h.opened.children a links (child q 0) e live

  abbrev both : Links
  both = (v, at (child q 1)) ∷ kids.after

  l1 : AreLive a.depth s.store kids.after
  l1 = kids.walk.live live

  opens : Walk a (only (child q 1)) [] s.store kids.after t.store both
  opens = h.operand.walk a kids.after (child q 1) e1 l1

  l2 : AreLive a.depth t.store both
  l2 = opens.live l1

  in_class : Walk a none (class_items pos (at (child q 1)) (operator_class op)) t.store both x.store both
  in_class = h.class.walk a both (at (child q 1)) e2 l2 (has_new v (at (child q 1)) kids.after)

  l3 : AreLive a.depth x.store both
  l3 = in_class.live l2

  one : Typed a (operator_type op (at (child q 1))) x.store both y.store is
  one =
      h.made.typed a both (operator_type op (at (child q 1))) e3 l3
      (record { operand = at (child q 1); has = has_new v (at (child q 1)) kids.after; is = refl })

  l4 : AreLive a.depth y.store one.after
  l4 = one.walk.live l3

  more : Tells one.after kids.after
  more = tells_on one.tells (tells_more v (at (child q 1)) (tells_same kids.after))

  parts : AllZip (Has one.after) vs (children (child q 0) 2)
  parts = all_still vs (children (child q 0) 2) more (subst (λ k. AllZip (Has kids.after) vs (children (child q 0) k))
      h.count kids.each)

  two : Typed a (functions (children (child q 0) 2) w) y.store one.after z.store asked
  two =
      h.wants.typed a one.after (functions (children (child q 0) 2) w) e4 l4
      (record {
        parameters = children (child q 0) 2;
        result = w;
        has = parts;
        result_has = has_still more (has_still kids.tells has);
        is = refl;
      })

  operator_gives : (new : State) → AsksSame z new pos is asked
      → Gives a (beside 2 q) (class_items pos (at (child q 1)) (operator_class op) ++ Same pos
      (operator_type op (at (child q 1))) (functions (children (child q 0) 2) w) ∷ [])
      old.store links new.store vs (children (child q 0) 2)
  operator_gives new k = record {
    after = two.after;
    walk =
        lined live
        (spot (In (Child Here 0) (Tops 0 (length vs))) refl (types_beside q (length vs) 2 h.count) kids.walk
        (spot (In (Child Here 1) Itself) refl (first_beside q 2) opens
        (quiet in_class
        (quiet one.walk
        (quiet two.walk
        (ends (k.walk a two.after (operator_type op (at (child q 1))) (functions (children (child q 0) 2) w) e5
        (two.walk.live l4) (has_still two.tells one.has) two.has)))))));
    tells = tells_on two.tells (tells_on more kids.tells);
    has = all_still vs (children (child q 0) 2) two.tells parts;
  }

  operator_fails : (new : State) (bad : Bad) → RefusesSame z new pos is asked bad
      → Fails a old.store links (beside 2 q) (class_items pos (at (child q 1)) (operator_class op) ++ Same pos
      (operator_type op (at (child q 1))) (functions (children (child q 0) 2) w) ∷ [])
      bad new.store
  operator_fails new bad r =
      halted
      (past_spot (In (Child Here 0) (Tops 0 (length vs))) refl (types_beside q (length vs) 2 h.count) tt kids.walk
      (past_spot (In (Child Here 1) Itself) refl (first_beside q 2) tt opens
      (past_quiet (class_sizes pos (at (child q 1)) (operator_class op)) in_class
      (past_quiet tt one.walk
      (past_quiet tt two.walk
      (halts (r.fails a two.after none (operator_type op (at (child q 1))) (functions (children (child q 0) 2) w) []
      (has_still two.tells one.has) two.has)))))))

operated : (old s t x y z new : State) (pos : Pos) (op : Operator) (wanted : ℕ) (vs : List ℕ) (v is asked : ℕ)
    → Operates old s t x y z pos op wanted vs v is asked → AsksSame z new pos is asked → Follows s new
operated old s t x y z new pos op wanted vs v is asked h k =
    follows_on s t new h.operand.follows
    (follows_on t x new h.class.follows (follows_on x y new h.made.follows (follows_on y z new h.wants.follows
    k.follows)))

pub binary_begun : (code : Code) (old s t x y z new : State) (here pos : Pos) (op : Operator) (n wanted : ℕ)
    (vs us : List ℕ) (v is asked : ℕ) → us ≡ when_any n vs
    → Operates old s t x y z pos op wanted vs v is asked → AsksSame z new pos is asked
    → BeginsOp code (Binary pos op) n here wanted us old new
binary_begun code old s t x y z new here pos op n wanted vs us v is asked are h k =
    let f = operated old s t x y z new pos op wanted vs v is asked h k in
    subst (λ zs. BeginsOp code (Binary pos op) n here wanted zs old new) (sym are)
    (when_parts code wanted (beside 2) (before_items (Binary pos op) n here) (Binary pos op) n here vs old new
    (record {
      follows = follows_on old s new h.opened.follows f;
      live = all_still_live s new vs f h.opened.live;
      plain = λ scope q w. sizes_both (class_items pos (at (child q 1)) (operator_class op)) _
          (class_sizes pos (at (child q 1)) (operator_class op)) (refl, tt);
      gives = λ a links scope q w set has.
          operator_gives old s t x y z pos op wanted vs v is asked h a links q w set.around.depth set.live has new k;
    }))

pub binary_stops : (code : Code) (old s t x y z new : State) (here pos : Pos) (op : Operator) (n wanted : ℕ)
    (vs : List ℕ) (v is asked : ℕ) (bad : Bad)
    → Operates old s t x y z pos op wanted vs v is asked → RefusesSame z new pos is asked bad
    → OpStops code (Binary pos op) n here wanted old new bad
binary_stops code old s t x y z new here pos op n wanted vs v is asked bad h r = record {
  fails = λ a links scope q w set has.
      operator_fails old s t x y z pos op wanted vs v is asked h a links q w set.around.depth set.live has new bad r;
}

pub class_stops : (code : Code) (old s t new : State) (here pos : Pos) (op : Operator) (n wanted : ℕ) (vs : List ℕ)
    (v : ℕ) (bad : Bad) → AreOpened old s vs
    → length vs ≡ 2 → IsOpened s t v → RefusesClassItems t new pos v (operator_class op) bad
    → OpStops code (Binary pos op) n here wanted old new bad
class_stops code old s t new here pos op n wanted vs v bad o count p r = record {
  fails = λ a links scope q w set has. (
      let e = set.around.depth in
      let x = o.children a links (child q 0) e set.live in
      let y = p.walk a x.after (child q 1) (e ∙ sym o.follows.depth) (x.walk.live set.live) in
      halted
      (past_spot (In (Child Here 0) (Tops 0 (length vs))) refl (types_beside q (length vs) 2 count) tt x.walk
      (past_spot (In (Child Here 1) Itself) refl (first_beside q 2) tt y
      (halts (r.fails a ((v, at (child q 1)) ∷ x.after) none (at (child q 1)) (Same pos
      (operator_type op (at (child q 1))) (functions (children (child q 0) 2) w) ∷ [])
      (has_new v (at (child q 1)) x.after))))));
}

-- ---- a record that is updated

pub update_begun : (code : Code) (s : State) (here : Pos) (xs : List Name) (n wanted : ℕ) (ws us : List ℕ)
    → us ≡ when_any n ws → ws ≡ wanted ∷ []
    → IsStore s.store → Live s.depth s.store wanted → BeginsOp code (Update xs) n here wanted us s s
update_begun code s here xs n wanted ws us are one whole live =
    subst (λ zs. BeginsOp code (Update xs) n here wanted zs s s) (sym (are ∙ ap (when_any n) one))
    (when_parts code wanted (before_region (Update xs) n) (before_items (Update xs) n here) (Update xs) n here
    (wanted ∷ []) s s
    (record {
      follows = follows_itself s whole;
      live = (live, tt);
      plain = λ scope q w. tt;
      gives = λ a links scope q w set has. record {
        after = links;
        walk = lined {q = q} set.live (ends (rests a s.store links));
        tells = tells_same links;
        has = (has, tt);
      };
    }))
