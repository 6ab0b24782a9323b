-- Functions that read a field of a record.
use Rattle.std.proofs.Common.{◌≡◌, ℕ, ◌<◌, [], ◌∷◌, true, false, Bool, Some, refl, sym, ap, ◌∙◌}
use Rattle.std.specs.List.{All}
use Rattle.std.specs.Prelude.{◌&&◌}
use Rattle.std.proofs.lemmas.List.Elements.{All-nil, All-cons}
use Rattle.elm_base.specs.declared.position.Pos.{Pos}
use Rattle.elm_canon.specs.Tree.{Accessor}
use Rattle.elm_type.specs.Types.{Name, NoField, MoreField, function}
use Rattle.elm_type.specs.Rows.{extend}
use Rattle.elm_type.specs.Ground.{lacks_all}
use Rattle.type_items.specs.Items.{Place, child, Wanted, at, Same}
use Rattle.type_items.specs.Patterns.{open_record}
use Rattle.type_items.specs.Expressions.{items}
use Rattle.type_items.specs.Scopes.{Scope}
use Rattle.type_store.specs.Store.{Row, Store}
use Rattle.type_store.specs.Shape.{parts_of}
use Rattle.type_walks.specs.TypeStepsLaws.{Lacking, EndLacks}
use Rattle.type_walks.specs.Regions.{none, below, either}
use Rattle.type_walks.specs.Links.{Links, Live, AreLive, Has}
use Rattle.type_walks.specs.Walks.{Around}
use Rattle.type_walks.proofs.Regions.{none_inside, none_apart, either_inside}
use Rattle.type_walks.proofs.Walking.{goes_on, widens}
use Rattle.type_constructs.specs.Failing.{Bad, Fails}
use Rattle.type_constructs.specs.Stepping.{Step}
use Rattle.type_constructs.proofs.Walking.{walks_accessor}
use Rattle.type_constructs.proofs.Running.{plain}
use Rattle.type_constructs.proofs.Stops.{past, ends, stopped}
use Rattle.type_constructs.proofs.Spots.{Here, Child, Itself, Nowhere, In}
use Rattle.type_constructs.proofs.Chains.{tells_same, tells_more, tells_on, has_new, has_still}
use Rattle.infer_steps.specs.Codes.{State}
use Rattle.infer_steps.specs.Made.{IsOpened, IsMade, OfFunctions, OfRow}
use Rattle.infer_steps.specs.Asked.{AsksSame, RefusesSame, AsksLack, RefusesLack}
use Rattle.infer_steps.proofs.Stepping.{follows_on, still_live}
use Rattle.infer_steps.specs.Leaves.{listed, OfReader, WalksAlone, StopsAlone}

-- ---- the function

-- the end is known to lack the field
pub end_lacks : (s : Store) (x : Name) (r f : ℕ) → Lacking s r (x ∷ []) → EndLacks s ((x, f) ∷ []) (Some r)
end_lacks s x r f known = record { each = known.each }

pub row_inside : (n r f : ℕ) → r < n → f < n → (x : Name) → All (λ w. w < n) (parts_of (Row ((x, f) ∷ []) (Some r)))
row_inside n r f lr lf x = All-cons (λ w. w < n) f (r ∷ []) lf (All-cons (λ w. w < n) r [] lr (All-nil (λ w. w < n)))

row_types : (x : Name) (r f : ℕ) (links : Links) (rest type : Wanted) → Has links r rest → Has links f type
    → OfRow ((x, f) ∷ []) (Some r) links (extend (MoreField x type NoField) rest)
row_types x r f links rest type h k = record { types = type ∷ []; rest = Some rest; has = (k, tt); rest_has = h; is = refl }

pub reads : (old u new : State) (x : Name) (r f m v : ℕ) → IsMade old u m (OfRow ((x, f) ∷ []) (Some r)) → IsMade u new v (OfFunctions (m ∷ []) f)
    → IsMade old new v (OfReader x r f)
reads old u new x r f m v one two = record {
  follows = follows_on old u new one.follows two.follows;
  live = two.live;
  typed = λ a links t e live of. (
      let record_type = extend (MoreField x of.type NoField) of.rest in
      let first = one.typed a links record_type e live (row_types x r f links of.rest of.type of.rest_has of.has) in
      let second = two.typed a first.after t (e ∙ sym one.follows.depth) (first.walk.live live)
      (record { parameters = record_type ∷ []; result = of.type; has = (first.has, tt); result_has = has_still first.tells of.has; is = of.is }) in
      record {
        after = second.after;
        walk =
            widens a (either none none) none [] old.store new.store links second.after (either_inside none none none (none_inside none) (none_inside none))
            (goes_on a none none [] [] old.store u.store new.store links first.after second.after (none_apart none) live first.walk second.walk);
        tells = tells_on second.tells first.tells;
        has = second.has;
      });
}

-- ---- the expression

module _ (old one : State) (here : Pos) (x : Name) (r wanted : ℕ) (opened : IsOpened old one r) where
  abbrev rest_type : Place → Wanted
  rest_type q = at (child q 0)

  abbrev field_type : Place → Wanted
  field_type q = at (child (child q 1) 0)

  abbrev read_type : Place → Wanted
  read_type q = function (open_record (x ∷ []) (child q 1) (at (child q 0))) (at (child (child q 1) 0))

  pub no_lack : (new : State) (bad : Bad) → RefusesLack one new here r x bad → StopsAlone wanted (listed (Accessor x) here) old new bad
  no_lack new bad refuses = record {
    stopped = λ code. record {
      fails = λ a links scope w s h. (
          let q = old.place in
          let open_walk = opened.walk a links (child q 0) s.around.depth s.live in
          stopped refl (past (In (Child Here 0) Itself) refl (plain tt open_walk)
          (ends Nowhere (refuses.fails a ((r, rest_type q) ∷ links) none (rest_type q) (Same here (read_type q) w ∷ []) (has_new r (rest_type q) links)))));
    };
  }

  -- what is known after it was asked
  pub lacking : (two three : State) (f : ℕ) → AsksLack one two here r x → IsOpened two three f → Live one.depth one.store r → Lacking three.store r (x ∷ [])
  lacking two three f lack field live = record {
    each = λ σ h. (
        let b = field.follows.back σ h in
        let l = lack.back b.values b.fit in
        let there = still_live one two r lack.follows live in
        ap (λ t. lacks_all (x ∷ []) t) (b.agree.types r there) ∙ ap (λ k. k && true) l.1);
  }

  module _ (two three four : State) (f v : ℕ) (lack : AsksLack one two here r x) (field : IsOpened two three f) (made : IsMade three four v (OfReader x r f)) where
    abbrev first : Place → Links → Links
    first q links = (r, at (child q 0)) ∷ links

    abbrev second : Place → Links → Links
    second q links = (f, at (child (child q 1) 0)) ∷ (r, at (child q 0)) ∷ links

    reader_step : (new : State) → AsksSame four new here v wanted → (real : Bool) (a : Around) (links : Links) (scope : Scope) (q : Place) (w : Wanted)
        → a.depth ≡ old.depth → AreLive a.depth old.store links → Has links wanted w
        → Step real a (below q) (items (Accessor x) scope here q w) old.store links new.store links
    reader_step new same real a links scope q w e live has =
        let open_walk = opened.walk a links (child q 0) e live in
        let l1 = open_walk.live live in
        let e1 = e ∙ sym opened.follows.depth in
        let lack_walk = lack.walk a (first q links) (rest_type q) e1 l1 (has_new r (rest_type q) links) in
        let l2 = lack_walk.live l1 in
        let e2 = e1 ∙ sym lack.follows.depth in
        let field_walk = field.walk a (first q links) (child (child q 1) 0) e2 l2 in
        let l3 = field_walk.live l2 in
        let e3 = e2 ∙ sym field.follows.depth in
        let tells = tells_more f (field_type q) (tells_same (first q links)) in
        let m = made.typed a (second q links) (read_type q) e3 l3 (record {
          rest = rest_type q;
          rest_has = has_still tells (has_new r (rest_type q) links);
          type = field_type q;
          has = has_new f (field_type q) (first q links);
          is = refl;
        }) in
        let all = tells_on m.tells (tells_more f (field_type q) (tells_more r (rest_type q) (tells_same links))) in
        walks_accessor real a x scope here q w old.store one.store two.store three.store four.store new.store links r f v live open_walk lack_walk field_walk m
        (same.walk a m.after (read_type q) w (e3 ∙ sym made.follows.depth) (m.walk.live l3) m.has (has_still all has))

    pub reader_walked : (new : State) → AsksSame four new here v wanted → WalksAlone wanted (listed (Accessor x) here) old new
    reader_walked new same = record {
      follows = follows_on old one new opened.follows (follows_on one two new lack.follows
          (follows_on two three new field.follows (follows_on three four new made.follows same.follows)));
      walked = λ code. record {
        walk = λ a links scope q w s h. (reader_step new same false a links scope q w s.around.depth s.live h).walk;
        passes = λ a links scope w s h. (reader_step new same true a links scope old.place w s.around.depth s.live h).passes refl;
      };
    }

    reader_fails : (new : State) (bad : Bad) → RefusesSame four new here v wanted bad → (a : Around) (links : Links) (scope : Scope) (q : Place) (w : Wanted)
        → a.depth ≡ old.depth → AreLive a.depth old.store links → Has links wanted w
        → Fails a old.store links (below q) (items (Accessor x) scope here q w) bad new.store
    reader_fails new bad refuses a links scope q w e live has =
        let open_walk = opened.walk a links (child q 0) e live in
        let l1 = open_walk.live live in
        let e1 = e ∙ sym opened.follows.depth in
        let lack_walk = lack.walk a (first q links) (rest_type q) e1 l1 (has_new r (rest_type q) links) in
        let l2 = lack_walk.live l1 in
        let e2 = e1 ∙ sym lack.follows.depth in
        let field_walk = field.walk a (first q links) (child (child q 1) 0) e2 l2 in
        let l3 = field_walk.live l2 in
        let e3 = e2 ∙ sym field.follows.depth in
        let tells = tells_more f (field_type q) (tells_same (first q links)) in
        let m = made.typed a (second q links) (read_type q) e3 l3 (record {
          rest = rest_type q;
          rest_has = has_still tells (has_new r (rest_type q) links);
          type = field_type q;
          has = has_new f (field_type q) (first q links);
          is = refl;
        }) in
        let all = tells_on m.tells (tells_more f (field_type q) (tells_more r (rest_type q) (tells_same links))) in
        stopped refl (past (In (Child Here 0) Itself) refl (plain tt open_walk)
        (past Nowhere refl (plain (refl, tt) lack_walk)
        (past (In (Child (Child Here 1) 0) Itself) refl (plain tt field_walk)
        (past Nowhere refl (plain tt m.walk)
        (ends Nowhere (refuses.fails a m.after none (read_type q) w [] m.has (has_still all has)))))))

    pub reader_no_same : (new : State) (bad : Bad) → RefusesSame four new here v wanted bad → StopsAlone wanted (listed (Accessor x) here) old new bad
    reader_no_same new bad refuses = record {
      stopped = λ code. record { fails = λ a links scope w s h. reader_fails new bad refuses a links scope old.place w s.around.depth s.live h };
    }
