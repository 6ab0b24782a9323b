-- The definitions of a let, one type group after another.
use Rattle.std.proofs.Common.{◌≡◌, ℕ, zero, suc, ◌+◌, ◌≤◌, List, [], ◌∷◌, ◌++◌, length, take, drop, Bool, true, false}
use Rattle.std.proofs.Common.{Some, refl, sym, ap, ◌∙◌, subst, arith, append_assoc}
use Rattle.std.specs.Prelude.{slice_get}
use Rattle.std.proofs.lemmas.List.{append-nil}
use Rattle.type_items.specs.Items.{Place, child, Item}
use Rattle.type_items.specs.Scopes.{Scope}
use Rattle.type_items.specs.Definitions.{Definition, in_written_order, type_groups, list_group, list_groups}
use Rattle.type_items.specs.Definitions.{list_definitions}
use Rattle.type_walks.specs.Walks.{Walk}
use Rattle.type_constructs.specs.Passing.{Passes}
use Rattle.type_constructs.specs.Failing.{Bad, Fails}
use Rattle.infer_steps.specs.Means.{Setting}
use Rattle.type_walks.specs.Regions.{none, only, below, span, either, Inside, Apart}
use Rattle.type_walks.proofs.Regions.{child_in_span, below_in_span, span_in_below, span_in_span, spans_apart}
use Rattle.type_walks.proofs.Regions.{none_inside, either_inside}
use Rattle.type_walks.proofs.Walking.{goes_on, widens}
use Rattle.type_constructs.proofs.Passing.{passes_on, passes_widely}
use Rattle.type_constructs.proofs.Failing.{fails_after, fails_earlier}
use Rattle.infer_steps.specs.Codes.{Code, State}
use Rattle.infer_steps.proofs.Staying.{follows_on}
use Rattle.infer_groups.specs.Defined.{Places, Listing, group_places, Defined, DefinitionsStop}
use Rattle.infer_groups.proofs.Members.{take_none, take_all, take_one, take_count}
use Rattle.infer_groups.specs.Lets.{listed_names, listed_first, DefinesNone, DefinesOneMore, DefinesAll, StopsAtNames}
use Rattle.infer_groups.specs.Lets.{StopsAtGroup}

-- ---- one after the other

module _ (code inner after : Code) (R Q X : Places) (first second all : Listing) (old between new : State)
    (apart : (q : Place) → Apart (R q) (Q q)) (left : (q : Place) → Inside (R q) (X q))
    (right : (q : Place) → Inside (Q q) (X q))
    (items : (scope : Scope) (q : Place) → (all scope q).items ≡ (first scope q).items ++
    (second (first scope q).scope q).items)
    (scopes : (scope : Scope) (q : Place) → (all scope q).scope ≡ (second (first scope q).scope q).scope)
    (one : Defined code inner R first old between) where
  pub in_turn : Defined inner after Q second between new → Defined code after X all old new
  in_turn two = record {
    follows = follows_on old between new one.follows two.follows;
    ready = two.ready;
    walk = λ a links scope q set. (
        let set' = one.setting a links scope q set in
        let s = (first scope q).scope in
        subst (λ l. Walk a (X q) l old.store links new.store links) (sym (items scope q))
        (widens a (either (R q) (Q q)) (X q) ((first scope q).items ++ (second s q).items) old.store new.store links
        links
        (either_inside (R q) (Q q) (X q) (left q) (right q))
        (goes_on a (R q) (Q q) (first scope q).items (second s q).items old.store between.store new.store links links
        links (apart q) set.live
        (one.walk a links scope q set) (two.walk a links s q set'))));
    setting = λ a links scope q set.
        subst (λ s. Setting a links after s new) (sym (scopes scope q))
        (two.setting a links (first scope q).scope q (one.setting a links scope q set));
    passes = λ a links scope set. (
        let q = old.place in
        let set' = one.setting a links scope q set in
        let s = (first scope q).scope in
        subst (λ l. Passes a old.store links (X q) l) (sym (items scope q))
        (passes_on a (R q) (Q q) (X q) (first scope q).items (second s q).items old.store between.store links links
        (apart q) (left q) (right q)
        (one.walk a links scope q set) (one.passes a links scope set)
        (subst (λ r. Passes a between.store links (Q r) (second s r).items) one.follows.place
        (two.passes a links s set'))));
  }

  pub stops_then : (bad : Bad) → DefinitionsStop inner Q second between new bad → (more : Scope → Place → List Item)
      (whole : Listing)
      → ((scope : Scope) (q : Place) → (whole scope q).items ≡ (all scope q).items ++ more scope q) → (Y : Places) →
      ((q : Place) → Inside (X q) (Y q))
      → DefinitionsStop code Y whole old new bad
  stops_then bad stop more whole is Y wide = record {
    fails = λ a links scope set. (
        let q = old.place in
        let set' = one.setting a links scope q set in
        let s = (first scope q).scope in
        subst (λ l. Fails a old.store links (Y q) l bad new.store) (sym (is scope q))
        (fails_earlier a old.store links (X q) (Y q) (all scope q).items (more scope q) bad new.store (wide q)
        (subst (λ l. Fails a old.store links (X q) l bad new.store) (sym (items scope q))
        (fails_after a (R q) (Q q) (X q) (first scope q).items (second s q).items old.store between.store new.store
        links links bad (apart q) (left q) (right q)
        (one.walk a links scope q set) (one.passes a links scope set)
        (subst (λ r. Fails a between.store links (Q r) (second s r).items bad new.store) one.follows.place
        (stop.fails a links s set'))))));
  }

-- listed in other words, in a larger region
module _ (code after : Code) (R X : Places) (list all : Listing) (old new : State)
    (wide : (q : Place) → Inside (R q) (X q))
    (items : (scope : Scope) (q : Place) → (list scope q).items ≡ (all scope q).items)
    (scopes : (scope : Scope) (q : Place) → (list scope q).scope ≡ (all scope q).scope) where
  restate : Defined code after R list old new → Defined code after X all old new
  restate one = record {
    follows = one.follows;
    ready = one.ready;
    walk = λ a links scope q set.
        widens a (R q) (X q) (all scope q).items old.store new.store links links (wide q)
        (subst (λ l. Walk a (R q) l old.store links new.store links) (items scope q) (one.walk a links scope q set));
    setting = λ a links scope q set. subst (λ s. Setting a links after s new) (scopes scope q)
        (one.setting a links scope q set);
    passes = λ a links scope set.
        passes_widely a old.store links (R old.place) (X old.place) (all scope old.place).items (wide old.place)
        (subst (λ l. Passes a old.store links (R old.place) l) (items scope old.place) (one.passes a links scope set));
  }

-- ---- groups in turn

items_last : (gs : List (List Definition)) (g : List Definition) (scope : Scope) (p : Place) (i j : ℕ)
    → i + length gs ≡ j
    → (list_groups (gs ++ g ∷ []) scope p i).items
    ≡ (list_groups gs scope p i).items ++ (list_group g (list_groups gs scope p i).scope (child p j)).items
items_last [] g scope p i j e =
    let f : i ≡ j = omega arith in
    append-nil (list_group g scope (child p i)).items ∙ ap (λ n. (list_group g scope (child p n)).items) f
items_last (h ∷ gs) g scope p i j e =
    let first = list_group h scope (child p i) in
    ap (λ l. first.items ++ l) (items_last gs g first.scope p (i + 1) j (omega arith))
    ∙ sym (append_assoc first.items (list_groups gs first.scope p (i + 1)).items _)

scope_last : (gs : List (List Definition)) (g : List Definition) (scope : Scope) (p : Place) (i j : ℕ)
    → i + length gs ≡ j
    → (list_groups (gs ++ g ∷ []) scope p i).scope ≡ (list_group g (list_groups gs scope p i).scope (child p j)).scope
scope_last [] g scope p i j e = let f : i ≡ j = omega arith in ap (λ n. (list_group g scope (child p n)).scope) f
scope_last (h ∷ gs) g scope p i j e = scope_last gs g (list_group h scope (child p i)).scope p (i + 1) j (omega arith)

groups_split : (gs : List (List Definition)) (m : ℕ) (scope : Scope) (p : Place) (i j : ℕ) → i + m ≡ j → m ≤ length gs
    → (list_groups gs scope p i).items
    ≡ (list_groups (take m gs) scope p i).items ++
    (list_groups (drop m gs) (list_groups (take m gs) scope p i).scope p j).items
groups_split gs zero scope p i j e h =
    let f : i ≡ j = omega arith in
    ap (λ n. (list_groups gs scope p n).items) f ∙ none gs
  where
    none : (gs : List (List Definition)) → (list_groups gs scope p j).items
        ≡ (list_groups (take 0 gs) scope p i).items ++
        (list_groups (drop 0 gs) (list_groups (take 0 gs) scope p i).scope p j).items
    none [] = refl
    none (g ∷ gs) = refl
groups_split [] (suc m) scope p i j e h = absurd (omega arith)
groups_split (g ∷ gs) (suc m) scope p i j e h =
    let first = list_group g scope (child p i) in
    ap (λ l. first.items ++ l) (groups_split gs m first.scope p (i + 1) j (omega arith) (omega arith))
    ∙ sym (append_assoc first.items (list_groups (take m gs) first.scope p (i + 1)).items _)

within_count : {X : Type 0} (xs : List X) (k : ℕ) (x : X) → slice_get xs k ≡ Some x → k + 1 ≤ length xs
within_count [] k x is = absurd cc
within_count (y ∷ ys) zero x is = omega arith
within_count (y ∷ ys) (suc k) x is = let l = within_count ys k x is in omega arith

group_inside : (q : Place) (i n k : ℕ) → i ≤ k → k + 1 ≤ i + n → Inside (group_places (child q k)) (span q i n)
group_inside q i n k x y =
    either_inside (only (child q k)) (below (child q k)) (span q i n) (child_in_span q i n k x (omega (arith, y)))
    (below_in_span q i n k x (omega (arith, y)))

group_apart : (q : Place) (k : ℕ) → Apart (span q 0 k) (group_places (child q k))
group_apart q k = record {
  each = λ r e. off r ((spans_apart q 0 k k 1 (omega arith)).each r e);
}
  where
    off : (r : Place) → span q k 1 r ≡ false → group_places (child q k) r ≡ false
    off r out = at_test (group_places (child q k) r) refl
      where
        at_test : (b : Bool) → group_places (child q k) r ≡ b → b ≡ false
        at_test true e = absurd (let there = (group_inside q k 1 k (omega arith) (omega arith)).each r e in cc)
        at_test false e = refl

module _ (gs : List (List Definition)) (g : List Definition) (k : ℕ) (is : slice_get gs k ≡ Some g) where
  one_items : (scope : Scope) (q : Place) → (list_groups (take (k + 1) gs) scope q 0).items
      ≡ (list_groups (take k gs) scope q 0).items ++
      (list_group g (list_groups (take k gs) scope q 0).scope (child q k)).items
  one_items scope q =
      ap (λ l. (list_groups l scope q 0).items) (sym (take_one gs k g is))
      ∙ items_last (take k gs) g scope q 0 k (omega (arith, take_count gs k g is))

  one_scope : (scope : Scope) (q : Place)
      → (list_groups (take (k + 1) gs) scope q 0).scope ≡
      (list_group g (list_groups (take k gs) scope q 0).scope (child q k)).scope
  one_scope scope q =
      ap (λ l. (list_groups l scope q 0).scope) (sym (take_one gs k g is))
      ∙ scope_last (take k gs) g scope q 0 k (omega (arith, take_count gs k g is))

module _ (ordered : List Definition) where
  abbrev groups : List (List Definition)
  groups = type_groups ordered

  abbrev start : Scope → Place → Scope
  start scope q = (listed_names ordered scope q).scope

  first_items : (k : ℕ) (g : List Definition) → slice_get groups k ≡ Some g → (scope : Scope) (q : Place)
      → (listed_first ordered (k + 1) scope q).items
      ≡ (listed_first ordered k scope q).items ++
      (list_group g (listed_first ordered k scope q).scope (child q k)).items
  first_items k g is scope q =
      ap (λ l. (listed_names ordered scope q).items ++ l) (one_items groups g k is (start scope q) q)
      ∙ sym (append_assoc (listed_names ordered scope q).items (list_groups (take k groups) (start scope q) q 0).items
      _)

  none_items : (scope : Scope) (q : Place)
      → (listed_names ordered scope q).items ≡ (listed_first ordered 0 scope q).items
  none_items scope q =
      sym (append-nil (listed_names ordered scope q).items)
      ∙ ap (λ l. (listed_names ordered scope q).items ++ (list_groups l (start scope q) q 0).items)
      (sym (take_none groups))

pub defines_none : DefinesNone
defines_none code after ordered old new one =
    restate code after (λ q. none) (λ q. span q 0 0) (listed_names ordered) (listed_first ordered 0) old new
    (λ q. none_inside (span q 0 0))
    (none_items ordered) (λ scope q. ap (λ l. (list_groups l (start ordered scope q) q 0).scope)
    (sym (take_none (type_groups ordered)))) one

pub defines_one_more : DefinesOneMore
defines_one_more code inner after ordered g k old between new is first second =
    in_turn code inner after (λ q. span q 0 k) (λ q. group_places (child q k)) (λ q. span q 0 (k + 1))
    (listed_first ordered k)
    (λ scope q. list_group g scope (child q k)) (listed_first ordered (k + 1)) old between new (λ q. group_apart q k)
    (λ q. span_in_span q 0 (k + 1) 0 k (omega arith) (omega arith))
    (λ q. group_inside q 0 (k + 1) k (omega arith) (omega arith))
    (first_items ordered k g is) (λ scope q. one_scope (type_groups ordered) g k is (start ordered scope q) q) first
    second

pub defines_all : DefinesAll
defines_all code after ds k old new count first =
    let all : take k (type_groups (in_written_order ds)) ≡ type_groups (in_written_order ds) =
    ap (λ n. take n (type_groups (in_written_order ds))) (sym count) ∙ take_all (type_groups (in_written_order ds)) in
    restate code after (λ q. span q 0 k) below (listed_first (in_written_order ds) k) (list_definitions ds) old new
    (λ q. span_in_below q 0 k)
    (λ scope q. ap (λ l. (listed_names (in_written_order ds) scope q).items ++
    (list_groups l (start (in_written_order ds) scope q) q 0).items) all)
    (λ scope q. ap (λ l. (list_groups l (start (in_written_order ds) scope q) q 0).scope) all) first

pub stops_at_names : StopsAtNames
stops_at_names code ds old new bad stop = record {
  fails = λ a links scope set. (
      let q = old.place in
      let ordered = in_written_order ds in
      fails_earlier a old.store links none (below q) (listed_names ordered scope q).items
      (list_groups (type_groups ordered) (start ordered scope q) q 0).items bad
      new.store (none_inside (below q)) (stop.fails a links scope set));
}

pub stops_at_group : StopsAtGroup
stops_at_group code inner ds g k old between new bad is first stop =
    let ordered = in_written_order ds in
    let gs = type_groups ordered in
    stops_then code inner inner (λ q. span q 0 k) (λ q. group_places (child q k)) (λ q. span q 0 (k + 1))
    (listed_first ordered k)
    (λ scope q. list_group g scope (child q k)) (listed_first ordered (k + 1)) old between new (λ q. group_apart q k)
    (λ q. span_in_span q 0 (k + 1) 0 k (omega arith) (omega arith))
    (λ q. group_inside q 0 (k + 1) k (omega arith) (omega arith))
    (first_items ordered k g is) (λ scope q. one_scope gs g k is (start ordered scope q) q) first bad stop
    (λ scope q. (list_groups (drop (k + 1) gs) (listed_first ordered (k + 1) scope q).scope q (k + 1)).items)
    (list_definitions ds)
    (λ scope q.
    ap (λ l. (listed_names ordered scope q).items ++ l)
    (groups_split gs (k + 1) (start ordered scope q) q 0 (k + 1) (omega arith) (within_count gs k g is))
    ∙ sym (append_assoc (listed_names ordered scope q).items
    (list_groups (take (k + 1) gs) (start ordered scope q) q 0).items _))
    below (λ q. span_in_below q 0 (k + 1))
