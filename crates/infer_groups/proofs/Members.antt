-- Members of a group are walked in turn.
use Rattle.std.proofs.Common.{◌≡◌, ℕ, zero, suc, ◌+◌, ◌-◌, List, [], ◌∷◌, ◌++◌, length, take, drop, Bool}
use Rattle.std.proofs.Common.{true, false, Some, refl, sym, ap, ◌∙◌, subst, arith, append_assoc}
use Rattle.std.proofs.lemmas.List.{append-nil}
use Rattle.std.specs.Prelude.{flat_map, slice_get}
use Rattle.std.specs.List.{AllByRecursion, enumerate_from}
use Rattle.type_items.specs.Items.{Place, child, at, Item, Small}
use Rattle.type_items.specs.Scopes.{Scope}
use Rattle.type_items.specs.Definitions.{Definition, member_items, group_types, group_items}
use Rattle.type_store.specs.Store.{Store}
use Rattle.type_store.specs.Laws.{EachChoiceFits}
use Rattle.type_walks.specs.Regions.{none, only, below}
use Rattle.type_walks.proofs.Regions.{apart_none, none_inside}
use Rattle.type_walks.proofs.Linking.{right_inside}
use Rattle.type_walks.specs.Links.{Links, Live, AreLive, Has}
use Rattle.type_walks.specs.Walks.{Around, Walk}
use Rattle.type_walks.specs.TypeCopiesLaws.{SaysLater, SaysWithMore, deeper}
use Rattle.type_walks.specs.ToldTypesLaws.{TellsPrincipal}
use Rattle.type_constructs.specs.Passing.{Passes}
use Rattle.type_schemes.specs.Freezing.{ConstantsAround}
use Rattle.type_constructs.specs.Failing.{Large, Bad, Fails}
use Rattle.type_constructs.proofs.Passing.{passes_small}
use Rattle.type_constructs.proofs.Failing.{fails_after, fails_earlier, fails_inside, fails_large}
use Rattle.type_constructs.specs.Regions.{tops, deep}
use Rattle.type_constructs.specs.Stepping.{Step}
use Rattle.type_constructs.proofs.Spots.{Here, Tops, Deep, In}
use Rattle.type_constructs.proofs.Running.{plain}
use Rattle.type_constructs.proofs.Stops.{past, ends, stopped, stops_next}
use Rattle.type_constructs.specs.Groups.{WalkedMembers}
use Rattle.type_constructs.proofs.Grouping.{walks_small, walks_no_member, walks_one_member, walks_group}
use Rattle.infer_steps.specs.Codes.{Code, State}
use Rattle.infer_steps.specs.Ready.{IsReady, Follows}
use Rattle.infer_steps.specs.Means.{Setting}
use Rattle.infer_steps.specs.Promises.{Walked, Stopped}
use Rattle.infer_steps.proofs.Staying.{follows_on, ready_later, setting_later, setting_links, setting_child}
use Rattle.infer_steps.specs.Made.{AreOpened}
use Rattle.infer_groups.specs.Defined.{DefinitionsStop, IsSmallIn, IsLargeIn, group_places, at_child, inside}
use Rattle.infer_groups.specs.Members.{Named, with_named, variables_of, AreTitled, scope_inside, at_number}
use Rattle.infer_groups.specs.Members.{listed_group, MembersAt, MembersDone, GroupDone}
use Rattle.infer_groups.specs.Laws.{back_at}
use Rattle.infer_groups.proofs.Deeper.{links_deeper, setting_deeper, ready_deeper, shallower, follows_out, follows_both}
use Rattle.infer_groups.proofs.Naming.{readies_named, names_mean, titles_named, child_has, variable_at}

live_each : (d : ℕ) (s : Store) (names : List Named) → AllByRecursion (Live d s) (variables_of names)
    → AllByRecursion (λ (n : Named). Live d s n.1) names
live_each d s [] h = tt
live_each d s (n ∷ ns) h = (h.0, live_each d s ns h.1)

pub take_none : {X : Type 0} (xs : List X) → take 0 xs ≡ []
take_none [] = refl
take_none (x ∷ xs) = refl

pub take_all : {X : Type 0} (xs : List X) → take (length xs) xs ≡ xs
take_all [] = refl
take_all (x ∷ xs) = ap (λ l. x ∷ l) (take_all xs)

pub take_one : {X : Type 0} (xs : List X) (k : ℕ) (x : X) → slice_get xs k ≡ Some x
    → take k xs ++ x ∷ [] ≡ take (k + 1) xs
take_one [] k x is = absurd cc
take_one (y ∷ ys) zero x is =
    let same : y ≡ x = cc in ap (λ z. z ∷ []) (sym same) ∙ ap (λ l. y ∷ l) (sym (take_none ys))
take_one (y ∷ ys) (suc k) x is =
    ap (λ l. y ∷ l) (take_one ys k x is) ∙ ap (λ n. take n (y ∷ ys))
    (let e : suc (k + 1) ≡ suc k + 1 = omega arith in e)

pub take_count : {X : Type 0} (xs : List X) (k : ℕ) (x : X) → slice_get xs k ≡ Some x → length (take k xs) ≡ k
take_count [] k x is = absurd cc
take_count (y ∷ ys) zero x is = refl
take_count (y ∷ ys) (suc k) x is = ap suc (take_count ys k x is)

drop_none : {X : Type 0} (xs : List X) → drop 0 xs ≡ xs
drop_none [] = refl
drop_none (x ∷ xs) = refl

split_at : (f : ℕ × Definition → List Item) (ds : List Definition) (i k : ℕ) (d : Definition) → slice_get ds k ≡ Some d
    → (j : ℕ) → i + k ≡ j
    → flat_map f (enumerate_from i ds) ≡ flat_map f (enumerate_from i (take k ds)) ++
    (f (j, d) ++ flat_map f (enumerate_from (j + 1) (drop (suc k) ds)))
split_at f [] i k d is j e = absurd cc
split_at f (x ∷ xs) i zero d is j e =
    let same : x ≡ d = cc in
    let there : i ≡ j = omega arith in
    subst (λ (m : ℕ). flat_map f (enumerate_from i (x ∷ xs)) ≡ f (m, d) ++ flat_map f
    (enumerate_from (m + 1) (drop (suc zero) (x ∷ xs)))) there
    (subst (λ (l : List Definition). flat_map f (enumerate_from i (x ∷ xs)) ≡ f (i, d) ++ flat_map f
    (enumerate_from (i + 1) l)) (sym (drop_none xs))
    (ap (λ (y : Definition). f (i, y) ++ flat_map f (enumerate_from (i + 1) xs)) same))
split_at f (x ∷ xs) i (suc k) d is j e =
    ap (λ l. f (i, x) ++ l) (split_at f xs (i + 1) k d is j (omega arith))
    ∙ sym (append_assoc (f (i, x)) (flat_map f (enumerate_from (i + 1) (take k xs)))
    (f (j, d) ++ flat_map f (enumerate_from (j + 1) (drop (suc k) xs))))

live_on : (d : ℕ) (old new : State) → Follows old new → (v : ℕ) → Live old.depth old.store v
    → Live new.depth new.store v
live_on d old new f v l = record {
  inside = omega (arith, l.inside, f.later.grows);
  depth = omega (arith, f.later.depth v l.inside, l.depth, f.depth);
}

all_live_on : (old new : State) → Follows old new → (names : List Named)
    → AllByRecursion (λ (n : Named). Live old.depth old.store n.1) names
    → AllByRecursion (λ (n : Named). Live new.depth new.store n.1) names
all_live_on old new f [] h = tt
all_live_on old new f (n ∷ ns) h = (live_on 0 old new f n.1 h.0, all_live_on old new f ns h.1)

module _ (choice_fits : EachChoiceFits) (says_later : SaysLater) (says_with_more : SaysWithMore)
    (tells : TellsPrincipal)
    (code : Code) (ds : List Definition) (i : ℕ) (names : List Named) (old : State) where
  abbrev vs : List ℕ
  vs = variables_of names

  abbrev inner : Code
  inner = with_named names code

  pub opens : (mid : State) → IsReady code old.depth old.store → AreTitled names ds → AreOpened (inside old i) mid vs
      → MembersDone code ds i 0 names old mid
  opens mid ready titled opened = record {
    titled = titled;
    before = ready;
    follows = opened.follows;
    outer = ready_later choice_fits code old (shallower old mid) ready (follows_out old i mid opened.follows);
    ready =
        readies_named code mid.depth mid.store names live
        (ready_later choice_fits code (inside old i) mid (ready_deeper code old.depth old.store ready) opened.follows);
    live = live;
    opened = mid.store;
    each = λ real a links scope p is set. (
        let set' = setting_deeper a links code scope old i set in
        let children = opened.children (deeper a) links p set'.around.depth set'.live in
        let after = children.walk.live set'.live in
        let base =
        setting_links (deeper a) links children.after code scope mid children.tells after
        (setting_later says_later (deeper a) (tops p 0 (length vs)) [] (inside old i) mid links links children.after
        code scope
        (ready_deeper code old.depth old.store ready) opened.follows children.walk set') in
        let named =
        names_mean says_with_more (deeper a) children.after base.named code scope mid.store base.tells base.means names
        (group_types ds scope.known p)
        (subst (λ m. AllByRecursion (λ (n : Named). Live m mid.store n.1) names) (sym base.around.depth) live)
        (titles_named children.after scope.known p 0 names ds titled children.each) in
        record {
          children = children;
          members =
              subst (λ l. WalkedMembers real (deeper a) l (scope_inside ds scope p) p mid.store children.after mid.store
              children.after) (sym (take_none ds))
              (walks_no_member real (deeper a) (scope_inside ds scope p) p mid.store children.after);
          setting = record {
            around = base.around;
            live = base.live;
            named = named.all;
            tells = named.tells;
            means =
                named.means;
          };
        });
  }
    where
      live : AllByRecursion (λ (n : Named). Live mid.depth mid.store n.1) names
      live = live_each mid.depth mid.store names opened.live

  module _ (k : ℕ) (now : State) (done : MembersDone code ds i k names old now) where
    -- where one member more is walked, the types and the scope are these
    pub record MemberAt (real : Bool) (a : Around) (links : Links) (scope : Scope) (p : Place) (v : ℕ) : Type 0 where
      pub at_group : MembersAt real a ds k vs inner scope p old.store links done.opened now
      pub setting : Setting (deeper a) at_group.children.after inner (scope_inside ds scope p) (at_child now k)
      pub has : Has at_group.children.after v (at (child p k))

    pub member_at : (n : Named) → slice_get names k ≡ Some n → (real : Bool) (a : Around) (links : Links)
        (scope : Scope) (p : Place)
        → (real ≡ true → p ≡ child old.place i) → Setting a links code scope old → MemberAt real a links scope p n.1
    member_at n is real a links scope p here set =
        let there = done.each real a links scope p here set in
        record {
          at_group = there;
          setting = setting_child (deeper a) there.children.after inner (scope_inside ds scope p) now k there.setting;
          has = child_has there.children.after p vs 0 k k n.1 there.children.each (variable_at names k n is)
              (omega arith);
        }

    pub one_more : (d : Definition) (n : Named) (x : State) → slice_get ds k ≡ Some d → slice_get names k ≡ Some n
        → Follows (at_child now k) x → Walked inner n.1 (λ s q w. d.list s q w) (at_child now k) x → IsSmallIn x.store
        n.1
        → MembersDone code ds i (k + 1) names old (back_at now x)
    one_more d n x at_d at_n f walked small = record {
      titled = done.titled;
      before = done.before;
      follows = follows_on (inside old i) now (back_at now x) done.follows on;
      outer = ready_later choice_fits code (shallower old now) (shallower old (back_at now x)) done.outer
          (follows_both old now (back_at now x) done.follows.depth on);
      ready = ready_later choice_fits inner now (back_at now x) done.ready on;
      live = all_live_on now (back_at now x) on names done.live;
      opened = done.opened;
      each = λ real a links scope p here set. (
          let m = member_at n at_n real a links scope p here set in
          let after = m.at_group.children.after in
          let within = scope_inside ds scope p in
          let walk = walked.walk (deeper a) after within (child p k) (at (child p k)) m.setting m.has in
          record {
            children = m.at_group.children;
            members =
                more real a p within links after (links_deeper a.depth old.store links set.live)
                m.at_group.children.walk m.at_group.members
                (record {
                  walk = walk;
                  passes = λ r.
                      subst (λ q. Passes (deeper a) now.store after (below q) (d.list within q (at (child p k))))
                      (ap (λ q. child q k) (done.follows.place ∙ sym (here r)))
                      (walked.passes (deeper a) after within (at (child p k)) m.setting m.has);
                })
                m.has;
            setting =
                setting_later says_later (deeper a) (below (child p k)) (d.list within (child p k) (at (child p k))) now
                (back_at now x) after after after inner within done.ready on walk
                m.at_group.setting;
          });
    }
      where
        on : Follows now (back_at now x)
        on = record { place = refl; depth = f.depth; whole = f.whole; later = f.later; back = f.back }

        more : (real : Bool) (a : Around) (p : Place) (within : Scope) (links after : Links)
            → AreLive (deeper a).depth old.store links
            → Walk (deeper a) (tops p 0 (length vs)) [] old.store links done.opened after
            → WalkedMembers real (deeper a) (take k ds) within p done.opened after now.store after
            → Step real (deeper a) (below (child p k)) (d.list within (child p k) (at (child p k))) now.store after
            x.store after
            → Has after n.1 (at (child p k)) → WalkedMembers real (deeper a) (take (k + 1) ds) within p done.opened
            after x.store after
        more real a p within links after live opening members second has =
            let count : k ≡ length (take k ds) = sym (take_count ds k d at_d) in
            let third : Step real (deeper a) none (Small d.place (at (child p k)) ∷ []) x.store after x.store after =
            record {
              walk = walks_small (deeper a) d.place (at (child p k)) x.store after;
              passes = λ r.
                  passes_small tells (deeper a) x.store after none n.1 d.place (at (child p k)) small.scheme small.place
                  small.number f.whole has small.told small.small;
            } in
            subst (λ l. WalkedMembers real (deeper a) l within p done.opened after x.store after) (take_one ds k d at_d)
            (walks_one_member real (deeper a) (take k ds) d within p done.opened now.store x.store x.store after after
            after after (opening.live live) members
            (subst (λ m. Step real (deeper a) (below (child p m)) (d.list within (child p m) (at (child p m))) now.store
            after x.store after) count second)
            (subst (λ m. Step real (deeper a) none (Small d.place (at (child p m)) ∷ []) x.store after x.store after)
            count third))

    -- where a member stops, the group stops
    module _ (d : Definition) (n : Named) (at_d : slice_get ds k ≡ Some d) (at_n : slice_get names k ≡ Some n)
        (s' : Store) (bad : Bad) where
      -- the items of the members before it, its own, and those of the members after it
      group_split : (scope : Scope) (p : Place)
          → group_items ds scope p
          ≡ flat_map (member_items (scope_inside ds scope p) p) (enumerate_from 0 (take k ds))
          ++ (member_items (scope_inside ds scope p) p (k, d)
          ++ flat_map (member_items (scope_inside ds scope p) p) (enumerate_from (k + 1) (drop (suc k) ds)))
      group_split scope p = split_at (member_items (scope_inside ds scope p) p) ds 0 k d at_d k (omega arith)

      stops : ((a : Around) (links : Links) (scope : Scope) (more : List Item) → (set : Setting a links code scope old)
          → (m : MemberAt true a links scope (child old.place i) n.1)
          → Fails (deeper a) now.store m.at_group.children.after (below (child (child old.place i) k))
          (member_items (scope_inside ds scope (child old.place i)) (child old.place i) (k, d) ++ more) bad s')
          → (new : State) → new.store ≡ s' → DefinitionsStop code (λ q. group_places (child q i))
          (at_number i (listed_group ds)) old new bad
      stops fails new is = record {
        fails = λ a links scope set. (
            let p = child old.place i in
            let m = member_at n at_n true a links scope p (λ r. refl) set in
            let after = m.at_group.children.after in
            let within = scope_inside ds scope p in
            let first = flat_map (member_items within p) (enumerate_from 0 (take k ds)) in
            let rest = flat_map (member_items within p) (enumerate_from (k + 1) (drop (suc k) ds)) in
            let there : Fails (deeper a) now.store after (below (child p k)) (member_items within p (k, d) ++ rest) bad
            s' = fails a links scope rest set m in
            let count : length (take k ds) ≡ k = take_count ds k d at_d in
            let members : Fails (deeper a) done.opened after (deep p 0 (k + 1))
            (first ++ (member_items within p (k, d) ++ rest)) bad s' =
            subst (λ l. Fails (deeper a) done.opened after (deep p 0 (k + 1)) (first ++ l) bad s')
            (append-nil (member_items within p (k, d) ++ rest))
            (stops_next p 0 k k (k + 1) [] (omega arith) (omega arith)
            (subst (λ c. Walk (deeper a) (deep p 0 c) first done.opened after now.store after) count
            m.at_group.members.walk)
            (subst (λ c. Passes (deeper a) done.opened after (deep p 0 c) first) count (m.at_group.members.passes refl))
            there) in
            let whole : Fails (deeper a) old.store links (below p) (first ++ (member_items within p (k, d) ++ rest)) bad
            s' =
            stopped {xs = In Here (Tops 0 (length vs)) ∷ In Here (Deep 0 (k + 1)) ∷ []} refl
            (past (In Here (Tops 0 (length vs))) refl (plain tt m.at_group.children.walk)
            (ends (In Here (Deep 0 (k + 1))) members)) in
            subst (λ t. Fails a old.store links (group_places p) (group_items ds scope p) bad t) (sym is)
            (subst (λ l. Fails a old.store links (group_places p) l bad s') (sym (group_split scope p))
            (subst (λ l. Fails a old.store links (group_places p) l bad s')
            (append-nil (first ++ (member_items within p (k, d) ++ rest)))
            (fails_earlier a old.store links (below p) (group_places p)
            (first ++ (member_items within p (k, d) ++ rest)) [] bad s' (right_inside (only p) (below p))
            (fails_inside a old.store links (below p) (first ++ (member_items within p (k, d) ++ rest)) bad s'
            whole)))));
      }

      -- in its body
      pub member_stops : (x : State) → Stopped inner n.1 (λ s q w. d.list s q w) (at_child now k) x bad → x.store ≡ s'
          → DefinitionsStop code (λ q. group_places (child q i)) (at_number i (listed_group ds)) old x bad
      member_stops x stop is =
          stops (λ a links scope more set m. (
          let p = child old.place i in
          let after = m.at_group.children.after in
          let within = scope_inside ds scope p in
          let small = Small d.place (at (child p k)) ∷ [] in
          subst (λ l. Fails (deeper a) now.store after (below (child p k)) l bad s')
          (sym (append_assoc (d.list within (child p k) (at (child p k))) small more))
          (fails_earlier (deeper a) now.store after (below (child p k)) (below (child p k))
          (d.list within (child p k) (at (child p k))) (small ++ more) bad s'
          (record { each = λ r h. h })
          (subst (λ t. Fails (deeper a) now.store after (below (child p k)) (d.list within (child p k) (at (child p k)))
          bad t) is
          (subst (λ q. Fails (deeper a) now.store after (below q) (d.list within q (at (child p k))) bad x.store)
          (ap (λ q. child q k) done.follows.place)
          (stop.fails (deeper a) after within (at (child p k)) m.setting m.has))))))
          x is

    -- its type is too large
    pub member_large : (d : Definition) (n : Named) (x : State) → slice_get ds k ≡ Some d → slice_get names k ≡ Some n
        → Follows (at_child now k) x → Walked inner n.1 (λ s q w. d.list s q w) (at_child now k) x → IsLargeIn x.store
        n.1
        → DefinitionsStop code (λ q. group_places (child q i)) (at_number i (listed_group ds)) old x (Large d.place n.1)
    member_large d n x at_d at_n f walked large =
        stops d n at_d at_n x.store (Large d.place n.1)
        (λ a links scope more set m. (
        let p = child old.place i in
        let after = m.at_group.children.after in
        let within = scope_inside ds scope p in
        let list = d.list within (child p k) (at (child p k)) in
        let small = Small d.place (at (child p k)) ∷ [] in
        subst (λ l. Fails (deeper a) now.store after (below (child p k)) l (Large d.place n.1) x.store)
        (sym (append_assoc list small more))
        (fails_after (deeper a) (below (child p k)) none (below (child p k)) list (small ++ more) now.store x.store
        x.store after after (Large d.place n.1)
        (apart_none (below (child p k))) (record { each = λ r h. h }) (none_inside (below (child p k)))
        (walked.walk (deeper a) after within (child p k) (at (child p k)) m.setting m.has)
        (subst (λ q. Passes (deeper a) now.store after (below q) (d.list within q (at (child p k))))
        (ap (λ q. child q k) done.follows.place)
        (walked.passes (deeper a) after within (at (child p k)) m.setting m.has))
        (fails_large choice_fits tells (deeper a) x.store after none n.1 d.place (at (child p k)) large.scheme
        large.place large.number more f.whole m.has large.told large.large))))
        x refl

  -- all members were walked
  pub all_done : (now : State) → MembersDone code ds i (length ds) names old now → GroupDone code ds i names old now
  all_done now done = record {
    before = done.before;
    follows = done.follows;
    outer = done.outer;
    can_close = record {
      whole = done.follows.whole;
      deeper = omega (arith, done.follows.depth);
      around =
          subst (λ d. ConstantsAround d now.store)
          (let e : old.depth ≡ now.depth - 1 = omega (arith, done.follows.depth) in e) done.outer.around;
      live = done.live;
    };
    each = λ a links scope p set. (
        let m = done.each false a links scope p (λ e. absurd cc) set in
        record {
          after = m.children.after;
          walk = (all_walked false a links scope p m set).walk;
          named = titles_named m.children.after scope.known p 0 names ds done.titled m.children.each;
        });
    passes = λ a links scope set. (
        let p = child old.place i in
        let m = done.each true a links scope p (λ e. refl) set in
        (all_walked true a links scope p m set).passes refl);
  }
    where
      all_walked : (real : Bool) (a : Around) (links : Links) (scope : Scope) (p : Place)
          → (m : MembersAt real a ds (length ds) vs inner scope p old.store links done.opened now) → Setting a links
          code scope old
          → Step real (deeper a) (below p) (group_items ds scope p) old.store links now.store m.children.after
      all_walked real a links scope p m set =
          walks_group real (deeper a) ds scope p old.store done.opened now.store links m.children.after vs
          (links_deeper a.depth old.store links set.live) m.children
          (subst (λ l. WalkedMembers real (deeper a) l (scope_inside ds scope p) p done.opened m.children.after
          now.store m.children.after) (take_all ds) m.members)
