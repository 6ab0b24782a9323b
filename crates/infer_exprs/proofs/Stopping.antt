-- A type group that is a pattern with its value stops where its pattern, its value or its size does.
use Rattle.std.proofs.Common.{◌≡◌, ℕ, List, [], ◌∷◌, ◌++◌, true, refl, sym, ap, ◌∙◌, subst}
use Rattle.std.specs.List.{AllByRecursion}
use Rattle.std.proofs.Math.Path.{fun_ext}
use Rattle.std.proofs.lemmas.List.{append-nil, append_assoc}
use Rattle.elm_base.specs.declared.position.Pos.{Pos}
use Rattle.elm_canon.specs.Tree.{Pattern, Expr, Destructure}
use Rattle.type_items.specs.Items.{Place, child, Wanted, at, Item, Small}
use Rattle.type_items.specs.Scopes.{Mono, Instance, General, Entries, Scope, Known, with_names}
use Rattle.type_items.specs.Patterns.{pattern_items, pattern_names, pattern_start}
use Rattle.type_items.specs.Expressions.{items, nowhere, group_definitions}
use Rattle.type_store.proofs.Solution.{choice_fits}
use Rattle.type_walks.specs.Regions.{none, only, below}
use Rattle.type_walks.specs.Links.{Links, Live, Has}
use Rattle.type_walks.specs.Laws.{Outside}
use Rattle.type_walks.specs.Walks.{Around, Walk}
use Rattle.type_walks.proofs.Linking.{right_inside}
use Rattle.type_walks.specs.TypeCopiesLaws.{deeper}
use Rattle.type_walks.proofs.Saying.{says_later, says_with_more}
use Rattle.type_walks.specs.ToldTypesLaws.{TellsPrincipal}
use Rattle.type_constructs.specs.Failing.{Large, Bad, Fails}
use Rattle.type_constructs.proofs.Failing.{fails_earlier, fails_inside, fails_large}
use Rattle.type_constructs.specs.Binding.{BoundHave}
use Rattle.type_constructs.specs.Patterns.{Matched}
use Rattle.type_constructs.specs.Stepping.{Step}
use Rattle.type_constructs.proofs.Sizes.{pattern_sizes}
use Rattle.type_constructs.proofs.Spots.{Here, Child, Itself, Below, Nowhere, In}
use Rattle.type_constructs.proofs.Running.{plain}
use Rattle.type_constructs.proofs.Stops.{past, stuck, ends, stopped}
use Rattle.infer_steps.specs.Codes.{Code, State, Bound, with_bound}
use Rattle.infer_steps.specs.Ready.{IsReady, Follows}
use Rattle.infer_steps.specs.Means.{Means, Setting, Binds}
use Rattle.infer_steps.proofs.Staying.{ready_later, setting_later, setting_links, around_child}
use Rattle.infer_steps.proofs.Entering.{setting_binds}
use Rattle.infer_patterns.specs.Matches.{RefusesPattern}
use Rattle.infer_steps.specs.Made.{IsOpened}
use Rattle.infer_groups.specs.Defined.{IsLargeIn, group_places, at_child, inside, moved}
use Rattle.infer_groups.specs.Members.{scope_inside}
use Rattle.infer_groups.specs.Laws.{IsMatched}
use Rattle.infer_groups.proofs.Deeper.{setting_deeper, ready_deeper}
use Rattle.infer_parts.specs.Steps.{one, Went, Stuck}
use Rattle.infer_parts.specs.Parts.{listed}
use Rattle.infer_exprs.specs.Begun.{PatternStops}

binds_of : (links : Links) (bound : List Bound) (names : Entries) → BoundHave links bound names
    → Binds links bound names
binds_of links [] [] h = tt
binds_of links [] (n ∷ ns) h = absurd h
binds_of links (b ∷ bs) [] h = absurd h
binds_of links (b ∷ bs) ((x, Mono t) ∷ ns) h = (h.0, binds_of links bs ns h.1)
binds_of links (b ∷ bs) ((x, Instance s) ∷ ns) h = absurd h.0.1
binds_of links (b ∷ bs) ((x, General list type) ∷ ns) h = absurd h.0.1

-- the same steps at other places
pub follows_at : (old new : State) (p : Place) → Follows old new → Follows (moved old p) (moved new p)
follows_at old new p f = record { place = refl; depth = f.depth; whole = f.whole; later = f.later; back = f.back }

-- the pattern's place, below that of the group's only member, and the variable of its type
abbrev own : Place → Place
own q = child q 0

abbrev type : Place → Wanted
type q = at (child q 0)

abbrev start : Pattern → Pos
start p = pattern_start nowhere p

module _ (code : Code) (p : Pattern) (e : Expr) (i v : ℕ) (old mid : State)
    (ready : IsReady code old.depth old.store)
    (opened : IsOpened (inside old i) (moved mid (child old.place i)) v) where
  abbrev there : Place
  there = child old.place i

  abbrev within : Scope → Place → Scope
  within scope q = scope_inside (group_definitions (Destructure p e)) scope q

  abbrev matching : Scope → Place → List Item
  matching scope q = pattern_items p scope.known (start p) (child (own q) 0) (type q)

  abbrev value : Scope → Place → List Item
  value scope q = items e (within scope q) (start p) (child (own q) 1) (type q)

  abbrev sized : Place → List Item
  sized q = Small (start p) (type q) ∷ []

  opening : (a : Around) (links : Links) (scope : Scope) (q : Place) → Setting a links code scope old
      → Walk (deeper a) (only (own q)) [] old.store links mid.store ((v, type q) ∷ links)
  opening a links scope q set =
      let set' = setting_deeper a links code scope old i set in
      opened.walk (deeper a) links (own q) set'.around.depth set'.live

  -- where the items after the new variable stop, the group stops
  stops_after : (new : State) (bad : Bad) → ((a : Around) (links : Links) (scope : Scope)
      → Setting a links code scope old
      → Fails (deeper a) mid.store ((v, type there) ∷ links) (below (own there))
      ((matching scope there ++ value scope there) ++ sized there) bad new.store)
      → PatternStops code p e i old new bad
  stops_after new bad fails = record {
    fails = λ a links scope set. (
        let all = ((matching scope there ++ value scope there) ++ sized there) ++ [] in
        let whole : Fails (deeper a) old.store links (below there) all bad new.store =
        stopped {xs = In (Child Here 0) Itself ∷ In (Child Here 0) Below ∷ []} refl
        (past (In (Child Here 0) Itself) refl (plain tt (opening a links scope there set))
        (stuck (In (Child Here 0) Below) [] (fails a links scope set))) in
        subst (λ l. Fails a old.store links (group_places there) l bad new.store) (append-nil all)
        (fails_earlier a old.store links (below there) (group_places there) all [] bad new.store
        (right_inside (only there) (below there))
        (fails_inside a old.store links (below there) all bad new.store whole)));
  }

  same_known : (a : Around) (links : Links) (scope : Scope) → Setting a links code scope old → code.known ≡ scope.known
  same_known a links scope set = fun_ext (λ m. fun_ext (λ y. set.means.known m y))

  has_first : (links : Links) (t : Wanted) → Has ((v, t) ∷ links) v t
  has_first links t = record { same = λ σ types l. l.0 }

  -- the pattern is refused
  pub pattern_refused : (new : State) (bad : Bad) → RefusesPattern code.known (start p) v p bad mid new
      → PatternStops code p e i old new bad
  pattern_refused new bad refused =
      stops_after new bad (λ a links scope set. (
      let set' = setting_deeper a links code scope old i set in
      let walk = opening a links scope there set in
      let first = refused.fails (deeper a) ((v, type there) ∷ links) (child (own there) 0) (type there)
      (set'.around.depth ∙ sym opened.follows.depth) (walk.live set'.live) (has_first links (type there)) in
      let named = subst (λ (k : Known). Fails (deeper a) mid.store ((v, type there) ∷ links)
      (below (child (own there) 0)) (pattern_items p k (start p) (child (own there) 0) (type there)) bad new.store)
      (same_known a links scope set) first in
      subst (λ l. Fails (deeper a) mid.store ((v, type there) ∷ links) (below (own there)) l bad new.store)
      (sym (append_assoc (matching scope there) (value scope there) (sized there)))
      (stopped {xs = In (Child Here 0) Below ∷ []} refl
      (stuck (In (Child Here 0) Below) (value scope there ++ sized there) named))))

  -- after the pattern was matched
  module _ (bound : List Bound) (u : State) (place : mid.place ≡ child (child old.place i) 0)
      (f : Follows mid u) (live : AllByRecursion (λ (b : Bound). Live u.depth u.store b.1) bound)
      (matched : IsMatched code p v bound mid u) where
    -- what is known at a place
    record PatternAt (a : Around) (links : Links) (scope : Scope) (q : Place) : Type 0 where
      opens : Walk (deeper a) (only (own q)) [] old.store links mid.store ((v, type q) ∷ links)
      match : Matched (deeper a) p scope.known (start p) (child (own q) 0) (type q) mid.store ((v, type q) ∷ links)
          u.store bound
      setting : Setting (deeper a) match.after (with_bound bound code) (within scope q) (at_child u 1)
      has : Has match.after v (type q)

    pattern_at : (a : Around) (links : Links) (scope : Scope) (q : Place) → Setting a links code scope old
        → PatternAt a links scope q
    pattern_at a links scope q set = record {
      opens = opens;
      match = match;
      setting = record {
        around = record {
          depth = base.around.depth;
          within = base.around.within;
          outside = subst (λ r. Outside (deeper a) (below (child r 1))) (sym (f.place ∙ place))
              (around_child (deeper a) (at_child (inside old i) 0) 1
              (around_child (deeper a) (inside old i) 0 set'.around)).outside;
        };
        live = base.live;
        named = base.named;
        tells = base.tells;
        means =
            subst (λ names. Means (deeper a) base.named (with_bound bound code) (with_names names scope) u.store)
            (sym (append-nil (pattern_names p scope.known (child (own q) 0) (type q) []))) base.means;
      };
      has = record { same = λ σ types l. (match.tells.each σ types l).0 };
    }
      where
        set' : Setting (deeper a) links code scope (inside old i)
        set' = setting_deeper a links code scope old i set

        opens : Walk (deeper a) (only (own q)) [] old.store links mid.store ((v, type q) ∷ links)
        opens = opening a links scope q set

        match : Matched (deeper a) p scope.known (start p) (child (own q) 0) (type q) mid.store
            ((v, type q) ∷ links) u.store bound
        match =
            subst (λ k. Matched (deeper a) p k (start p) (child (own q) 0) (type q) mid.store ((v, type q) ∷ links)
            u.store bound) (same_known a links scope set)
            (matched (deeper a) ((v, type q) ∷ links) (child (own q) 0) (type q)
            (set'.around.depth ∙ sym opened.follows.depth) (opens.live set'.live) (has_first links (type q)))

        base : Setting (deeper a) match.after (with_bound bound code)
            (with_names (pattern_names p scope.known (child (own q) 0) (type q) []) scope) (moved u there)
        base =
            setting_binds says_with_more (deeper a) match.after code scope (moved u there) bound
            (pattern_names p scope.known (child (own q) 0) (type q) []) live
            (binds_of match.after bound (pattern_names p scope.known (child (own q) 0) (type q) []) match.binds)
            (setting_links (deeper a) ((v, type q) ∷ links) match.after code scope (moved u there) match.tells
            (match.walk.live (opens.live set'.live))
            (setting_later says_later (deeper a) (below (child (own q) 0)) (matching scope q) (moved mid there)
            (moved u there) ((v, type q) ∷ links) ((v, type q) ∷ links) match.after code scope
            (ready_later choice_fits code (inside old i) (moved mid there) (ready_deeper code old.depth old.store ready)
            opened.follows) (follows_at mid u there f) match.walk
            (setting_links (deeper a) links ((v, type q) ∷ links) code scope (moved mid there)
            (record { each = λ σ types l. l.1 }) (opens.live set'.live)
            (setting_later says_later (deeper a) (only (own q)) [] (inside old i) (moved mid there) links links
            ((v, type q) ∷ links) code scope (ready_deeper code old.depth old.store ready) opened.follows opens set'))))

    first_step : (a : Around) (links : Links) (scope : Scope) → (m : PatternAt a links scope there)
        → Step true (deeper a) (below (child (own there) 0)) (matching scope there) mid.store
        ((v, type there) ∷ links) u.store m.match.after
    first_step a links scope m =
        plain (pattern_sizes p scope.known (start p) (child (own there) 0) (type there)) m.match.walk

    value_place : child (own there) 1 ≡ child u.place 1
    value_place = ap (λ z. child z 1) (sym (f.place ∙ place))

    -- its value stops
    pub value_stops : (new : State) (bad : Bad)
        → Stuck Wanted (with_bound bound code) (one v) below (listed e (start p)) (at_child u 1) new bad
        → PatternStops code p e i old new bad
    value_stops new bad stop =
        stops_after new bad (λ a links scope set. (
        let m = pattern_at a links scope there set in
        let second : Fails (deeper a) u.store m.match.after (below (child (own there) 1)) (value scope there) bad
        new.store = stop.fails (deeper a) m.match.after (within scope there) (child (own there) 1) (type there)
        value_place m.setting m.has in
        subst (λ l. Fails (deeper a) mid.store ((v, type there) ∷ links) (below (own there)) l bad new.store)
        (sym (append_assoc (matching scope there) (value scope there) (sized there)))
        (stopped {xs = In (Child Here 0) Below ∷ In (Child Here 1) Below ∷ []} refl
        (past (In (Child Here 0) Below) refl (first_step a links scope m)
        (stuck (In (Child Here 1) Below) (sized there) second)))))

    -- its type is too large
    pub value_large : TellsPrincipal → (x new : State)
        → Went Wanted (with_bound bound code) (one v) below (listed e (start p)) (at_child u 1) x
        → IsLargeIn x.store v → new.store ≡ x.store → PatternStops code p e i old new (Large (start p) v)
    value_large tells x new went large same =
        stops_after new (Large (start p) v) (λ a links scope set. (
        let m = pattern_at a links scope there set in
        let second = went.step true (deeper a) m.match.after (within scope there) (child (own there) 1) (type there)
        (λ r. value_place) m.setting m.has in
        let third : Fails (deeper a) x.store m.match.after none (sized there) (Large (start p) v) x.store =
        fails_large choice_fits tells (deeper a) x.store m.match.after none v (start p) (type there) large.scheme
        large.place large.number [] went.follows.whole m.has large.told large.large in
        subst (λ s. Fails (deeper a) mid.store ((v, type there) ∷ links) (below (own there))
        ((matching scope there ++ value scope there) ++ sized there) (Large (start p) v) s) (sym same)
        (subst (λ l. Fails (deeper a) mid.store ((v, type there) ∷ links) (below (own there)) l (Large (start p) v)
        x.store) (sym (append_assoc (matching scope there) (value scope there) (sized there)))
        (stopped {xs = In (Child Here 0) Below ∷ In (Child Here 1) Below ∷ Nowhere ∷ []} refl
        (past (In (Child Here 0) Below) refl (first_step a links scope m)
        (past (In (Child Here 1) Below) refl second (ends Nowhere third)))))))
