-- A group that is one pattern with its value.
use Rattle.std.proofs.Common.{◌≡◌, ℕ, ◌-◌, List, [], ◌∷◌, ◌++◌, Bool, true, false, refl, sym, ap, ◌∙◌}
use Rattle.std.proofs.Common.{subst, arith}
use Rattle.std.specs.List.{AllByRecursion}
use Rattle.std.proofs.Math.Path.{fun_ext}
use Rattle.std.proofs.lemmas.List.{append-nil}
use Rattle.elm_base.specs.declared.position.Pos.{Pos}
use Rattle.elm_canon.specs.Tree.{Pattern, Expr, Destructure}
use Rattle.type_items.specs.Items.{Place, child, Wanted, at, Small}
use Rattle.type_items.specs.Scopes.{Mono, Instance, General, Entries, Scope, with_names}
use Rattle.type_items.specs.Patterns.{pattern_items, pattern_names, pattern_start}
use Rattle.type_items.specs.Expressions.{items, nowhere, group_definitions}
use Rattle.type_items.specs.Definitions.{group_items}
use Rattle.type_store.specs.Store.{Store}
use Rattle.type_store.specs.Laws.{EachChoiceFits}
use Rattle.type_walks.specs.Regions.{none, only, below}
use Rattle.type_walks.specs.Links.{Links, Live, Has}
use Rattle.type_walks.specs.Laws.{Outside}
use Rattle.type_walks.specs.Walks.{Around, Walk}
use Rattle.type_walks.specs.TypeCopiesLaws.{SaysLater, SaysWithMore, deeper}
use Rattle.type_walks.specs.ToldTypesLaws.{TellsPrincipal}
use Rattle.type_schemes.specs.Freezing.{ConstantsAround}
use Rattle.type_constructs.specs.Passing.{Passes}
use Rattle.type_constructs.proofs.Passing.{passes_small}
use Rattle.type_constructs.specs.Binding.{BoundHave}
use Rattle.type_constructs.specs.Patterns.{Matched}
use Rattle.type_constructs.specs.Stepping.{Step}
use Rattle.type_constructs.proofs.Spots.{Here, Child, Itself, Below, Nowhere, In}
use Rattle.type_constructs.proofs.Running.{plain, last, on, under}
use Rattle.type_constructs.proofs.Grouping.{walks_small, walks_destructure}
use Rattle.infer_steps.specs.Codes.{Code, State, Bound, with_bound}
use Rattle.infer_steps.specs.Ready.{IsReady, Follows}
use Rattle.infer_steps.specs.Means.{Means, Setting, Binds}
use Rattle.infer_steps.specs.Promises.{Walked}
use Rattle.infer_steps.proofs.Staying.{follows_on, ready_later, setting_later, setting_links, around_child}
use Rattle.infer_steps.proofs.Entering.{setting_binds}
use Rattle.infer_steps.specs.Made.{IsOpened}
use Rattle.infer_groups.specs.Defined.{IsSmallIn, at_child, inside, moved}
use Rattle.infer_groups.specs.Members.{Named, AreNamed, scope_inside, GroupDone}
use Rattle.infer_groups.specs.Laws.{bound_named, IsMatched}
use Rattle.infer_groups.proofs.Deeper.{links_deeper, setting_deeper, ready_deeper, shallower, follows_out}

binds_of : (links : Links) (bound : List Bound) (names : Entries) → BoundHave links bound names
    → Binds links bound names
binds_of links [] [] h = tt
binds_of links [] (n ∷ ns) h = absurd h
binds_of links (b ∷ bs) [] h = absurd h
binds_of links (b ∷ bs) ((x, Mono t) ∷ ns) h = (h.0, binds_of links bs ns h.1)
binds_of links (b ∷ bs) ((x, Instance s) ∷ ns) h = absurd h.0.1
binds_of links (b ∷ bs) ((x, General list type) ∷ ns) h = absurd h.0.1

named_of : (links : Links) (bound : List Bound) (names : Entries) → BoundHave links bound names
    → AreNamed links (bound_named bound) names
named_of links [] [] h = tt
named_of links [] (n ∷ ns) h = absurd h
named_of links (b ∷ bs) [] h = absurd h
named_of links (b ∷ bs) (n ∷ ns) h = (h.0, named_of links bs ns h.1)

live_named : (d : ℕ) (s : Store) (bound : List Bound) → AllByRecursion (λ (b : Bound). Live d s b.1) bound
    → AllByRecursion (λ (n : Named). Live d s n.1) (bound_named bound)
live_named d s [] h = tt
live_named d s (b ∷ bs) h = (h.0, live_named d s bs h.1)

live_bound : (old new : State) → Follows old new → (bound : List Bound)
    → AllByRecursion (λ (b : Bound). Live old.depth old.store b.1) bound
    → AllByRecursion (λ (b : Bound). Live new.depth new.store b.1) bound
live_bound old new f [] h = tt
live_bound old new f (b ∷ bs) h = (
  record {
    inside = omega (arith, h.0.inside, f.later.grows);
    depth = omega (arith, f.later.depth b.1 h.0.inside, h.0.depth, f.depth);
  },
  live_bound old new f bs h.1,
)

-- the same steps at other places
follows_at : (old new : State) (p : Place) → Follows old new → Follows (moved old p) (moved new p)
follows_at old new p f = record { place = refl; depth = f.depth; whole = f.whole; later = f.later; back = f.back }

module _ (choice_fits : EachChoiceFits) (says_later : SaysLater) (says_with_more : SaysWithMore)
    (tells : TellsPrincipal)
    (code : Code) (p : Pattern) (e : Expr) (i v : ℕ) (bound : List Bound) (old mid u x : State)
    (ready : IsReady code old.depth old.store) (place : mid.place ≡ child (child old.place i) 0)
    (opened : IsOpened (inside old i) (moved mid (child old.place i)) v)
    (f : Follows mid u) (live : AllByRecursion (λ (b : Bound). Live u.depth u.store b.1) bound)
    (matched : IsMatched code p v bound mid u)
    (g : Follows (at_child u 1) x)
    (walked : Walked (with_bound bound code) v (λ s q w. items e s (pattern_start nowhere p) q w) (at_child u 1) x)
    (small : IsSmallIn x.store v) where
  abbrev here : Pos
  here = pattern_start nowhere p

  abbrev here_place : Place
  here_place = child old.place i

  abbrev end : State
  end = moved x here_place

  first : Follows (moved mid here_place) (moved u here_place)
  first = follows_at mid u here_place f

  second : Follows (moved u here_place) end
  second = record { place = refl; depth = g.depth; whole = g.whole; later = g.later; back = g.back }

  whole : Follows (inside old i) end
  whole = follows_on (inside old i) (moved u here_place) end
      (follows_on (inside old i) (moved mid here_place) (moved u here_place) opened.follows first) second

  outer : IsReady code old.depth x.store
  outer = ready_later choice_fits code old (shallower old end) ready (follows_out old i end whole)

  -- the pattern's place, below that of the group's only member
  abbrev own : Place → Place
  own q = child q 0

  abbrev type : Place → Wanted
  type q = at (child q 0)

  same_known : (a : Around) (links : Links) (scope : Scope) → Setting a links code scope old → code.known ≡ scope.known
  same_known a links scope set = fun_ext (λ m. fun_ext (λ y. set.means.known m y))

  -- what is known at a place, where the pattern was matched
  record PatternAt (a : Around) (links : Links) (scope : Scope) (q : Place) : Type 0 where
    opens : Walk (deeper a) (only (own q)) [] old.store links mid.store ((v, type q) ∷ links)
    match : Matched (deeper a) p scope.known here (child (own q) 0)
        (type q) mid.store ((v, type q) ∷ links) u.store bound
    setting : Setting (deeper a) match.after (with_bound bound code)
        (scope_inside (group_definitions (Destructure p e)) scope q) (at_child u 1)
    has : Has match.after v (type q)

  pattern_at : (a : Around) (links : Links) (scope : Scope) (q : Place) → Setting a links code scope old
      → PatternAt a links scope q
  pattern_at a links scope q set = record {
    opens = opens;
    match = match;
    setting = record {
      around = record {
        depth = base.around.depth;
        within = base.around.within;
        outside = subst (λ r. Outside (deeper a) (below (child r 1))) (sym (f.place ∙ place))
            (around_child (deeper a) (at_child (inside old i) 0) 1
            (around_child (deeper a) (inside old i) 0 set'.around)).outside;
      };
      live = base.live;
      named = base.named;
      tells = base.tells;
      means =
          subst (λ names. Means (deeper a) base.named (with_bound bound code) (with_names names scope) u.store)
          (sym (append-nil (pattern_names p scope.known (child (own q) 0) (type q) []))) base.means;
    };
    has = record { same = λ σ types l. (match.tells.each σ types l).0 };
  }
    where
      set' : Setting (deeper a) links code scope (inside old i)
      set' = setting_deeper a links code scope old i set

      opens : Walk (deeper a) (only (own q)) [] old.store links mid.store ((v, type q) ∷ links)
      opens = opened.walk (deeper a) links (own q) set'.around.depth set'.live

      match : Matched (deeper a) p scope.known here (child (own q) 0)
          (type q) mid.store ((v, type q) ∷ links) u.store bound
      match =
          subst (λ k. Matched (deeper a) p k here (child (own q) 0) (type q) mid.store ((v, type q) ∷ links) u.store
          bound) (same_known a links scope set)
          (matched (deeper a) ((v, type q) ∷ links) (child (own q) 0) (type q)
          (set'.around.depth ∙ sym opened.follows.depth) (opens.live set'.live)
          (record { same = λ σ types l. l.0 }))

      base : Setting (deeper a) match.after (with_bound bound code)
          (with_names (pattern_names p scope.known (child (own q) 0) (type q) []) scope) (moved u here_place)
      base =
          setting_binds says_with_more (deeper a) match.after code scope (moved u here_place) bound
          (pattern_names p scope.known (child (own q) 0) (type q) []) live
          (binds_of match.after bound (pattern_names p scope.known (child (own q) 0) (type q) []) match.binds)
          (setting_links (deeper a) ((v, type q) ∷ links) match.after code scope (moved u here_place) match.tells
          (match.walk.live (opens.live set'.live))
          (setting_later says_later (deeper a) (below (child (own q) 0))
          (pattern_items p scope.known here (child (own q) 0) (type q)) (moved mid here_place) (moved u here_place)
          ((v, type q) ∷ links) ((v, type q) ∷ links) match.after code scope
          (ready_later choice_fits code (inside old i) (moved mid here_place)
          (ready_deeper code old.depth old.store ready) opened.follows) first match.walk
          (setting_links (deeper a) links ((v, type q) ∷ links) code scope (moved mid here_place)
          (record { each = λ σ types l. l.1 }) (opens.live set'.live)
          (setting_later says_later (deeper a) (only (own q)) [] (inside old i) (moved mid here_place) links links
          ((v, type q) ∷ links) code scope
          (ready_deeper code old.depth old.store ready) opened.follows opens set'))))

  step : (real : Bool) (a : Around) (links : Links) (scope : Scope) (q : Place) → (real ≡ true → q ≡ here_place)
      → (set : Setting a links code scope old)
      → (m : PatternAt a links scope q)
      → Step real (deeper a) (below q) (group_items (group_definitions (Destructure p e)) scope q) old.store links
      x.store m.match.after
  step real a links scope q is set m =
      let within = scope_inside (group_definitions (Destructure p e)) scope q in
      let live = links_deeper a.depth old.store links set.live in
      let small_step : Step real (deeper a) none (Small here (type q) ∷ []) x.store m.match.after x.store m.match.after
      = record {
        walk = walks_small (deeper a) here (type q) x.store m.match.after;
        passes = λ r. passes_small tells (deeper a) x.store m.match.after none v here (type q) small.scheme small.place
            small.number g.whole m.has small.told small.small;
      } in
      let value : Step real (deeper a) (below (child (own q) 1)) (items e within here (child (own q) 1) (type q))
      u.store m.match.after x.store m.match.after = record {
        walk = walked.walk (deeper a) m.match.after within (child (own q) 1) (type q) m.setting m.has;
        passes = λ r.
            subst (λ z. Passes (deeper a) u.store m.match.after (below z) (items e within here z (type q)))
            (ap (λ z. child z 1) (f.place ∙ place ∙ ap (λ z. child z 0) (sym (is r))))
            (walked.passes (deeper a) m.match.after within (type q) m.setting m.has);
      } in
      let member = walks_destructure real (deeper a) p e within here (own q) (type q) mid.store u.store x.store
      ((v, type q) ∷ links) bound (m.opens.live live) m.match value in
      subst (λ l. Step real (deeper a) (below q) l old.store links x.store m.match.after)
      (sym (append-nil (pattern_items p scope.known here (child (own q) 0) (type q) ++ items e within here
      (child (own q) 1) (type q) ++ Small here (type q) ∷ [])))
      (under refl live (on (In (Child Here 0) Itself) refl (plain tt m.opens)
      (on (In (Child Here 0) Below) refl member (last Nowhere small_step))))

  pub pattern_done : GroupDone code (group_definitions (Destructure p e)) i (bound_named bound) old end
  pattern_done = record {
    before = ready;
    follows = whole;
    outer = outer;
    can_close = record {
      whole = g.whole;
      deeper = omega (arith, whole.depth);
      around = subst (λ d. ConstantsAround d x.store)
          (let n : old.depth ≡ x.depth - 1 = omega (arith, whole.depth) in n) outer.around;
      live = live_named x.depth x.store bound (live_bound (moved u here_place) end second bound live);
    };
    each = λ a links scope q set. (
        let m = pattern_at a links scope q set in
        record {
          after = m.match.after;
          walk = (step false a links scope q (λ r. absurd cc) set m).walk;
          named =
              subst (AreNamed m.match.after (bound_named bound))
              (sym (append-nil (pattern_names p scope.known (child (own q) 0) (type q) [])))
              (named_of m.match.after bound (pattern_names p scope.known (child (own q) 0) (type q) []) m.match.binds);
        });
    passes = λ a links scope set. (step true a links scope here_place (λ r. refl) set
        (pattern_at a links scope here_place set)).passes refl;
  }
