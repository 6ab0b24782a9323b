-- A group is done: its names are general.
use Rattle.std.proofs.Common.{◌≡◌, ℕ, List, [], ◌∷◌, ◌++◌, map, filter, Bool, true, false, cond, Option, Some}
use Rattle.std.proofs.Common.{refl, sym, ap, ◌∙◌, subst, arith}
use Rattle.std.specs.Prelude.{not, if◌then◌else◌}
use Rattle.std.specs.List.{AllByRecursion, Contains}
use Rattle.std.specs.Map.{lookup}
use Rattle.std.specs.Str.{bytes_eq}
use Rattle.elm_canon.specs.Names.{same_ref}
use Rattle.elm_canon.specs.declared.reference.Ref.{Ref}
use Rattle.elm_type.specs.Types.{variable, Fixed}
use Rattle.type_items.specs.Items.{Place, child, Wanted, Item, asks_size, copied}
use Rattle.type_items.specs.Scopes.{Entry, Mono, Instance, General, Entries, Scope, one_types}
use Rattle.type_items.specs.Definitions.{Definition, group_types, group_items, first_type, type_in_group, general}
use Rattle.type_items.specs.Definitions.{with_group, outer_types}
use Rattle.type_store.specs.Store.{Store}
use Rattle.type_store.specs.Laws.{EachChoiceFits}
use Rattle.type_walks.specs.Regions.{Region, only, below, Inside}
use Rattle.type_walks.specs.Links.{Links, Has, Within}
use Rattle.type_walks.specs.Walks.{Around, Walk}
use Rattle.type_walks.proofs.Linking.{right_inside}
use Rattle.type_walks.proofs.Regions.{child_in_span, span_in_below}
use Rattle.type_walks.specs.Frozen.{Frozen}
use Rattle.type_walks.specs.TypeCopiesLaws.{SaysLater}
use Rattle.type_walks.specs.Says.{Says}
use Rattle.type_schemes.specs.Constants.{Outer}
use Rattle.type_schemes.specs.Freezing.{IsFrozen}
use Rattle.type_schemes.proofs.Keeping.{frozen_live, frozen_can}
use Rattle.type_constructs.specs.Passing.{NoSizes}
use Rattle.type_constructs.proofs.Passing.{passes_widely, passes_inside}
use Rattle.type_constructs.proofs.Grouping.{closes_group, says_group}
use Rattle.infer_steps.specs.Codes.{Many, Code, State}
use Rattle.infer_steps.specs.Ready.{IsReady}
use Rattle.infer_steps.specs.Means.{MeansEntry, MeansConstant, Means, Setting}
use Rattle.infer_steps.proofs.Entering.{ready_enters}
use Rattle.infer_steps.proofs.Scoping.{one_ref}
use Rattle.infer_steps.proofs.Staying.{means_later, setting_later}
use Rattle.infer_groups.specs.Defined.{Defined, group_places}
use Rattle.infer_groups.specs.Members.{Named, AreNamed, GroupAt, GroupDone, listed_group, at_number}
use Rattle.infer_groups.specs.General.{Generalised, with_general, AreFrozen}
use Rattle.infer_groups.proofs.Deeper.{shallower, follows_out, setting_named}

-- ---- what can be used

readies_general : (code : Code) (d : ℕ) (s : Store) (names : List Named) (gs : List Generalised)
    → AreFrozen d s names gs → IsReady code d s
    → IsReady (with_general gs code) d s
readies_general code d s [] [] h ready = ready
readies_general code d s [] (g ∷ gs) h ready = absurd h
readies_general code d s (n ∷ ns) [] h ready = absurd h
readies_general code d s (n ∷ ns) (g ∷ gs) h ready =
    ready_enters (with_general gs code) d s g.0 (Many g.1) (readies_general code d s ns gs h.1 ready)
    (record { formed = h.0.1.formed; live = frozen_live d s n.1 g.1 h.0.1; copies = frozen_can d s n.1 g.1 h.0.1 })

same_known : (gs : List Generalised) (code : Code) → (with_general gs code).known ≡ code.known
same_known [] code = refl
same_known (g ∷ gs) code = same_known gs code

same_constants : (gs : List Generalised) (code : Code) → (with_general gs code).constants ≡ code.constants
same_constants [] code = refl
same_constants (g ∷ gs) code = same_constants gs code

-- ---- the first variable of a name has the name's type

first_case : (links : Links) (v w : ℕ) (x : Ref) (t : Wanted) (kept : Entries) (o : Option ℕ) (b : Bool) → Has links w t
    → (o ≡ Some v → Has links v (first_type (one_types kept))) → cond b (Some w) o ≡ Some v
    → Has links v (first_type (one_types (cond b ((x, Mono t) ∷ kept) kept)))
first_case links v w x t kept o true h rest e = let same : w ≡ v = cc in subst (λ u. Has links u t) same h
first_case links v w x t kept o false h rest e = rest e

has_first : (links : Links) (y : Ref) (v : ℕ) (names : List Named) (entries : Entries) → AreNamed links names entries
    → lookup (same_ref y) names ≡ Some v → Has links v (first_type (one_types (filter (λ n. same_ref y n.0) entries)))
has_first links y v [] [] h is = absurd cc
has_first links y v [] (e ∷ es) h is = absurd h
has_first links y v (n ∷ ns) [] h is = absurd h
has_first links y v (n ∷ ns) ((x, Instance scheme) ∷ es) h is = absurd h.0.1
has_first links y v (n ∷ ns) ((x, General list type) ∷ es) h is = absurd h.0.1
has_first links y v (n ∷ ns) ((x, Mono t) ∷ es) h is =
    subst (λ z. Has links v (first_type (one_types
    (cond (same_ref y z) ((x, Mono t) ∷ filter (λ n. same_ref y n.0) es) (filter (λ n. same_ref y n.0) es)))))
    (sym h.0.0) (first_case links v n.1 x t (filter (λ n. same_ref y n.0) es) (lookup (same_ref y) ns) (same_ref y n.0)
    h.0.1 (has_first links y v ns es h.1) is)

-- ---- copies ask for no sizes

size_case : (i : Item) (rest : List Item) (b : Bool) → asks_size i ≡ b → NoSizes rest
    → NoSizes (cond (not b) (i ∷ rest) rest)
size_case i rest true e h = h
size_case i rest false e h = (e, h)

no_sizes : (items : List Item) → NoSizes (copied items)
no_sizes [] = tt
no_sizes (i ∷ is) = size_case i (copied is) (asks_size i) refl (no_sizes is)

-- ---- the types in scope are those around

module _ (ds : List Definition) (scope : Scope) where
  abbrev generals : Entries → Entries
  generals entries = map (λ n. (n.0, general ds scope n.0)) entries

  no_types : (entries names : Entries) → one_types (generals entries ++ names) ≡ one_types names
  no_types [] names = refl
  no_types (e ∷ es) names = no_types es names

  pub same_outer : outer_types scope ≡ outer_types (with_group ds scope)
  same_outer = ap (λ ts. ts ++ map (λ r. variable (Fixed r.1)) scope.constants)
      (sym (no_types (group_types ds scope.known []) scope.names))

  -- a name of the group, or one around
  module _ (a : Around) (links : Links) (s : Store) (d : ℕ) (code : Code) (y : Ref) (all : List Named)
      (base : MeansEntry a links s (code.names y) (lookup (same_ref y) scope.names))
      (says : (v : ℕ) (f : Frozen) → lookup (same_ref y) all ≡ Some v → IsFrozen d s v f
      → Says a s links f (λ q. copied (group_items ds scope q)) (λ q. type_in_group ds scope.known y q)) where
    entry_case : (b : Bool) (n : Named) (g : Generalised) (ns : List Named) (rest : Code) (o : Option Entry)
        → same_ref y n.0 ≡ b → IsFrozen d s n.1 g.1
        → lookup (same_ref y) all ≡ cond (same_ref y n.0) (Some n.1) (lookup (same_ref y) ns)
        → (lookup (same_ref y) all ≡ lookup (same_ref y) ns → MeansEntry a links s (rest.names y) o)
        → MeansEntry a links s (if b then Some (Many g.1) else rest.names y) (cond b (Some (general ds scope n.0)) o)
    entry_case true n g ns rest o is frozen e later =
        let found : lookup (same_ref y) all ≡ Some n.1 = e ∙ ap (λ b. cond b (Some n.1) (lookup (same_ref y) ns)) is in
        subst (λ z. MeansEntry a links s (Some (Many g.1)) (Some (general ds scope z))) (one_ref y n.0 is)
        (says n.1 g.1 found frozen, λ q. no_sizes (group_items ds scope q))
    entry_case false n g ns rest o is frozen e later =
        later (e ∙ ap (λ b. cond b (Some n.1) (lookup (same_ref y) ns)) is)

    pub entry_general : (names : List Named) (gs : List Generalised) (entries : Entries) (some : Links)
        → AreFrozen d s names gs → AreNamed some names entries
        → lookup (same_ref y) all ≡ lookup (same_ref y) names
        → MeansEntry a links s ((with_general gs code).names y) (lookup (same_ref y) (generals entries ++ scope.names))
    entry_general [] [] [] some h k e = base
    entry_general [] [] (x ∷ xs) some h k e = absurd k
    entry_general [] (g ∷ gs) entries some h k e = absurd h
    entry_general (n ∷ ns) [] entries some h k e = absurd h
    entry_general (n ∷ ns) (g ∷ gs) [] some h k e = absurd k
    entry_general (n ∷ ns) (g ∷ gs) (x ∷ xs) some h k e =
        subst (λ z. MeansEntry a links s (if same_ref y z then Some (Many g.1) else (with_general gs code).names y)
        (cond (same_ref y x.0) (Some (general ds scope x.0)) (lookup (same_ref y) (generals xs ++ scope.names))))
        (sym h.0.0)
        (subst (λ z. MeansEntry a links s (if same_ref y n.0 then Some (Many g.1) else (with_general gs code).names y)
        (cond (same_ref y z) (Some (general ds scope z)) (lookup (same_ref y) (generals xs ++ scope.names))))
        (sym k.0.0)
        (entry_case (same_ref y n.0) n g ns (with_general gs code) (lookup (same_ref y) (generals xs ++ scope.names))
        refl h.0.1 e
        (λ f. entry_general ns gs xs some h.1 k.1 f)))

-- ---- the group is done

child_inside : (p : Place) (i : ℕ) → Inside (only (child p i)) (below p)
child_inside p i =
    record { each = λ r e. (span_in_below p i 1).each r ((child_in_span p i 1 i (omega arith) (omega arith)).each r e) }

off : (R Q : Region) → Inside R Q → (r : Place) → Q r ≡ false → R r ≡ false
off R Q inside r out = at_test (R r) refl
  where
    at_test : (b : Bool) → R r ≡ b → b ≡ false
    at_test true e = absurd (let there = inside.each r e in cc)
    at_test false e = refl

module _ (choice_fits : EachChoiceFits) (says_later : SaysLater) (code : Code) (ds : List Definition) (i : ℕ)
    (names : List Named) (old now : State)
    (done : GroupDone code ds i names old now) (gs : List Generalised) (frozen : AreFrozen old.depth now.store names gs)
  where
    abbrev new : State
    new = shallower old now

    within : (a : Around) (links : Links) (scope : Scope) → Setting a links code scope old
        → Within a.constants now.store
    within a links scope set = record { each = λ r c. set.around.within.each r (done.follows.later.constants r c) }

    closed : (a : Around) (links : Links) (scope : Scope) (q : Place) → Setting a links code scope old
        → Walk a (group_places (child q i)) (group_items ds scope (child q i)) old.store links now.store links
    closed a links scope q set =
        let there = done.each a links scope (child q i) set in
        closes_group choice_fits a (child old.place i) (child q i) ds scope old.store now.store links there.after
        done.follows.whole set.around.within
        (within a links scope set) set.live
        (λ r c. off (only (child old.place i)) (below old.place) (child_inside old.place i) r.place
        (set.around.outside r c))
        there.walk

    -- the depth of the places around is that of the state
    frozen_at : (a : Around) (links : Links) (scope : Scope) → Setting a links code scope old → (f : Frozen) (v : ℕ)
        → IsFrozen old.depth now.store v f
        → IsFrozen a.depth now.store v f
    frozen_at a links scope set f v is = subst (λ d. IsFrozen d now.store v f) (sym set.around.depth) is

    -- what a use of a name of the group lists
    module _ (a : Around) (links : Links) (scope : Scope) (set : Setting a links code scope old) where
      named_at : (p : Place) → GroupAt a ds scope p old.store set.named names now
      named_at p = done.each a set.named scope p (setting_named a links code scope old set)

      name_says : (y : Ref) (v : ℕ) (f : Frozen) → lookup (same_ref y) names ≡ Some v → IsFrozen old.depth now.store v f
          → Says a now.store set.named f (λ q. copied (group_items ds scope q)) (λ q. type_in_group ds scope.known y q)
      name_says y v f found is =
          let at_depth = frozen_at a links scope set f v is in
          says_group choice_fits a ds scope y old.store now.store set.named (λ p. (named_at p).after) f v at_depth.place
          at_depth.number
          done.follows.whole (within a links scope set) set.means.live (λ p. (named_at p).walk)
          (λ p. has_first (named_at p).after y v names (group_types ds scope.known p) (named_at p).named found)
          at_depth.freezes at_depth.root

      base_means : (q : Place) → Means a set.named code scope now.store
      base_means q =
          means_later says_later a (group_places (child q i)) (group_items ds scope (child q i)) old.store now.store
          set.named links links code scope
          (subst (λ d. IsReady code d old.store) (sym set.around.depth) done.before) (closed a links scope q set)
          set.means

      general_means : (q : Place) → Means a set.named (with_general gs code) (with_group ds scope) now.store
      general_means q =
          let base = base_means q in
          record {
            live = base.live;
            known = λ m x. ap (λ k. k m x) (same_known gs code) ∙ base.known m x;
            names = λ y.
                entry_general ds scope a set.named now.store old.depth code y names (base.names y) (name_says y)
                names gs (group_types ds scope.known [])
                (named_at []).after frozen (named_at []).named refl;
            constants = λ x. subst (λ k. MeansConstant set.named (k x) (lookup (bytes_eq x) scope.constants))
                (sym (same_constants gs code)) (base.constants x);
            types = subst (λ ts. AllByRecursion (Outer a.depth now.store set.named) ts) (same_outer ds scope)
                base.types;
            only = subst (λ (ts : List Wanted). AllByRecursion (λ l. Contains ts l.1) set.named) (same_outer ds scope)
                base.only;
          }

    pub closes : Defined code (with_general gs code) (λ q. group_places (child q i))
        (at_number i (listed_group ds)) old new
    closes = record {
      follows = follows_out old i now done.follows;
      ready = readies_general code old.depth now.store names gs frozen done.outer;
      walk = closed;
      setting = λ a links scope q set. (
          let base =
          setting_later says_later a (group_places (child q i)) (group_items ds scope (child q i)) old new links links
          links code scope done.before
          (follows_out old i now done.follows) (closed a links scope q set) set in
          record {
            around = base.around;
            live = base.live;
            named = set.named;
            tells = set.tells;
            means = general_means a links scope set q;
          });
      passes = λ a links scope set.
          passes_widely a old.store links (below (child old.place i)) (group_places (child old.place i))
          (group_items ds scope (child old.place i))
          (right_inside (only (child old.place i)) (below (child old.place i)))
          (passes_inside a old.store links (below (child old.place i)) (group_items ds scope (child old.place i))
          (done.passes a links scope set));
    }
