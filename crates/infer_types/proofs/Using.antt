-- Uses of names: each kind of entry, and the names in scope.
use Rattle.std.proofs.Common.{◌≡◌, ℕ, List, [], ◌∷◌, ◌++◌, Bool, true, false, Option, Some, None, Result, Ok, Err, OnOk}
use Rattle.std.proofs.Common.{refl, sym, ap, ◌∙◌, subst}
use Rattle.std.specs.Prelude.{option_map}
use Rattle.std.specs.Borrow.{Bor}
use Rattle.std.specs.Option.{option_or}
use Rattle.std.specs.List.{AllZip}
use Rattle.std.specs.Map.{lookup}
use Rattle.elm_base.specs.declared.position.Pos.{Pos}
use Rattle.elm_canon.specs.Names.{same_ref}
use Rattle.elm_canon.specs.declared.reference.Ref.{Ref}
use Rattle.elm_canon.specs.declared.reference.Ref.TheVariants.{Local, Top}
use Rattle.elm_type.specs.Types.{Name, variable, Rigid, Fixed, Scheme}
use Rattle.elm_type.specs.View.{scheme_view}
use Rattle.elm_type.specs.declared.scheme.Scheme.{Scheme as Stored}
use Rattle.type_items.specs.Items.{Place, child, Wanted, Item, Same}
use Rattle.type_items.specs.Scopes as scopes
use Rattle.type_items.specs.Scopes.{Entry, Mono, Instance, General, Known, Scope, entry_of, use_items, instance}
use Rattle.type_items.specs.Scopes.{instance_items}
use Rattle.type_store.specs.Store.{Store}
use Rattle.type_store.specs.Shape.{IsStore}
use Rattle.type_walks.specs.Regions.{none, below}
use Rattle.type_walks.specs.Links.{Links, AreLive, Has, Tells}
use Rattle.type_walks.specs.Walks.{Around, Walk}
use Rattle.type_walks.proofs.Regions.{none_inside}
use Rattle.type_walks.proofs.Linking.{agree_itself}
use Rattle.type_walks.proofs.Walking.{widens}
use Rattle.type_walks.specs.Frozen.{Frozen}
use Rattle.type_walks.specs.Says.{Says, Instantiates}
use Rattle.type_walks.proofs.Saying.{says_with_more, copies}
use Rattle.type_constructs.specs.Passing.{Passes, NoSizes}
use Rattle.type_constructs.specs.Failing.{Bad, Fails}
use Rattle.type_constructs.proofs.Passing.{passes_plain}
use Rattle.type_constructs.proofs.Failing.{fails_earlier}
use Rattle.type_constructs.specs.Stepping.{Step}
use Rattle.type_constructs.proofs.Walking.{walks_copy}
use Rattle.type_constructs.proofs.Running.{plain}
use Rattle.type_constructs.proofs.Stops.{past, ends, stopped}
use Rattle.type_constructs.proofs.Spots.{Here, Child, Below, Nowhere, In, atom_inside}
use Rattle.type_constructs.proofs.Sizes.{instance_sizes}
use Rattle.type_constructs.proofs.Chains.{tells_same, tells_more, has_new, has_still}
use Rattle.infer_steps.specs.Codes.{Declared, Meaning, One, Many, Each, Code, State}
use Rattle.infer_steps.specs.Ready.{Follows}
use Rattle.infer_steps.specs.View.{meaning_view}
use Rattle.infer_steps.specs.declared.scope.Meaning.{Meaning as Kept}
use Rattle.infer_steps.specs.Means.{IsDeclared, MeansEntry, Setting}
use Rattle.infer_steps.specs.Promises.{Walked, Stopped}
use Rattle.infer_steps.specs.Asked.{AsksSame, RefusesSame, IsNonsense}
use Rattle.infer_steps.proofs.Stepping.{follows_on}
use Rattle.infer_types.specs.Instances.{IsInstance, NoInstance, elsewhere}
use Rattle.infer_types.specs.Uses.{EntryOf, used, Elsewhere, Uses, NoUse}
use Rattle.infer_types.proofs.Instancing.{scheme_declared}

pub ok_on : {A E P Q : Type 0} (r : Result A E) → OnOk r P → (P → Q) → OnOk r Q
ok_on (Ok x) p f = f p
ok_on (Err e) p f = tt

-- the same error
pub err_same : {X E : Type 0} (e f : E) → ◌≡◌ {A = Result X E} (Err e) (Err f) → e ≡ f
err_same {X} {E} e f h = ap error_of h
  where
    error_of : Result X E → E
    error_of (Ok x) = e
    error_of (Err d) = d

-- ---- one type

module _ (old new : State) (pos : Pos) (v wanted : ℕ) where
  module _ (a : Around) (links : Links) (q : Place) (w : Wanted) (depth : a.depth ≡ old.depth)
      (live : AreLive a.depth old.store links) (has : Has links wanted w) where
    one_walk : AsksSame old new pos v wanted → (e : Option Entry) → MeansEntry a links old.store (Some (One v)) e
        → Walk a (below q) (use_items e pos q w) old.store links new.store links
    one_walk same None h = absurd h
    one_walk same (Some (Mono t)) h =
        widens a none (below q) (Same pos t w ∷ []) old.store new.store links links (none_inside (below q))
        (same.walk a links t w depth live h has)
    one_walk same (Some (Instance s)) h = absurd h
    one_walk same (Some (General list type)) h = absurd h

    one_passes : (e : Option Entry) → MeansEntry a links old.store (Some (One v)) e → Passes a old.store links (below q)
        (use_items e pos q w)
    one_passes None h = absurd h
    one_passes (Some (Mono t)) h = passes_plain a old.store links (below q) (Same pos t w ∷ []) (refl, tt)
    one_passes (Some (Instance s)) h = absurd h
    one_passes (Some (General list type)) h = absurd h

    one_fails : (bad : Bad) → RefusesSame old new pos v wanted bad → (e : Option Entry)
        → MeansEntry a links old.store (Some (One v)) e
        → Fails a old.store links (below q) (use_items e pos q w) bad new.store
    one_fails bad refuses None h = absurd h
    one_fails bad refuses (Some (Mono t)) h = refuses.fails a links (below q) t w [] h has
    one_fails bad refuses (Some (Instance s)) h = absurd h
    one_fails bad refuses (Some (General list type)) h = absurd h

  pub one_used : AsksSame old new pos v wanted
      → Uses (EntryOf (One v)) pos wanted old new
  one_used same = record {
    follows = same.follows;
    walk = λ a links e q w depth live is has. one_walk a links q w depth live has same e is;
    passes = λ a links e q w depth live is has. one_passes a links q w depth live has e is;
  }

  pub one_not_used : (bad : Bad) → RefusesSame old new pos v wanted bad
      → NoUse (EntryOf (One v)) pos wanted old new bad
  one_not_used bad refuses =
      record { fails = λ a links e q w depth live is has. one_fails a links q w depth live has bad refuses e is }

-- ---- a copy, of which something is asked, and then its type is the one that is wanted

module _ (a : Around) (links : Links) (q : Place) (w t : Wanted) (list : List Item) (old u new : State) (pos : Pos)
    (v wanted : ℕ) (depth : a.depth ≡ old.depth)
    (live : AreLive a.depth old.store links) (has : Has links wanted w) (sizes : NoSizes list) (follows : Follows old u)
    (walk : Walk a (below (child q 0)) list old.store links u.store ((v, t) ∷ links)) where
  copy_step : AsksSame u new pos v wanted → (real : Bool) → Step real a (below q)
      (list ++ Same pos t w ∷ []) old.store links new.store links
  copy_step same real =
      walks_copy real a list t pos q w old.store u.store new.store links v live sizes walk
      (same.walk a ((v, t) ∷ links) t w (depth ∙ sym follows.depth) (walk.live live) (has_new v t links)
      (has_still (tells_more v t (tells_same links)) has))

  copy_fails : (bad : Bad) → RefusesSame u new pos v wanted bad → Fails a old.store links (below q)
      (list ++ Same pos t w ∷ []) bad new.store
  copy_fails bad refuses =
      stopped refl (past (In (Child Here 0) Below) refl (plain sizes walk)
      (ends Nowhere (refuses.fails a ((v, t) ∷ links) none t w [] (has_new v t links)
      (has_still (tells_more v t (tells_same links)) has))))

-- what is asked fails
asked_fails : (a : Around) (links : Links) (q : Place) (list more : List Item) (s s' : Store) (bad : Bad)
    → Fails a s links (below (child q 0)) list bad s'
    → Fails a s links (below q) (list ++ more) bad s'
asked_fails a links q list more s s' bad f =
    fails_earlier a s links (below (child q 0)) (below q) list more bad s'
    (atom_inside q (In (Child Here 0) Below) refl) f

-- ---- a copy of a general type

pub copied_follows : (old u : State) (frozen : Frozen) (v : ℕ) → u.place ≡ old.place → u.depth ≡ old.depth
    → IsStore u.store
    → Instantiates old.depth old.store frozen v u.store → Follows old u
copied_follows old u frozen v place depth whole made = record {
  place = place;
  depth = depth;
  whole = whole;
  later = made.later;
  back = λ σ f. record { values = σ; fit = (made.back σ f).0; agree = agree_itself old.depth old.store σ };
}

module _ (old u new : State) (pos : Pos) (frozen : Frozen) (v wanted : ℕ) (follows : Follows old u)
    (made : Instantiates old.depth old.store frozen v u.store) where
  module _ (a : Around) (links : Links) (q : Place) (w : Wanted) (depth : a.depth ≡ old.depth)
      (live : AreLive a.depth old.store links) (has : Has links wanted w) where
    copy_walk : (list : Place → List Item) (type : Place → Wanted) → Says a old.store links frozen list type
        → Walk a (below (child q 0)) (list (child q 0)) old.store links u.store ((v, type (child q 0)) ∷ links)
    copy_walk list type says =
        copies a old.store u.store links frozen list type v (child q 0) live says
        (subst (λ d. Instantiates d old.store frozen v u.store) (sym depth) made)

    many_step : AsksSame u new pos v wanted → (real : Bool) (e : Option Entry)
        → MeansEntry a links old.store (Some (Many frozen)) e
        → Step real a (below q) (use_items e pos q w) old.store links new.store links
    many_step same real None h = absurd h
    many_step same real (Some (Mono t)) h = absurd h
    many_step same real (Some (Instance s)) h = absurd h
    many_step same real (Some (General list type)) h =
        copy_step a links q w (type (child q 0)) (list (child q 0)) old u new pos v wanted depth live has
        (h.1 (child q 0)) follows (copy_walk list type h.0) same real

    many_fails : (bad : Bad) → RefusesSame u new pos v wanted bad → (e : Option Entry)
        → MeansEntry a links old.store (Some (Many frozen)) e
        → Fails a old.store links (below q) (use_items e pos q w) bad new.store
    many_fails bad refuses None h = absurd h
    many_fails bad refuses (Some (Mono t)) h = absurd h
    many_fails bad refuses (Some (Instance s)) h = absurd h
    many_fails bad refuses (Some (General list type)) h =
        copy_fails a links q w (type (child q 0)) (list (child q 0)) old u new pos v wanted depth live has
        (h.1 (child q 0)) follows (copy_walk list type h.0) bad refuses

  pub many_used : AsksSame u new pos v wanted
      → Uses (EntryOf (Many frozen)) pos wanted old new
  many_used same = record {
    follows = follows_on old u new follows same.follows;
    walk = λ a links e q w depth live is has. (many_step a links q w depth live has same false e is).walk;
    passes = λ a links e q w depth live is has. (many_step a links q w depth live has same true e is).passes refl;
  }

  pub many_not_used : (bad : Bad) → RefusesSame u new pos v wanted bad
      → NoUse (EntryOf (Many frozen)) pos wanted old new bad
  many_not_used bad refuses =
      record { fails = λ a links e q w depth live is has. many_fails a links q w depth live has bad refuses e is }

-- ---- an instance of a type that is written

module _ (old u new : State) (pos : Pos) (t : Declared) (v wanted : ℕ) (made : IsInstance t pos old u v) where
  module _ (a : Around) (links : Links) (q : Place) (w : Wanted) (depth : a.depth ≡ old.depth)
      (live : AreLive a.depth old.store links) (has : Has links wanted w) (s : Scheme)
      (declared : IsDeclared links t s) where
    pub scheme_step : AsksSame u new pos v wanted → (real : Bool) → Step real a (below q)
        (use_items (Some (Instance s)) pos q w) old.store links new.store links
    scheme_step same real =
        copy_step a links q w (instance s (child q 0)) (instance_items s.kinds pos (child q 0)) old u new pos v wanted
        depth live has (instance_sizes s.kinds pos (child q 0)) made.follows
        (made.walk a links s (child q 0) depth live declared) same real

    pub scheme_fails : (bad : Bad) → RefusesSame u new pos v wanted bad → Fails a old.store links (below q)
        (use_items (Some (Instance s)) pos q w) bad new.store
    scheme_fails bad refuses =
        copy_fails a links q w (instance s (child q 0)) (instance_items s.kinds pos (child q 0)) old u new pos v wanted
        depth live has (instance_sizes s.kinds pos (child q 0)) made.follows
        (made.walk a links s (child q 0) depth live declared) bad refuses

  module _ (a : Around) (links : Links) (q : Place) (w : Wanted) (depth : a.depth ≡ old.depth)
      (live : AreLive a.depth old.store links) (has : Has links wanted w) where
    each_step : AsksSame u new pos v wanted → (real : Bool) (e : Option Entry)
        → MeansEntry a links old.store (Some (Each t)) e
        → Step real a (below q) (use_items e pos q w) old.store links new.store links
    each_step same real None h = absurd h
    each_step same real (Some (Mono x)) h = absurd h
    each_step same real (Some (Instance s)) h = scheme_step a links q w depth live has s h same real
    each_step same real (Some (General list type)) h = absurd h

    each_fails : (bad : Bad) → RefusesSame u new pos v wanted bad → (e : Option Entry)
        → MeansEntry a links old.store (Some (Each t)) e
        → Fails a old.store links (below q) (use_items e pos q w) bad new.store
    each_fails bad refuses None h = absurd h
    each_fails bad refuses (Some (Mono x)) h = absurd h
    each_fails bad refuses (Some (Instance s)) h = scheme_fails a links q w depth live has s h bad refuses
    each_fails bad refuses (Some (General list type)) h = absurd h

  pub each_used : AsksSame u new pos v wanted
      → Uses (EntryOf (Each t)) pos wanted old new
  each_used same = record {
    follows = follows_on old u new made.follows same.follows;
    walk = λ a links e q w depth live is has. (each_step a links q w depth live has same false e is).walk;
    passes = λ a links e q w depth live is has. (each_step a links q w depth live has same true e is).passes refl;
  }

  pub each_not_used : (bad : Bad) → RefusesSame u new pos v wanted bad
      → NoUse (EntryOf (Each t)) pos wanted old new bad
  each_not_used bad refuses =
      record { fails = λ a links e q w depth live is has. each_fails a links q w depth live has bad refuses e is }

module _ (old new : State) (pos : Pos) (t : Declared) (wanted : ℕ) (bad : Bad) (none : NoInstance t pos old new bad)
  where
    no_scheme : (a : Around) (links : Links) (q : Place) (w : Wanted) → a.depth ≡ old.depth
        → AreLive a.depth old.store links → (s : Scheme) → IsDeclared links t s
        → Fails a old.store links (below q) (use_items (Some (Instance s)) pos q w) bad new.store
    no_scheme a links q w depth live s declared =
        asked_fails a links q (instance_items s.kinds pos (child q 0)) (Same pos (instance s (child q 0)) w ∷ [])
        old.store new.store bad
        (none.fails a links s (child q 0) depth live declared)

    no_each : (a : Around) (links : Links) (q : Place) (w : Wanted) → a.depth ≡ old.depth
        → AreLive a.depth old.store links → (e : Option Entry)
        → MeansEntry a links old.store (Some (Each t)) e → Fails a old.store links (below q) (use_items e pos q w) bad
        new.store
    no_each a links q w depth live None h = absurd h
    no_each a links q w depth live (Some (Mono x)) h = absurd h
    no_each a links q w depth live (Some (Instance s)) h = no_scheme a links q w depth live s h
    no_each a links q w depth live (Some (General list type)) h = absurd h

    pub each_refused : NoUse (EntryOf (Each t)) pos wanted old new bad
    each_refused = record { fails = λ a links e q w depth live is has. no_each a links q w depth live e is }

-- ---- what is declared elsewhere

pub found_scheme : (r : Option (Bor Stored)) (s : Bor Stored) (o : Option Scheme) → r ≡ Some s
    → option_map (λ x. scheme_view x.now) r ≡ o → o ≡ Some (scheme_view s.now)
found_scheme r s o is e = sym e ∙ ap (option_map (λ (x : Bor Stored). scheme_view x.now)) is

found_there : (known : Known) (m x : Name) (s : Scheme) (e : Option Entry) → known m x ≡ Some s
    → e ≡ scopes.elsewhere known (Top m x) → e ≡ Some (Instance s)
found_there known m x s e here is = is ∙ ap (λ o. option_map (λ s. Instance s) o) here

module _ (old u new : State) (pos : Pos) (known : Known) (m x : Name) (s : Scheme) (v wanted : ℕ)
    (here : known m x ≡ Some s) where
  pub known_used : IsInstance (elsewhere s) pos old u v → AsksSame u new pos v wanted
      → Uses (Elsewhere known (Top m x)) pos wanted old new
  known_used made same = record {
    follows = follows_on old u new made.follows same.follows;
    walk = λ a links e q w depth live is has.
        subst (λ o. Walk a (below q) (use_items o pos q w) old.store links new.store links)
        (sym (found_there known m x s e here is))
        (scheme_step old u new pos (elsewhere s) v wanted made a links q w depth live has s (scheme_declared links s)
        same false).walk;
    passes = λ a links e q w depth live is has.
        subst (λ o. Passes a old.store links (below q) (use_items o pos q w)) (sym (found_there known m x s e here is))
        ((scheme_step old u new pos (elsewhere s) v wanted made a links q w depth live has s (scheme_declared links s)
        same true).passes refl);
  }

  pub known_not_used : (bad : Bad) → IsInstance (elsewhere s) pos old u v → RefusesSame u new pos v wanted bad
      → NoUse (Elsewhere known (Top m x)) pos wanted old new bad
  known_not_used bad made refuses = record {
    fails = λ a links e q w depth live is has.
        subst (λ o. Fails a old.store links (below q) (use_items o pos q w) bad new.store)
        (sym (found_there known m x s e here is))
        (scheme_fails old u new pos (elsewhere s) v wanted made a links q w depth live has s (scheme_declared links s)
        bad refuses);
  }

  pub known_refused : (bad : Bad) → NoInstance (elsewhere s) pos old new bad
      → NoUse (Elsewhere known (Top m x)) pos wanted old new bad
  known_refused bad none = record {
    fails = λ a links e q w depth live is has.
        subst (λ o. Fails a old.store links (below q) (use_items o pos q w) bad new.store)
        (sym (found_there known m x s e here is))
        (no_scheme old new pos (elsewhere s) wanted bad none a links q w depth live s (scheme_declared links s));
  }

pub nowhere : (old new : State) (pos : Pos) (known : Known) (x : Ref) (wanted : ℕ) (bad : Bad)
    → scopes.elsewhere known x ≡ None → IsNonsense old new pos bad
    → NoUse (Elsewhere known x) pos wanted old new bad
nowhere old new pos known x wanted bad none nonsense = record {
  fails = λ a links e q w depth live is has.
      subst (λ o. Fails a old.store links (below q) (use_items o pos q w) bad new.store) (sym (is ∙ none))
      (nonsense.fails a links (below q) [] depth live);
}

-- ---- names in scope

pub found_meaning : (r : Option (Bor Kept)) (m : Bor Kept) (o : Option Meaning) → r ≡ Some m
    → option_map (λ x. meaning_view x.now) r ≡ o → o ≡ Some (meaning_view m.now)
found_meaning r m o is e = sym e ∙ ap (option_map (λ (x : Bor Kept). meaning_view x.now)) is

pub found_none : (r : Option (Bor Kept)) (o : Option Meaning) → r ≡ None → option_map (λ x. meaning_view x.now) r ≡ o
    → o ≡ None
found_none r o is e = sym e ∙ ap (option_map (λ (x : Bor Kept). meaning_view x.now)) is

module _ (a : Around) (s : Store) (links more : Links) (tells : Tells more links) where
  constants_more : (vs : List ℕ) (rs : List Rigid) → AllZip (λ v r. Has links v (variable (Fixed r))) vs rs
      → AllZip (λ v r. Has more v (variable (Fixed r))) vs rs
  constants_more [] [] h = tt
  constants_more [] (r ∷ rs) h = h
  constants_more (v ∷ vs) [] h = h
  constants_more (v ∷ vs) (r ∷ rs) h = (has_still tells h.0, constants_more vs rs h.1)

  -- with more links, whatever else is known
  entry_more : (m : Meaning) (o other : Option Entry) → MeansEntry a links s (Some m) o → MeansEntry a more s (Some m)
      (option_or o other)
  entry_more (One v) None other h = absurd h
  entry_more (One v) (Some (Mono t)) other h = has_still tells h
  entry_more (One v) (Some (Instance scheme)) other h = absurd h
  entry_more (One v) (Some (General list type)) other h = absurd h
  entry_more (Many frozen) None other h = absurd h
  entry_more (Many frozen) (Some (Mono t)) other h = absurd h
  entry_more (Many frozen) (Some (Instance scheme)) other h = absurd h
  entry_more (Many frozen) (Some (General list type)) other h =
      (says_with_more a s links more frozen list type tells h.0, h.1)
  entry_more (Each t) None other h = absurd h
  entry_more (Each t) (Some (Mono x)) other h = absurd h
  entry_more (Each t) (Some (Instance scheme)) other h =
      record { constants = h.constants; has = constants_more t.outer h.constants h.has; kinds = h.kinds; type = h.type }
  entry_more (Each t) (Some (General list type)) other h = absurd h

module _ (code : Code) (x : Ref) (pos : Pos) (wanted : ℕ) (old new : State) where
  module _ (m : Meaning) (found : code.names x ≡ Some m) where
    in_scope : (a : Around) (links : Links) (scope : Scope) → Setting a links code scope old
        → MeansEntry a links old.store (Some m) (entry_of scope x)
    in_scope a links scope set =
        entry_more a old.store set.named links set.tells m (lookup (same_ref x) scope.names)
        (scopes.elsewhere scope.known x)
        (subst (λ o. MeansEntry a set.named old.store o (lookup (same_ref x) scope.names)) found (set.means.names x))

    pub name_walked : Uses (EntryOf m) pos wanted old new
        → Walked code wanted (used x pos) old new
    name_walked uses = record {
      walk = λ a links scope q w set has. uses.walk a links (entry_of scope x) q w set.around.depth set.live
          (in_scope a links scope set) has;
      passes = λ a links scope w set has. uses.passes a links (entry_of scope x) old.place w set.around.depth set.live
          (in_scope a links scope set) has;
    }

    pub name_stopped : (bad : Bad) → NoUse (EntryOf m) pos wanted old new bad
        → Stopped code wanted (used x pos) old new bad
    name_stopped bad none = record {
      fails = λ a links scope w set has. none.fails a links (entry_of scope x) old.place w set.around.depth set.live
          (in_scope a links scope set) has;
    }

  module _ (known : Known) (same : known ≡ code.known) (found : code.names x ≡ None) where
    none_there : (o : Option Entry) (a : Around) (links : Links) (s : Store) (other : Option Entry)
        → MeansEntry a links s None o → option_or o other ≡ other
    none_there None a links s other h = refl
    none_there (Some e) a links s other h = absurd h

    known_there : (scope : Scope) → ((m y : Name) → code.known m y ≡ scope.known m y) → (y : Ref)
        → scopes.elsewhere scope.known y ≡ scopes.elsewhere known y
    known_there scope e (Local y) = refl
    known_there scope e (Top m y) = ap (λ o. option_map (λ s. Instance s) o) (sym (e m y) ∙ ap (λ k. k m y) (sym same))

    out_of_scope : (a : Around) (links : Links) (scope : Scope) → Setting a links code scope old
        → entry_of scope x ≡ scopes.elsewhere known x
    out_of_scope a links scope set =
        none_there (lookup (same_ref x) scope.names) a set.named old.store (scopes.elsewhere scope.known x)
        (subst (λ o. MeansEntry a set.named old.store o (lookup (same_ref x) scope.names)) found (set.means.names x))
        ∙ known_there scope set.means.known x

    pub elsewhere_walked : Uses (Elsewhere known x) pos wanted old new → Walked code wanted (used x pos) old new
    elsewhere_walked uses = record {
      walk = λ a links scope q w set has. uses.walk a links (entry_of scope x) q w set.around.depth set.live
          (out_of_scope a links scope set) has;
      passes = λ a links scope w set has. uses.passes a links (entry_of scope x) old.place w set.around.depth set.live
          (out_of_scope a links scope set) has;
    }

    pub elsewhere_stopped : (bad : Bad) → NoUse (Elsewhere known x) pos wanted old new bad
        → Stopped code wanted (used x pos) old new bad
    elsewhere_stopped bad none = record {
      fails = λ a links scope w set has. none.fails a links (entry_of scope x) old.place w set.around.depth set.live
          (out_of_scope a links scope set) has;
    }
