-- A definition with an annotation is done: its constants are let go.
use Rattle.std.proofs.Common.{◌≡◌, ℕ, zero, suc, ◌+◌, List, [], ◌∷◌, ◌++◌, length, map, true, false, Option, Some}
use Rattle.std.proofs.Common.{inl, inr, refl, sym, ap, ◌∙◌, subst, arith}
use Rattle.std.specs.Prelude.{◌⊎◌, All, slice_get}
use Rattle.std.specs.List.{AllByRecursion, Contains}
use Rattle.std.proofs.lemmas.List.Elements.{Contains-append_left, Contains-append_right}
use Rattle.elm_canon.specs.Tree.{Annotation}
use Rattle.elm_type.specs.Types.{Name, Rigid, Scheme}
use Rattle.type_items.specs.Items.{Place, child, Wanted}
use Rattle.type_items.specs.Scopes.{Scope}
use Rattle.type_items.specs.Annotations.{constant}
use Rattle.type_items.specs.Definitions.{Definition, outer_types, annotated_items}
use Rattle.type_store.specs.Store.{Store}
use Rattle.type_store.specs.Solutions.{Values, Fit, constants_of}
use Rattle.type_store.specs.Laws.{EachChoiceFits}
use Rattle.type_walks.specs.Regions.{only, below}
use Rattle.type_walks.specs.Links.{Links, Tells}
use Rattle.type_walks.specs.Walks.{Around, Earlier, Walk}
use Rattle.type_walks.proofs.Regions.{only_itself}
use Rattle.type_walks.specs.TypeCopiesLaws.{SaysLater}
use Rattle.type_schemes.specs.Constants.{Own, rigids, own_links, within, Opened, Loosened, Outer, IsFree}
use Rattle.type_schemes.specs.Calls.{own_slots, EscapesAt, AreFree, CanLetGo, LetsGo}
use Rattle.type_walks.specs.Told.{Told}
use Rattle.type_constructs.specs.Failing.{Keeps, Large, Fails}
use Rattle.type_constructs.proofs.Failing.{fails_linked}
use Rattle.type_constructs.specs.Entering.{Enters, body_places, all_places}
use Rattle.type_constructs.specs.TypeAnnotationsLaws.{Done, StaysInside, DefinitionPasses, DefinitionLarge}
use Rattle.type_constructs.specs.TypeEscapesLaws.{AllDeep, FindsEscape, FailsEscaped}
use Rattle.type_constructs.specs.TypeDefinitionsAnnotated.{owned, body_items}
use Rattle.type_constructs.proofs.Closing.{closes_annotated}
use Rattle.infer_steps.specs.Codes.{Code, State}
use Rattle.infer_steps.specs.Ready.{Follows}
use Rattle.infer_steps.specs.Means.{Setting}
use Rattle.infer_steps.proofs.Staying.{ready_later, setting_later}
use Rattle.infer_groups.specs.Defined.{Defined, DefinitionsStop, IsSmallIn, IsLargeIn, group_places}
use Rattle.infer_groups.specs.Members.{at_number}
use Rattle.infer_groups.proofs.Deeper.{setting_named}
use Rattle.infer_groups.specs.Annotated.{own_names, its_own, listed_annotated, ConstantsOpen, BodyAt, AnnotatedDone}
use Rattle.infer_groups.proofs.Opening.{same_own, only_child}
use Rattle.infer_groups.proofs.Following.{have_own, none_gone, done_later, done_back}

-- ---- constants with variables

pub slots_same : (p : Place) (annotation : Annotation) (xs : List Name) (vs : List ℕ) → length vs ≡ length xs
    → own_slots (owned p annotation xs vs) ≡ vs
slots_same p annotation [] [] h = refl
slots_same p annotation [] (v ∷ vs) h = absurd (omega arith)
slots_same p annotation (x ∷ xs) [] h = absurd (omega arith)
slots_same p annotation (x ∷ xs) (v ∷ vs) h = ap (λ l. v ∷ l) (slots_same p annotation xs vs (omega arith))

rigids_same : (p : Place) (annotation : Annotation) (xs : List Name) (vs : List ℕ) → length vs ≡ length xs
    → rigids (owned p annotation xs vs) ≡ map (constant p annotation) xs
rigids_same p annotation [] vs h = refl
rigids_same p annotation (x ∷ xs) [] h = absurd (omega arith)
rigids_same p annotation (x ∷ xs) (v ∷ vs) h =
    ap (λ l. constant p annotation x ∷ l) (rigids_same p annotation xs vs (omega arith))

owned_here : (p : Place) (annotation : Annotation) (xs : List Name) (vs : List ℕ)
    → AllByRecursion (λ (o : Own). only p o.rigid.place ≡ true) (owned p annotation xs vs)
owned_here p annotation [] vs = tt
owned_here p annotation (x ∷ xs) [] = tt
owned_here p annotation (x ∷ xs) (v ∷ vs) = (only_itself p, owned_here p annotation xs vs)

-- the name of the constant of a number
at_name : (p : Place) (annotation : Annotation) (xs : List Name) (vs : List ℕ) (earlier : List Own) (o : Own)
    (later : List Own) (k : ℕ) (x : Name)
    → owned p annotation xs vs ≡ earlier ++ o ∷ later → length earlier ≡ k → slice_get xs k ≡ Some x → o.rigid.name ≡ x
at_name p annotation [] vs earlier o later k x e l is = absurd cc
at_name p annotation (y ∷ ys) [] [] o later k x e l is = absurd cc
at_name p annotation (y ∷ ys) [] (f ∷ fs) o later k x e l is = absurd cc
at_name p annotation (y ∷ ys) (v ∷ vs) [] o later zero x e l is =
    let same : record { rigid = constant p annotation y; slot = v } ≡ o = cc in
    let name : y ≡ x = cc in
    sym (ap (λ (z : Own). z.rigid.name) same) ∙ name
at_name p annotation (y ∷ ys) (v ∷ vs) [] o later (suc k) x e l is = absurd (omega arith)
at_name p annotation (y ∷ ys) (v ∷ vs) (f ∷ fs) o later zero x e l is = absurd (omega arith)
at_name p annotation (y ∷ ys) (v ∷ vs) (f ∷ fs) o later (suc k) x e l is =
    let tail : owned p annotation ys vs ≡ fs ++ o ∷ later = cc in
    at_name p annotation ys vs fs o later k x tail (omega arith) is

outer_tells : (d : ℕ) (s : Store) (links named : Links) → Tells links named → (ts : List Wanted)
    → AllByRecursion (Outer d s named) ts
    → AllByRecursion (Outer d s links) ts
outer_tells d s links named tells [] h = tt
outer_tells d s links named tells (t ∷ ts) h = (
  record {
    slot = h.0.slot;
    has = record { same = λ σ types l. h.0.has.same σ types (tells.each σ types l) };
    live =
        h.0.live;
  },
  outer_tells d s links named tells ts h.1,
)

-- ---- a definition that was entered

module _ (code : Code) (annotation : Annotation) (i : ℕ) (vs : List ℕ) (old mid : State)
    (open_ : ConstantsOpen code annotation i vs old mid) where
  abbrev spot : Place
  spot = child old.place i

  abbrev owns : List Own
  owns = its_own code annotation spot vs

  pub clear_of : (r : Rigid) → Contains (constants_of old.store) r → only spot r.place ≡ false
  clear_of r h = only_child old.place i r.place (open_.clear.each r h)

  module _ (a : Around) (links : Links) (scope : Scope) (set : Setting a links code scope old) where
    pub new_at : (r : Rigid) → Contains a.constants r → only spot r.place ≡ false
    new_at r h = only_child old.place i r.place (set.around.outside r h)

    pub opens_at : Opened a.depth spot old.store owns mid.store
    opens_at = subst (λ d. Opened d spot old.store owns mid.store) (sym set.around.depth) open_.opens

    pub enters_at : Enters a spot annotation scope owns old.store mid.store
    enters_at = record {
      its =
          rigids_same spot annotation (own_names code annotation) vs open_.count
          ∙ ap (map (constant spot annotation)) (same_own a links code scope old annotation set);
      new = new_at;
      opens = opens_at;
      known = record { each = λ r h. known_one r (open_.opens.known r h) };
    }
      where
        known_one : (r : Rigid) → Contains (constants_of old.store) r ⊎ Contains (rigids owns) r
            → Contains (rigids owns ++ a.constants) r
        known_one r (inl h) = Contains-append_right (rigids owns) a.constants r (set.around.within.each r h)
        known_one r (inr h) = Contains-append_left (rigids owns) a.constants r h

    pub outers_at : AllByRecursion (Outer a.depth old.store links) (outer_types scope)
    outers_at = outer_tells a.depth old.store links set.named set.tells (outer_types scope) set.means.types

-- ---- and walked

module _ (code : Code) (d : Definition) (annotation : Annotation) (i : ℕ) (vs : List ℕ) (v : ℕ) (old mid now : State)
    (done : AnnotatedDone code d annotation i vs v old mid now) where
  abbrev p : Place
  p = child old.place i

  abbrev own : List Own
  own = its_own code annotation p vs

  back : (σ : Values) → Fit σ now.store → Earlier (old.depth + 1) mid.store σ
  back σ f = subst (λ n. Earlier n mid.store σ) done.opening.depth (done.follows.back σ f)

  slots : own_slots own ≡ vs
  slots = slots_same p annotation (own_names code annotation) vs done.opening.count

  module _ (a : Around) (links : Links) (scope : Scope) (set : Setting a links code scope old) where
    abbrev body : BodyAt true a d annotation own v scope p links mid.store now.store
    body = done.each true a links scope p (λ r. refl) set

    done_at : Done a p d annotation scope own old.store mid.store now.store links body.after
    done_at = record {
      whole = done.follows.whole;
      enters = enters_at code annotation i vs old mid done.opening a links scope set;
      outer = outers_at code annotation i vs old mid done.opening a links scope set;
      walk = body.step.walk;
      passes = body.step.passes refl;
    }

    free_at : All (IsFree old.depth now.store) vs → All (IsFree a.depth now.store) (own_slots own)
    free_at free =
        subst (λ n. All (IsFree n now.store) (own_slots own)) (sym set.around.depth)
        (subst (All (IsFree old.depth now.store)) (sym slots) free)

  -- ---- what is wrong

  pub escapes : FindsEscape → FailsEscaped → (k : ℕ) (x : Name) (new : State) → EscapesAt old.depth now.store vs k
      → slice_get (own_names code annotation) k ≡ Some x
      → DefinitionsStop code (λ q. group_places (child q i)) (at_number i (listed_annotated d annotation)) old new
      (Keeps d.place x)
  escapes finds fails k x new escape is = record {
    fails = λ a links scope set. (
        let set' = setting_named a links code scope old set in
        let opens = opens_at code annotation i vs old mid done.opening a set.named scope set' in
        let whole = done_at a set.named scope set' in
        let at : EscapesAt a.depth now.store (own_slots own) k =
        subst (λ n. EscapesAt n now.store (own_slots own) k) (sym set.around.depth)
        (subst (λ l. EscapesAt old.depth now.store l k) (sym slots) escape) in
        let first = finds a p (body_places p) (body_items d annotation scope p) own old.store mid.store now.store
        (own_links p own ++ set.named)
        (body a set.named scope set').after k done.follows.whole opens whole.walk at in
        let name : first.constant.rigid.name ≡ x =
        at_name p annotation (own_names code annotation) vs first.earlier first.constant first.later k x first.split
        first.number is in
        fails_linked a old.store links set.named (all_places p) (annotated_items d annotation scope p) (Keeps d.place x)
        new.store set.tells
        (λ l. set.means.live)
        (subst (λ y. Fails a old.store set.named (all_places p) (annotated_items d annotation scope p) (Keeps d.place y)
        new.store) name
        (fails a p d annotation scope own old.store mid.store now.store new.store set.named
        (body a set.named scope set').after k
        done.opening.before.whole whole set.means.only first)));
  }

  stays : AllDeep → All (IsFree old.depth now.store) vs → (a : Around) (links : Links) (scope : Scope)
      (set : Setting a links code scope old)
      → (scheme : Scheme) (place : ℕ → ℕ) (number : ℕ → Option ℕ) → Told now.store v scheme place number
      → StaysInside a p annotation scope own now.store (body a links scope set).after v scheme
  stays deep free a links scope set scheme place number told = record {
    deep =
        deep a p (body_places p) (body_items d annotation scope p) own old.store mid.store now.store
        (own_links p own ++ links)
        (body a links scope set).after done.follows.whole
        (opens_at code annotation i vs old mid done.opening a links scope set)
        (done_at a links scope set).walk (free_at a links scope set free);
    has = (body a links scope set).has;
    place = place;
    number = number;
    told = told;
  }

  pub is_large : AllDeep → DefinitionLarge → (new : State) → All (IsFree old.depth now.store) vs → IsLargeIn now.store v
      → DefinitionsStop code (λ q. group_places (child q i)) (at_number i (listed_annotated d annotation)) old new
      (Large d.place v)
  is_large deep law new free large = record {
    fails = λ a links scope set.
        law a p d annotation scope own old.store mid.store now.store new.store links (body a links scope set).after v
        large.scheme
        (done_at a links scope set) (stays deep free a links scope set large.scheme large.place large.number large.told)
        large.large;
  }

  -- ---- the constants are let go

  pub are_free : All (IsFree old.depth now.store) vs → AreFree old.depth p own now.store vs
  are_free free = record {
    are = slots;
    have = have_own old.depth p own old.store mid.store now.store (clear_of code annotation i vs old mid done.opening)
        done.opening.opens
        done.follows.later back;
    distinct = done.opening.distinct;
    here = owned_here p annotation (own_names code annotation) vs;
    free = free;
    all = none_gone old.depth p own old.store mid.store now.store (clear_of code annotation i vs old mid done.opening)
        done.opening.opens
        done.follows.later back;
  }

  pub may_let_go : All (IsFree old.depth now.store) vs → CanLetGo now.store vs
  may_let_go free = record { depth = old.depth; place = p; own = own; free = are_free free }

  module _ (choice_fits : EachChoiceFits) (says_later : SaysLater) (deep : AllDeep) (law : DefinitionPasses)
      (s' : Store)
      (free : All (IsFree old.depth now.store) vs) (small : IsSmallIn now.store v) (gone : LetsGo now.store vs s') where
    abbrev new : State
    new = record { store = s'; depth = old.depth; place = old.place }

    loose : Loosened old.depth p now.store s'
    loose = gone.gone old.depth p own (are_free free)

    follows : Follows old new
    follows = record {
      place = refl;
      depth = refl;
      whole = gone.whole;
      later = done_later old.depth p own old.store mid.store now.store
          (clear_of code annotation i vs old mid done.opening) done.opening.opens
          done.follows.later back choice_fits done.follows.whole s' loose;
      back = done_back old.depth p own old.store mid.store now.store
          (clear_of code annotation i vs old mid done.opening) done.opening.opens
          done.follows.later back choice_fits done.follows.whole s' loose;
    }

    walk_at : (a : Around) (links : Links) (scope : Scope) (q : Place) → Setting a links code scope old
        → Walk a (group_places (child q i)) (annotated_items d annotation scope (child q i)) old.store links s' links
    walk_at a links scope q set =
        let there = done.each false a links scope (child q i) (λ r. absurd cc) set in
        let same = same_own a links code scope old annotation set in
        closes_annotated choice_fits a p (child q i) d annotation scope vs old.store mid.store now.store s' links
        there.after
        (done.opening.count ∙ ap length same) done.follows.whole set.around.within set.live
        (new_at code annotation i vs old mid done.opening a links scope set)
        (outers_at code annotation i vs old mid done.opening a links scope set)
        (subst (λ xs. Opened a.depth p old.store (owned p annotation xs vs) mid.store) same
        (opens_at code annotation i vs old mid done.opening a links scope set))
        (subst (λ xs. Walk (within a (owned p annotation xs vs)) (below (child (child q i) 0))
        (body_items d annotation scope (child q i)) mid.store
        (own_links (child q i) (owned p annotation xs vs) ++ links) now.store there.after) same there.step.walk)
        (subst (λ n. Loosened n p now.store s') (sym set.around.depth) loose)

    pub closes : Defined code code (λ q. group_places (child q i)) (at_number i (listed_annotated d annotation)) old new
    closes = record {
      follows = follows;
      ready = ready_later choice_fits code old new done.opening.before follows;
      walk = walk_at;
      setting = λ a links scope q set.
          setting_later says_later a (group_places (child q i)) (annotated_items d annotation scope (child q i)) old new
          links links links code scope
          done.opening.before follows (walk_at a links scope q set) set;
      passes = λ a links scope set.
          law a p d annotation scope own old.store mid.store now.store links (body a links scope set).after v
          small.scheme (done_at a links scope set)
          (stays deep free a links scope set small.scheme small.place small.number small.told) small.small;
    }
