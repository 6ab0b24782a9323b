-- Steps one after the other, and where they stop.
use Rattle.std.proofs.Common.{◌≡◌, ℕ, zero, suc, ◌<◌, List, [], ◌∷◌, ◌++◌, length, get_or, Bool, true, false, refl}
use Rattle.std.proofs.Common.{sym, ap, ◌∙◌, subst, arith}
use Rattle.std.specs.Prelude.{◌||◌}
use Rattle.std.specs.List.{AllZip}
use Rattle.std.proofs.lemmas.List.{append-nil}
use Rattle.type_items.specs.Items.{Place, Wanted, Item}
use Rattle.type_items.specs.Scopes.{Scope}
use Rattle.type_store.specs.Store.{Store}
use Rattle.type_store.proofs.Solution.{choice_fits}
use Rattle.type_walks.specs.Regions.{Region, below, either, Inside, Apart}
use Rattle.type_walks.specs.Links.{Links, AreLive, Tells}
use Rattle.type_walks.specs.Walks.{Around, Walk}
use Rattle.type_walks.proofs.Regions.{either_inside}
use Rattle.type_walks.proofs.Walking.{goes_on, widens, forgets}
use Rattle.type_walks.proofs.Linking.{all_live_later}
use Rattle.type_walks.proofs.Saying.{says_later}
use Rattle.type_constructs.specs.Passing.{Passes, NoSizes}
use Rattle.type_constructs.specs.Failing.{Bad, Fails}
use Rattle.type_constructs.proofs.Passing.{passes_plain, passes_on, passes_widely}
use Rattle.type_constructs.proofs.Failing.{fails_after, fails_earlier}
use Rattle.type_constructs.specs.Stepping.{Step}
use Rattle.type_constructs.proofs.Chains.{tells_same, tells_on}
use Rattle.infer_steps.specs.Codes.{Code, State}
use Rattle.infer_steps.specs.Means.{Setting}
use Rattle.infer_steps.specs.Ready.{IsReady, Follows}
use Rattle.infer_steps.specs.Promises.{Listing, Walked, Stopped}
use Rattle.infer_steps.proofs.Staying.{follows_on, ready_later, setting_later, setting_links}
use Rattle.infer_parts.specs.Steps.{Lists, Saying, one, Went, Stuck, Opens}

-- ---- steps

pub step_on : (real : Bool) (a : Around) (R Q Y : Region) (first second : List Item) (s u s' : Store)
    (before between after : Links)
    → Apart R Q → Inside R Y → Inside Q Y → AreLive a.depth s before → Step real a R first s before u between
    → Step real a Q second u between s' after → Step real a Y (first ++ second) s before s' after
step_on real a R Q Y first second s u s' before between after apart left right live one two = record {
  walk =
      widens a (either R Q) Y (first ++ second) s s' before after (either_inside R Q Y left right)
      (goes_on a R Q first second s u s' before between after apart live one.walk two.walk);
  passes = λ r. passes_on a R Q Y first second s u before between apart left right one.walk (one.passes r)
      (two.passes r);
}

pub step_in : (real : Bool) (a : Around) (R Y : Region) (items : List Item) (s s' : Store) (before after : Links)
    → Inside R Y
    → Step real a R items s before s' after → Step real a Y items s before s' after
step_in real a R Y items s s' before after inside one = record {
  walk = widens a R Y items s s' before after inside one.walk;
  passes = λ r. passes_widely a s before R Y items inside (one.passes r);
}

pub step_forgets : (real : Bool) (a : Around) (R : Region) (items : List Item) (s s' : Store) (before after : Links)
    → Tells after before
    → AreLive a.depth s before → Step real a R items s before s' after → Step real a R items s before s' before
step_forgets real a R items s s' before after tells live one = record {
  walk = forgets a R items s s' before after before tells (λ l. all_live_later a.depth s s' before one.walk.later live)
      one.walk;
  passes = one.passes;
}

pub plain_step : (real : Bool) (a : Around) (R : Region) (items : List Item) (s s' : Store) (before after : Links)
    → NoSizes items
    → Walk a R items s before s' after → Step real a R items s before s' after
plain_step real a R items s s' before after h w = record { walk = w; passes = λ r. passes_plain a s before R items h }

pub fails_in : (a : Around) (R Q : Region) (items : List Item) (s s' : Store) (links : Links) (bad : Bad) → Inside R Q
    → Fails a s links R items bad s' → Fails a s links Q items bad s'
fails_in a R Q items s s' links bad i f =
    subst (λ l. Fails a s links Q l bad s') (append-nil items) (fails_earlier a s links R Q items [] bad s' i f)

-- ---- later

pub ready_on : (code : Code) (old new : State) → IsReady code old.depth old.store → Follows old new
    → IsReady code new.depth new.store
ready_on = ready_later choice_fits

-- a setting after a walk, with more links
pub setting_on : (a : Around) (R : Region) (items : List Item) (old new : State) (links after : Links) (code : Code)
    (scope : Scope)
    → IsReady code old.depth old.store → Follows old new → Walk a R items old.store links new.store after → Tells after
    links
    → Setting a links code scope old → Setting a after code scope new
setting_on a R items old new links after code scope ready follows walk tells set =
    setting_links a links after code scope new tells (walk.live set.live)
    (setting_later says_later a R items old new links links after code scope ready follows walk set)

-- ---- walked and stopped, as they are promised

pub went_walked : (code : Code) (v : ℕ) (list : Listing) (old new : State) → Follows old new
    → Walked code v list old new
    → Went Wanted code (one v) below list old new
went_walked code v list old new follows w = record {
  follows = follows;
  step = λ real a links scope q t real_at set has. record {
    walk = w.walk a links scope q t set has;
    passes = λ r. subst (λ p. Passes a old.store links (below p) (list scope p t)) (sym (real_at r))
        (w.passes a links scope t set has);
  };
}

pub walked_went : (code : Code) (v : ℕ) (list : Listing) (old new : State) → Went Wanted code (one v) below list old new
    → Walked code v list old new
walked_went code v list old new w = record {
  walk = λ a links scope q t set has. (w.step false a links scope q t (λ e. absurd cc) set has).walk;
  passes = λ a links scope t set has. (w.step true a links scope old.place t (λ e. refl) set has).passes refl;
}

pub stuck_stopped : (code : Code) (v : ℕ) (list : Listing) (old new : State) (bad : Bad)
    → Stopped code v list old new bad
    → Stuck Wanted code (one v) below list old new bad
stuck_stopped code v list old new bad s = record {
  fails = λ a links scope q t e set has.
      subst (λ p. Fails a old.store links (below p) (list scope p t) bad new.store) (sym e)
      (s.fails a links scope t set has);
}

pub stopped_stuck : (code : Code) (v : ℕ) (list : Listing) (old new : State) (bad : Bad)
    → Stuck Wanted code (one v) below list old new bad
    → Stopped code v list old new bad
stopped_stuck code v list old new bad s = record {
  fails = λ a links scope t set has. s.fails a links scope old.place t refl set has;
}

-- ---- the same step, said otherwise

-- for what is wanted here, in a larger region
pub went_as : (W X : Type 0) (code : Code) (says : Saying W) (also : Saying X) (R Q : Place → Region) (list : Lists W)
    (asks : Lists X) (old new : State)
    → (f : Scope → Place → X → W) → ((links : Links) (scope : Scope) (q : Place) (x : X) → also links x → says links
    (f scope q x))
    → ((q : Place) → Inside (R q) (Q q)) →
    ((links : Links) (scope : Scope) (q : Place) (x : X) → also links x → list scope q (f scope q x) ≡ asks scope q x)
    → Went W code says R list old new → Went X code also Q asks old new
went_as W X code says also R Q list asks old new f so inside same w = record {
  follows = w.follows;
  step = λ real a links scope q x real_at set has.
      subst (λ l. Step real a (Q q) l old.store links new.store links) (same links scope q x has)
      (step_in real a (R q) (Q q) (list scope q (f scope q x)) old.store new.store links links (inside q)
      (w.step real a links scope q (f scope q x) real_at set (so links scope q x has)));
}

pub stuck_as : (W X : Type 0) (code : Code) (says : Saying W) (also : Saying X) (R Q : Place → Region) (list : Lists W)
    (asks : Lists X) (old new : State)
    (bad : Bad) → (f : Scope → Place → X → W) → (more : Scope → Place → X → List Item)
    → ((links : Links) (scope : Scope) (q : Place) (x : X) → also links x → says links (f scope q x))
    → ((q : Place) → Inside (R q) (Q q)) →
    ((links : Links) (scope : Scope) (q : Place) (x : X) → also links x → list scope q (f scope q x) ++ more scope q x ≡
    asks scope q x)
    → Stuck W code says R list old new bad → Stuck X code also Q asks old new bad
stuck_as W X code says also R Q list asks old new bad f more so inside same s = record {
  fails = λ a links scope q x e set has.
      subst (λ l. Fails a old.store links (Q q) l bad new.store) (same links scope q x has)
      (fails_earlier a old.store links (R q) (Q q) (list scope q (f scope q x)) (more scope q x) bad new.store
      (inside q)
      (s.fails a links scope q (f scope q x) e set (so links scope q x has)));
}

-- ---- one after the other

pub went_on : (W : Type 0) (code : Code) (says : Saying W) (R Q Y : Place → Region) (first second asks : Lists W)
    (old mid new : State)
    → IsReady code old.depth old.store
    → ((q : Place) → Apart (R q) (Q q)) → ((q : Place) → Inside (R q) (Y q)) → ((q : Place) → Inside (Q q) (Y q))
    → ((links : Links) (scope : Scope) (q : Place) (w : W) → says links w → first scope q w ++ second scope q w ≡ asks
    scope q w)
    → Went W code says R first old mid → Went W code says Q second mid new → Went W code says Y asks old new
went_on W code says R Q Y first second asks old mid new ready apart left right same one two = record {
  follows = follows_on old mid new one.follows two.follows;
  step = λ real a links scope q w real_at set has. (
      let s1 = one.step real a links scope q w real_at set has in
      let set1 = setting_on a (R q) (first scope q w) old mid links links code scope ready one.follows s1.walk
      (tells_same links) set in
      let s2 = two.step real a links scope q w (λ r. real_at r ∙ sym one.follows.place) set1 has in
      subst (λ l. Step real a (Y q) l old.store links new.store links) (same links scope q w has)
      (step_on real a (R q) (Q q) (Y q) (first scope q w) (second scope q w) old.store mid.store new.store links links
      links (apart q) (left q) (right q)
      set.live s1 s2));
}

pub stuck_on : (W : Type 0) (code : Code) (says : Saying W) (R Q Y : Place → Region) (first second asks : Lists W)
    (old mid new : State) (bad : Bad)
    → IsReady code old.depth old.store
    → ((q : Place) → Apart (R q) (Q q)) → ((q : Place) → Inside (R q) (Y q)) → ((q : Place) → Inside (Q q) (Y q))
    → ((links : Links) (scope : Scope) (q : Place) (w : W) → says links w → first scope q w ++ second scope q w ≡ asks
    scope q w)
    → Went W code says R first old mid → Stuck W code says Q second mid new bad → Stuck W code says Y asks old new bad
stuck_on W code says R Q Y first second asks old mid new bad ready apart left right same one two = record {
  fails = λ a links scope q w e set has. (
      let s1 = one.step true a links scope q w (λ r. e) set has in
      let set1 = setting_on a (R q) (first scope q w) old mid links links code scope ready one.follows s1.walk
      (tells_same links) set in
      let f = two.fails a links scope q w (e ∙ sym one.follows.place) set1 has in
      subst (λ l. Fails a old.store links (Y q) l bad new.store) (same links scope q w has)
      (fails_after a (R q) (Q q) (Y q) (first scope q w) (second scope q w) old.store mid.store new.store links links
      bad (apart q) (left q) (right q)
      s1.walk (s1.passes refl) f));
}

-- ---- after the first part of a construct

module _ (W X : Type 0) (code : Code) (says : Saying W) (more : Saying X) (type : Scope → Place → W → X)
    (R Q Y : Place → Region)
    (first : Lists W) (second : Lists X) (asks : Lists W) (old mid : State)
    (ready : IsReady code old.depth old.store)
    (apart : (q : Place) → Apart (R q) (Q q)) (left : (q : Place) → Inside (R q) (Y q))
    (right : (q : Place) → Inside (Q q) (Y q))
    (same : (links : Links) (scope : Scope) (q : Place) (w : W) → says links w → first scope q w ++ second scope q
    (type scope q w) ≡ asks scope q w)
    (open_ : Opens W code says R first X more type old mid) where
  -- the other parts end it
  pub closes : (new : State) → Went X code more Q second mid new → Went W code says Y asks old new
  closes new two = record {
    follows = follows_on old mid new open_.follows two.follows;
    step = λ real a links scope q w real_at set has. (
        let g = open_.gives real a links scope q w real_at set has in
        let set1 = setting_on a (R q) (first scope q w) old mid links g.after code scope ready open_.follows g.step.walk
        g.tells set in
        let s2 = two.step real a g.after scope q (type scope q w) (λ r. real_at r ∙ sym open_.follows.place) set1
        g.known in
        step_forgets real a (Y q) (asks scope q w) old.store new.store links g.after g.tells set.live
        (subst (λ l. Step real a (Y q) l old.store links new.store g.after) (same links scope q w has)
        (step_on real a (R q) (Q q) (Y q) (first scope q w) (second scope q (type scope q w)) old.store mid.store
        new.store links g.after g.after
        (apart q) (left q) (right q) set.live g.step s2)));
  }

  -- one of them follows, and others are to come
  pub goes : (new : State) → Went X code more Q second mid new → Opens W code says Y asks X more type old new
  goes new two = record {
    follows = follows_on old mid new open_.follows two.follows;
    gives = λ real a links scope q w real_at set has. (
        let g = open_.gives real a links scope q w real_at set has in
        let set1 = setting_on a (R q) (first scope q w) old mid links g.after code scope ready open_.follows g.step.walk
        g.tells set in
        let s2 = two.step real a g.after scope q (type scope q w) (λ r. real_at r ∙ sym open_.follows.place) set1
        g.known in
        record {
          after = g.after;
          step =
              subst (λ l. Step real a (Y q) l old.store links new.store g.after) (same links scope q w has)
              (step_on real a (R q) (Q q) (Y q) (first scope q w) (second scope q (type scope q w)) old.store mid.store
              new.store links g.after g.after
              (apart q) (left q) (right q) set.live g.step s2);
          tells = g.tells;
          known = g.known;
        });
  }

  -- one of them opens others
  pub reopens : (Z : Type 0) (most : Saying Z) (next : Scope → Place → X → Z) (new : State)
      → Opens X code more Q second Z most next mid new
      → Opens W code says Y asks Z most (λ scope q w. next scope q (type scope q w)) old new
  reopens Z most next new two = record {
    follows = follows_on old mid new open_.follows two.follows;
    gives = λ real a links scope q w real_at set has. (
        let g = open_.gives real a links scope q w real_at set has in
        let set1 = setting_on a (R q) (first scope q w) old mid links g.after code scope ready open_.follows g.step.walk
        g.tells set in
        let h = two.gives real a g.after scope q (type scope q w) (λ r. real_at r ∙ sym open_.follows.place) set1
        g.known in
        record {
          after = h.after;
          step =
              subst (λ l. Step real a (Y q) l old.store links new.store h.after) (same links scope q w has)
              (step_on real a (R q) (Q q) (Y q) (first scope q w) (second scope q (type scope q w)) old.store mid.store
              new.store links g.after h.after
              (apart q) (left q) (right q) set.live g.step h.step);
          tells = tells_on h.tells g.tells;
          known = h.known;
        });
  }

  -- one of them stops
  pub sticks : (new : State) (bad : Bad) → Stuck X code more Q second mid new bad → Stuck W code says Y asks old new bad
  sticks new bad two = record {
    fails = λ a links scope q w e set has. (
        let g = open_.gives true a links scope q w (λ r. e) set has in
        let set1 = setting_on a (R q) (first scope q w) old mid links g.after code scope ready open_.follows g.step.walk
        g.tells set in
        let f = two.fails a g.after scope q (type scope q w) (e ∙ sym open_.follows.place) set1 g.known in
        subst (λ l. Fails a old.store links (Y q) l bad new.store) (same links scope q w has)
        (fails_after a (R q) (Q q) (Y q) (first scope q w) (second scope q (type scope q w)) old.store mid.store
        new.store links g.after bad
        (apart q) (left q) (right q) g.step.walk (g.step.passes refl) f));
  }

-- ---- what is open, said otherwise; and closed

pub opens_as : (W X : Type 0) (code : Code) (says : Saying W) (more : Saying X) (R Y : Place → Region)
    (list asks : Lists W)
    (type kind : Scope → Place → W → X) (old new : State)
    → ((q : Place) → Inside (R q) (Y q)) →
    ((links : Links) (scope : Scope) (q : Place) (w : W) → says links w → list scope q w ≡ asks scope q w)
    → ((links : Links) (scope : Scope) (q : Place) (w : W) → says links w → type scope q w ≡ kind scope q w)
    → Opens W code says R list X more type old new → Opens W code says Y asks X more kind old new
opens_as W X code says more R Y list asks type kind old new inside same alike o = record {
  follows = o.follows;
  gives = λ real a links scope q w real_at set has. (
      let g = o.gives real a links scope q w real_at set has in
      record {
        after = g.after;
        step =
            subst (λ l. Step real a (Y q) l old.store links new.store g.after) (same links scope q w has)
            (step_in real a (R q) (Y q) (list scope q w) old.store new.store links g.after (inside q) g.step);
        tells = g.tells;
        known = subst (more g.after) (alike links scope q w has) g.known;
      });
}

pub opens_ends : (W X : Type 0) (code : Code) (says : Saying W) (more : Saying X) (R Y : Place → Region)
    (list asks : Lists W)
    (type : Scope → Place → W → X) (old new : State)
    → ((q : Place) → Inside (R q) (Y q)) →
    ((links : Links) (scope : Scope) (q : Place) (w : W) → says links w → list scope q w ≡ asks scope q w)
    → Opens W code says R list X more type old new → Went W code says Y asks old new
opens_ends W X code says more R Y list asks type old new inside same o = record {
  follows = o.follows;
  step = λ real a links scope q w real_at set has. (
      let g = o.gives real a links scope q w real_at set has in
      step_forgets real a (Y q) (asks scope q w) old.store new.store links g.after g.tells set.live
      (subst (λ l. Step real a (Y q) l old.store links new.store g.after) (same links scope q w has)
      (step_in real a (R q) (Y q) (list scope q w) old.store new.store links g.after (inside q) g.step)));
}

-- ---- regions

pub same_inside : (R : Region) → Inside R R
same_inside R = record { each = λ r e. e }

pub inside_on : (R Q X : Region) → Inside R Q → Inside Q X → Inside R X
inside_on R Q X i j = record { each = λ r e. j.each r (i.each r e) }

or_false : (a b : Bool) → a ≡ false → b ≡ false → (a || b) ≡ false
or_false true b h k = h
or_false false b h k = k

or_cases : (a b c : Bool) → (a ≡ true → c ≡ false) → (b ≡ true → c ≡ false) → (a || b) ≡ true → c ≡ false
or_cases true b c f g h = f refl
or_cases false b c f g h = g h

-- either is apart from it
pub either_apart : (R Q X : Region) → Apart R X → Apart Q X → Apart (either R Q) X
either_apart R Q X h k = record { each = λ r e. or_cases (R r) (Q r) (X r) (h.each r) (k.each r) e }

pub apart_either : (R Q X : Region) → Apart X R → Apart X Q → Apart X (either R Q)
apart_either R Q X h k = record { each = λ r e. or_false (R r) (Q r) (h.each r e) (k.each r e) }

-- ---- types that variables have

pub zip_at : {A B : Type 0} (P : A → B → Type 0) (xs : List A) (ys : List B) (i : ℕ) (d : A) (e : B) → i < length xs
    → AllZip P xs ys
    → P (get_or xs i d) (get_or ys i e)
zip_at P [] ys i d e lt h = absurd (omega arith)
zip_at P (x ∷ xs) [] i d e lt h = absurd h
zip_at P (x ∷ xs) (y ∷ ys) zero d e lt h = h.0
zip_at P (x ∷ xs) (y ∷ ys) (suc i) d e lt h = zip_at P xs ys i d e (omega (arith, lt)) h.1

pub zip_length : {A B : Type 0} (P : A → B → Type 0) (xs : List A) (ys : List B) → AllZip P xs ys
    → length xs ≡ length ys
zip_length P [] [] h = refl
zip_length P [] (y ∷ ys) h = absurd h
zip_length P (x ∷ xs) [] h = absurd h
zip_length P (x ∷ xs) (y ∷ ys) h = ap suc (zip_length P xs ys h.1)
