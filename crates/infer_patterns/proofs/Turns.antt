-- Patterns in turn.
use Rattle.std.proofs.Common.{◌≡◌, ℕ, zero, suc, ◌+◌, ◌<◌, ◌≤◌, List, [], ◌∷◌, ◌++◌, length, map, take, drop, get_or}
use Rattle.std.proofs.Common.{refl, sym, ap, ◌∙◌, subst, arith, append_assoc}
use Rattle.std.specs.List.{AllByRecursion, AllZip}
use Rattle.std.proofs.lemmas.List.{take_more}
use Rattle.elm_base.specs.declared.position.Pos.{Pos}
use Rattle.elm_canon.specs.Tree.{Pattern}
use Rattle.type_items.specs.Items.{child}
use Rattle.type_items.specs.Scopes.{Known}
use Rattle.type_store.specs.Store.{Store}
use Rattle.type_store.specs.Shape.{IsStore}
use Rattle.type_walks.specs.Regions.{none}
use Rattle.type_walks.specs.Links.{Has, Live}
use Rattle.type_constructs.specs.Failing.{Bad}
use Rattle.type_constructs.specs.Patterns.{MatchedEach}
use Rattle.type_constructs.specs.Faults.{EachMatchFails}
use Rattle.type_constructs.proofs.Matching.{matches_none, matches_one_more}
use Rattle.type_constructs.proofs.Missing.{fails_next, fails_more, fails_fewer}
use Rattle.type_constructs.proofs.Chains.{has_still}
use Rattle.infer_steps.specs.Codes.{State, Bound}
use Rattle.infer_steps.specs.Asked.{IsNonsense}
use Rattle.infer_steps.proofs.Stepping.{follows_itself, follows_on}
use Rattle.infer_patterns.specs.Matches.{MatchesPattern, RefusesPattern, MatchesEach, RefusesEach, AddsNames}
use Rattle.infer_patterns.proofs.Binding.{bound_live, all_both}

-- ---- lists of which each has its own

module _ {A B : Type 0} (R : A → B → Type 0) where
  record Parted (xs : List A) (x : A) (zs : List A) (ys : List B) : Type 0 where
    before : List B
    one : B
    more : List B
    is : ys ≡ before ++ one ∷ more
    have : AllZip R xs before
    has : R x one
    rest : AllZip R zs more
    count : length xs ≡ length before

  parted : (xs : List A) (x : A) (zs : List A) (ys : List B) → AllZip R (xs ++ x ∷ zs) ys → Parted xs x zs ys
  parted [] x zs [] h = absurd h
  parted [] x zs (y ∷ ys) h =
      record { before = []; one = y; more = ys; is = refl; have = tt; has = h.0; rest = h.1; count = refl }
  parted (w ∷ xs) x zs [] h = absurd h
  parted (w ∷ xs) x zs (y ∷ ys) h =
      let p = parted xs x zs ys h.1 in
      record {
        before = y ∷ p.before;
        one = p.one;
        more = p.more;
        is = ap (λ l. y ∷ l) p.is;
        have = (h.0, p.have);
        has = p.has;
        rest = p.rest;
        count = ap suc p.count;
      }

  nothing_more : (ys : List B) → AllZip R [] ys → ys ≡ []
  nothing_more [] h = refl
  nothing_more (y ∷ ys) h = absurd h

  zip_count : (xs : List A) (ys : List B) → AllZip R xs ys → length xs ≡ length ys
  zip_count [] [] h = refl
  zip_count [] (y ∷ ys) h = absurd h
  zip_count (x ∷ xs) [] h = absurd h
  zip_count (x ∷ xs) (y ∷ ys) h = ap suc (zip_count xs ys h.1)

-- ---- one pattern more

module _ (known : Known) (pos : Pos) where
  pub each_none : (s : State) → IsStore s.store → MatchesEach known pos [] [] [] s s
  each_none s whole = record {
    follows = follows_itself s whole;
    live = tt;
    matched = λ a links q ts e live have.
        subst (λ us. MatchedEach a [] known pos q us s.store links s.store []) (sym (nothing_more (Has links) ts have))
        (matches_none a known pos q s.store links);
  }

  module _ (vs : List ℕ) (ps : List Pattern) (bound : List Bound) (old mid : State) (count : length vs ≡ length ps)
      (first : MatchesEach known pos vs ps bound old mid) where
    pub each_more : (v : ℕ) (p : Pattern) (more : List Bound) (new : State) → MatchesPattern known pos v p more mid new
        → MatchesEach known pos (vs ++ v ∷ []) (ps ++ p ∷ []) (more ++ bound) old new
    each_more v p more new next = record {
      follows = follows_on old mid new first.follows next.follows;
      live = all_both (λ (b : Bound). Live new.depth new.store b.1) more bound next.live
          (bound_live mid new next.follows bound first.live);
      matched = λ a links q ts e live have. (
          let h = parted (Has links) vs v [] ts have in
          let m = first.matched a links q h.before e live h.have in
          subst (λ us. MatchedEach a (ps ++ p ∷ []) known pos q us old.store links new.store (more ++ bound))
          (sym (h.is ∙ ap (λ us. h.before ++ h.one ∷ us) (nothing_more (Has links) h.more h.rest)))
          (matches_one_more a ps p known pos q h.before h.one old.store mid.store new.store links bound more live
          (sym count ∙ h.count) m
          (next.matched a m.after (child q (length ps)) h.one (e ∙ sym first.follows.depth) (m.walk.live live)
          (has_still m.tells h.has))));
    }

    pub each_refused : (v : ℕ) (ws : List ℕ) (p : Pattern) (rest : List Pattern) (bad : Bad) (new : State)
        → RefusesPattern known pos v p bad mid new
        → RefusesEach known pos (vs ++ v ∷ ws) (ps ++ p ∷ rest) bad old new
    each_refused v ws p rest bad new next = record {
      fails = λ a links q ts e live have. (
          let h = parted (Has links) vs v ws ts have in
          let m = first.matched a links q h.before e live h.have in
          subst (λ us. EachMatchFails a (ps ++ p ∷ rest) known pos q us old.store links bad new.store) (sym h.is)
          (fails_next a ps p rest known pos q h.before h.one h.more old.store mid.store new.store links bound bad
          (sym count ∙ h.count) m
          (next.fails a m.after (child q (length ps)) h.one (e ∙ sym first.follows.depth) (m.walk.live live)
          (has_still m.tells h.has))));
    }

    pub too_many : (p : Pattern) (rest : List Pattern) (bad : Bad) (new : State) → IsNonsense mid new pos bad
        → RefusesEach known pos vs (ps ++ p ∷ rest) bad old new
    too_many p rest bad new refused = record {
      fails = λ a links q ts e live have. (
          let m = first.matched a links q ts e live have in
          fails_more a ps p rest known pos q ts old.store mid.store new.store links bound bad
          (sym count ∙ zip_count (Has links) vs ts have) m
          (refused.fails a m.after none [] (e ∙ sym first.follows.depth) (m.walk.live live)));
    }

    pub too_few : (v : ℕ) (ws : List ℕ) (bad : Bad) (new : State) → IsNonsense mid new pos bad
        → RefusesEach known pos (vs ++ v ∷ ws) ps bad old new
    too_few v ws bad new refused = record {
      fails = λ a links q ts e live have. (
          let h = parted (Has links) vs v ws ts have in
          let m = first.matched a links q h.before e live h.have in
          subst (λ us. EachMatchFails a ps known pos q us old.store links bad new.store) (sym h.is)
          (fails_fewer a ps known pos q h.before h.one h.more old.store mid.store new.store links bound bad
          (sym count ∙ h.count) m
          (refused.fails a m.after none [] (e ∙ sym first.follows.depth) (m.walk.live live))));
    }

-- ---- in a loop

pub cut_at : {X : Type 0} (xs : List X) (i : ℕ) (x : X) → i < length xs → x ≡ get_or xs i x
    → xs ≡ take i xs ++ x ∷ drop (suc i) xs
cut_at [] i x l is = absurd (omega (arith, l))
cut_at (y ∷ xs) zero x l is = ap (λ z. z ∷ xs) (sym is)
cut_at (y ∷ xs) (suc i) x l is = ap (λ zs. y ∷ zs) (cut_at xs i x (omega (arith, l)) is)

pub read_again : {X : Type 0} (xs : List X) (i : ℕ) (d : X) → i < length xs
    → get_or xs i d ≡ get_or xs i (get_or xs i d)
read_again [] i d l = absurd (omega (arith, l))
read_again (x ∷ xs) zero d l = refl
read_again (x ∷ xs) (suc i) d l = read_again xs i d (omega (arith, l))

pub live_read : (d : ℕ) (s : Store) (vs : List ℕ) (i : ℕ) → AllByRecursion (Live d s) vs → i < length vs
    → Live d s (get_or vs i 0)
live_read d s [] i h l = absurd (omega (arith, l))
live_read d s (v ∷ vs) zero h l = h.0
live_read d s (v ∷ vs) (suc i) h l = live_read d s vs i h.1 (omega (arith, l))

pub one_more_taken : {X : Type 0} (xs : List X) (i : ℕ) (x : X) → i < length xs → x ≡ get_or xs i x
    → take (i + 1) xs ≡ take i xs ++ x ∷ []
one_more_taken xs i x l is = take_more xs i x l ∙ ap (λ y. take i xs ++ y ∷ []) (sym is)

pub taken_length : {X : Type 0} (xs : List X) (i : ℕ) → i ≤ length xs → length (take i xs) ≡ i
taken_length [] zero l = refl
taken_length [] (suc i) l = absurd (omega (arith, l))
taken_length (x ∷ xs) zero l = refl
taken_length (x ∷ xs) (suc i) l = ap suc (taken_length xs i (omega (arith, l)))

pub all_taken : {X : Type 0} (xs : List X) (i : ℕ) → length xs ≤ i → take i xs ≡ xs
all_taken [] zero l = refl
all_taken [] (suc i) l = refl
all_taken (x ∷ xs) zero l = absurd (omega (arith, l))
all_taken (x ∷ xs) (suc i) l = ap (λ l. x ∷ l) (all_taken xs i (omega (arith, l)))

pub view_at : {X Y : Type 0} (f : X → Y) (xs : List X) (i : ℕ) (x : X) → i < length xs → x ≡ get_or xs i x
    → f x ≡ get_or (map f xs) i (f x)
view_at f [] i x l is = absurd (omega (arith, l))
view_at f (y ∷ xs) zero x l is = ap f is
view_at f (y ∷ xs) (suc i) x l is = view_at f xs i x (omega (arith, l)) is

module _ (known : Known) (pos : Pos) (vs : List ℕ) (ps : List Pattern) (i : ℕ) (before after : List Bound)
    (old mid : State)
    (far : AddsNames (λ own. MatchesEach known pos (take i vs) (take i ps) own old mid) before after) where
  pub next_matched : (v : ℕ) (p : Pattern) (last : List Bound) (new : State) → i < length vs → i < length ps
      → v ≡ get_or vs i v → p ≡ get_or ps i p
      → AddsNames (λ own. MatchesPattern known pos v p own mid new) after last
      → AddsNames (λ own. MatchesEach known pos (take (i + 1) vs) (take (i + 1) ps) own old new) before last
  next_matched v p last new lv lp isv isp next = record {
    own = next.own ++ far.own;
    so =
        subst (λ us. MatchesEach known pos us (take (i + 1) ps) (next.own ++ far.own) old new)
        (sym (one_more_taken vs i v lv isv))
        (subst (λ qs. MatchesEach known pos (take i vs ++ v ∷ []) qs (next.own ++ far.own) old new)
        (sym (one_more_taken ps i p lp isp))
        (each_more known pos (take i vs) (take i ps) far.own old mid
        (taken_length vs i (omega (arith, lv)) ∙ sym (taken_length ps i (omega (arith, lp)))) far.so
        v p next.own new next.so));
    is = next.is ∙ (ap (λ l. next.own ++ l) far.is ∙ sym (append_assoc next.own far.own before));
  }

  pub next_refused : (v : ℕ) (p : Pattern) (bad : Bad) (new : State) → i < length vs → i < length ps → v ≡ get_or vs i v
      → p ≡ get_or ps i p
      → RefusesPattern known pos v p bad mid new → RefusesEach known pos vs ps bad old new
  next_refused v p bad new lv lp isv isp next =
      subst (λ us. RefusesEach known pos us ps bad old new) (sym (cut_at vs i v lv isv))
      (subst (λ qs. RefusesEach known pos (take i vs ++ v ∷ drop (suc i) vs) qs bad old new)
      (sym (cut_at ps i p lp isp))
      (each_refused known pos (take i vs) (take i ps) far.own old mid
      (taken_length vs i (omega (arith, lv)) ∙ sym (taken_length ps i (omega (arith, lp)))) far.so
      v (drop (suc i) vs) p (drop (suc i) ps) bad new next))

  -- no variable is left
  pub more_patterns : (p : Pattern) (bad : Bad) (new : State) → i ≡ length vs → i < length ps → p ≡ get_or ps i p
      → IsNonsense mid new pos bad
      → RefusesEach known pos vs ps bad old new
  more_patterns p bad new lv lp isp refused =
      let all : take i vs ≡ vs = all_taken vs i (omega (arith, lv)) in
      subst (λ us. RefusesEach known pos us ps bad old new) all
      (subst (λ qs. RefusesEach known pos (take i vs) qs bad old new) (sym (cut_at ps i p lp isp))
      (too_many known pos (take i vs) (take i ps) far.own old mid
      (taken_length vs i (omega (arith, lv)) ∙ sym (taken_length ps i (omega (arith, lp)))) far.so
      p (drop (suc i) ps) bad new refused))

  -- no pattern is left
  pub fewer_patterns : (v : ℕ) (bad : Bad) (new : State) → i < length vs → i ≡ length ps → v ≡ get_or vs i v
      → IsNonsense mid new pos bad
      → RefusesEach known pos vs ps bad old new
  fewer_patterns v bad new lv lp isv refused =
      let all : take i ps ≡ ps = all_taken ps i (omega (arith, lp)) in
      subst (λ qs. RefusesEach known pos vs qs bad old new) all
      (subst (λ us. RefusesEach known pos us (take i ps) bad old new) (sym (cut_at vs i v lv isv))
      (too_few known pos (take i vs) (take i ps) far.own old mid
      (taken_length vs i (omega (arith, lv)) ∙ sym (taken_length ps i (omega (arith, lp)))) far.so
      v (drop (suc i) vs) bad new refused))
