-- Variables of kinds: one after the other, for the children of a place.
use Rattle.std.proofs.Common.{◌≡◌, ℕ, zero, suc, ◌+◌, ◌<◌, ◌≤◌, List, [], ◌∷◌, ◌++◌, length, map, take, drop, get_or}
use Rattle.std.proofs.Common.{refl, sym, ap, ◌∙◌, subst, arith, append-nil, append_assoc}
use Rattle.std.specs.List.{AllByRecursion, AllZip, flat_map, enumerate_from, range_with_len}
use Rattle.std.proofs.lemmas.Grind.{flat_map-append}
use Rattle.std.proofs.lemmas.List.{take_more}
use Rattle.elm_base.specs.declared.position.Pos.{Pos}
use Rattle.elm_type.specs.Types.{Kind}
use Rattle.type_items.specs.Items.{Place, child, at, children, Item, class_items, lack_items, kind_items}
use Rattle.type_items.specs.Scopes.{instance_items}
use Rattle.type_store.specs.Store.{Store}
use Rattle.type_store.specs.Shape.{IsStore}
use Rattle.type_walks.specs.Regions.{Region, none, only, below, either, Inside}
use Rattle.type_walks.specs.Links.{Links, Live, AreLive, Has}
use Rattle.type_walks.specs.Walks.{Around, Walk}
use Rattle.type_walks.proofs.Regions.{none_inside, apart_none, either_inside}
use Rattle.type_walks.proofs.Walking.{rests, goes_on, widens}
use Rattle.type_constructs.specs.Failing.{Bad, Fails}
use Rattle.type_constructs.proofs.Passing.{passes_plain}
use Rattle.type_constructs.proofs.Failing.{fails_after, fails_earlier}
use Rattle.type_constructs.specs.Regions.{tops}
use Rattle.type_constructs.proofs.Chains.{tells_same, tells_more, has_new, all_still}
use Rattle.type_constructs.proofs.Parts.{tops_in_tops, only_in_tops, tops_apart_only, zip_both}
use Rattle.type_constructs.proofs.Sizes.{instance_sizes, class_sizes}
use Rattle.type_constructs.proofs.Spots.{Here, Child, Itself, Tops, In, atom_inside}
use Rattle.type_walks.specs.TypeStepsLaws.{Lacking}
use Rattle.infer_steps.specs.Codes.{State}
use Rattle.infer_steps.specs.Made.{IsOpened}
use Rattle.infer_steps.specs.Asked.{AsksLacks, RefusesLacks}
use Rattle.infer_steps.proofs.Stepping.{follows_itself, follows_on, still_live, all_still_live}
use Rattle.infer_steps.proofs.Lacking.{both_walks, fails_later}
use Rattle.infer_steps.specs.Operators.{AsksClassItems, RefusesClassItems}
use Rattle.infer_types.specs.Instances.{IsOfKind, NoneOfKind, AreOfKinds, NoneOfKinds}
use Rattle.infer_types.proofs.Loops.{lacking_later}

-- ---- one

itself : (R : Region) → Inside R R
itself R = record { each = λ r h. h }

-- a place of its own, and then what is asked where no place is
after_open : (a : Around) (R : Region) (items : List Item) (s u s' : Store) (before between after : Links)
    → AreLive a.depth s before
    → Walk a R [] s before u between → Walk a none items u between s' after → Walk a R items s before s' after
after_open a R items s u s' before between after live one two =
    widens a (either R none) R items s s' before after (either_inside R none R (itself R) (none_inside R))
    (goes_on a R none [] items s u s' before between after (apart_none R) live one two)

fails_open : (a : Around) (R : Region) (items : List Item) (s u s' : Store) (before between : Links) (bad : Bad)
    → Walk a R [] s before u between → Fails a u between none items bad s' → Fails a s before R items bad s'
fails_open a R items s u s' before between bad one fails =
    fails_after a R none R [] items s u s' before between bad (apart_none R) (itself R) (none_inside R) one
    (passes_plain a s before R [] tt) fails

module _ (old one : State) (pos : Pos) (k : Kind) (v : ℕ) (opened : IsOpened old one v) where
  pub made_of_kind : (two new : State) → AsksClassItems one two pos v k.class → AsksLacks two new pos v k.lacks
      → IsOfKind pos k old new v
  made_of_kind two new class lacks = record {
    follows = follows_on old one new opened.follows (follows_on one two new class.follows lacks.follows);
    live = still_live one new v (follows_on one two new class.follows lacks.follows) opened.live;
    lacking = record { each = λ σ f. (lacks.back σ f).1 };
    walk = λ a links p e live. (
        let open_walk = opened.walk a links p e live in
        let own = (v, at p) ∷ links in
        let there = open_walk.live live in
        let f = e ∙ sym opened.follows.depth in
        let class_walk = class.walk a own (at p) f there (has_new v (at p) links) in
        let lack_walk = lacks.walk a own (at p) (f ∙ sym class.follows.depth) (class_walk.live there)
        (has_new v (at p) links) in
        after_open a (only p) (kind_items pos (at p) k) old.store one.store new.store links own own live open_walk
        (both_walks a (class_items pos (at p) k.class) (lack_items pos (at p) k.lacks) one.store two.store new.store own
        own own there class_walk lack_walk));
  }

  pub no_class : (new : State) (bad : Bad) → RefusesClassItems one new pos v k.class bad → NoneOfKind pos k old new bad
  no_class new bad refuses = record {
    fails = λ a links p e live.
        fails_open a (only p) (kind_items pos (at p) k) old.store one.store new.store links ((v, at p) ∷ links) bad
        (opened.walk a links p e live)
        (refuses.fails a ((v, at p) ∷ links) none (at p) (lack_items pos (at p) k.lacks) (has_new v (at p) links));
  }

  pub no_lacks : (two new : State) (bad : Bad) → AsksClassItems one two pos v k.class
      → RefusesLacks two new pos v k.lacks bad → NoneOfKind pos k old new bad
  no_lacks two new bad class refuses = record {
    fails = λ a links p e live. (
        let open_walk = opened.walk a links p e live in
        let own = (v, at p) ∷ links in
        let there = open_walk.live live in
        let f = e ∙ sym opened.follows.depth in
        let class_walk = class.walk a own (at p) f there (has_new v (at p) links) in
        let stops = refuses.fails a own none (at p) [] (f ∙ sym class.follows.depth) (class_walk.live there)
        (has_new v (at p) links) in
        fails_open a (only p) (kind_items pos (at p) k) old.store one.store new.store links own bad open_walk
        (fails_later a none (class_items pos (at p) k.class) (lack_items pos (at p) k.lacks) one.store two.store
        new.store own own bad class_walk
        (passes_plain a one.store own none (class_items pos (at p) k.class) (class_sizes pos (at p) k.class))
        (subst (λ l. Fails a two.store own none l bad new.store) (append-nil (lack_items pos (at p) k.lacks)) stops)));
  }

-- ---- one more

numbered_last : {X : Type 0} (xs : List X) (x : X) (i : ℕ)
    → enumerate_from i (xs ++ x ∷ []) ≡ enumerate_from i xs ++ (i + length xs, x) ∷ []
numbered_last [] x i = (let e : i ≡ i + 0 = omega arith in ap (λ k. (k, x) ∷ []) e)
numbered_last (y ∷ xs) x i =
    (let e : (i + 1) + length xs ≡ i + suc (length xs) = omega arith in
    ap (λ l. (i, y) ∷ l) (numbered_last xs x (i + 1) ∙ ap (λ k. enumerate_from (i + 1) xs ++ (k, x) ∷ []) e))

items_last : (ks : List Kind) (k : Kind) (pos : Pos) (p : Place)
    → instance_items (ks ++ k ∷ []) pos p ≡ instance_items ks pos p ++ kind_items pos (at (child p (length ks))) k
items_last ks k pos p =
    let f : (n : ℕ × Kind) → List Item = λ n. kind_items pos (at (child p n.0)) n.1 in
    let e : 0 + length ks ≡ length ks = omega arith in
    ap (flat_map f) (numbered_last ks k 0 ∙ ap (λ n. enumerate_from 0 ks ++ (n, k) ∷ []) e)
    ∙ (flat_map-append f (enumerate_from 0 ks) ((length ks, k) ∷ [])
    ∙ ap (λ l. instance_items ks pos p ++ l) (append-nil (kind_items pos (at (child p (length ks))) k)))

children_last : (p : Place) (i n : ℕ) → map (λ j. at (child p j)) (range_with_len i (suc n)) ≡ map (λ j. at (child p j))
    (range_with_len i n) ++ at (child p (i + n)) ∷ []
children_last p i zero = (let e : i ≡ i + 0 = omega arith in ap (λ k. at (child p k) ∷ []) e)
children_last p i (suc n) =
    (let e : (i + 1) + n ≡ i + suc n = omega arith in
    ap (λ l. at (child p i) ∷ l) (children_last p (i + 1) n ∙ ap
    (λ k. map (λ j. at (child p j)) (range_with_len (i + 1) n) ++ at (child p k) ∷ []) e))

pub none_chosen : (pos : Pos) (s : State) → IsStore s.store → AreOfKinds pos [] s s []
none_chosen pos s whole = record {
  follows = follows_itself s whole;
  live = tt;
  lacking = tt;
  kinds = λ a links p e live. record {
    after = links;
    walk = widens a none (tops p 0 0) [] s.store s.store links links (none_inside (tops p 0 0)) (rests a s.store links);
    tells = tells_same links;
    each = tt;
  };
}

live_last : (s : State) (vs : List ℕ) (v : ℕ) → AllByRecursion (Live s.depth s.store) vs → Live s.depth s.store v
    → AllByRecursion (Live s.depth s.store) (vs ++ v ∷ [])
live_last s [] v l h = (h, tt)
live_last s (w ∷ vs) v l h = (l.0, live_last s vs v l.1 h)

module _ (old u new : State) (pos : Pos) (ks : List Kind) (k : Kind) (vs : List ℕ) (first : AreOfKinds pos ks old u vs)
  where
    count : length (ks ++ k ∷ []) ≡ suc (length ks)
    count = go ks
      where
        go : (ls : List Kind) → length (ls ++ k ∷ []) ≡ suc (length ls)
        go [] = refl
        go (l ∷ ls) = ap suc (go ls)

    pub one_more_chosen : (v : ℕ) → IsOfKind pos k u new v → AreOfKinds pos (ks ++ k ∷ []) old new (vs ++ v ∷ [])
    one_more_chosen v second = record {
      follows = follows_on old u new first.follows second.follows;
      live = live_last new vs v (all_still_live u new vs second.follows first.live) second.live;
      lacking =
          zip_both (λ w (l : Kind). Lacking new.store w l.lacks) vs (v ∷ []) ks (k ∷ [])
          (lacking_later u new second.follows vs ks first.live first.lacking)
          (second.lacking, tt);
      kinds = λ a links p e live. (
          let one = first.kinds a links p e live in
          let n = length ks in
          let two = second.walk a one.after (child p n) (e ∙ sym first.follows.depth) (one.walk.live live) in
          let more = (v, at (child p n)) ∷ one.after in
          let all = length (ks ++ k ∷ []) in
          record {
            after = more;
            walk =
                subst (λ l. Walk a (tops p 0 all) l old.store links new.store more) (sym (items_last ks k pos p))
                (widens a (either (tops p 0 n) (only (child p n))) (tops p 0 all)
                (instance_items ks pos p ++ kind_items pos (at (child p n)) k) old.store new.store links more
                (either_inside (tops p 0 n) (only (child p n)) (tops p 0 all)
                (tops_in_tops p 0 all 0 n (omega arith) (omega (arith, count)))
                (only_in_tops p 0 all n (omega arith) (omega (arith, count))))
                (goes_on a (tops p 0 n) (only (child p n)) (instance_items ks pos p) (kind_items pos (at (child p n)) k)
                old.store u.store new.store links one.after more
                (tops_apart_only p 0 n n (omega arith)) live one.walk two));
            tells = tells_more v (at (child p n)) one.tells;
            each =
                subst (λ ts. AllZip (Has more) (vs ++ v ∷ []) ts)
                (sym (ap (children p) count ∙ (children_last p 0 n ∙
                (let z : 0 + n ≡ n = omega arith in ap (λ j. children p n ++ at (child p j) ∷ []) z))))
                (zip_both (Has more) vs (v ∷ []) (children p n) (at (child p n) ∷ [])
                (all_still vs (children p n) (tells_more v (at (child p n)) (tells_same one.after)) one.each)
                (has_new v (at (child p n)) one.after, tt));
          });
    }

    pub none_further : (later : List Kind) (bad : Bad) → NoneOfKind pos k u new bad
        → NoneOfKinds pos (ks ++ k ∷ later) old new bad
    none_further later bad refuses = record {
      fails = λ a links p e live. (
          let one = first.kinds a links p e live in
          let n = length ks in
          let stops = refuses.fails a one.after (child p n) (e ∙ sym first.follows.depth) (one.walk.live live) in
          let here =
          fails_after a (tops p 0 n) (only (child p n)) (below p) (instance_items ks pos p)
          (kind_items pos (at (child p n)) k) old.store u.store new.store links one.after bad
          (tops_apart_only p 0 n n (omega arith)) (atom_inside p (In Here (Tops 0 n)) refl)
          (atom_inside p (In (Child Here n) Itself) refl) one.walk
          (passes_plain a old.store links (tops p 0 n) (instance_items ks pos p) (instance_sizes ks pos p)) stops in
          subst (λ l. Fails a old.store links (below p) l bad new.store) (sym (all_items later p))
          (fails_earlier a old.store links (below p) (below p)
          (instance_items ks pos p ++ kind_items pos (at (child p n)) k) (rest later p) bad new.store (itself (below p))
          here));
    }
      where
        rest : List Kind → Place → List Item
        rest later p =
            flat_map (λ (m : ℕ × Kind). kind_items pos (at (child p m.0)) m.1) (enumerate_from (suc (length ks)) later)

        numbered_both : {X : Type 0} (xs ys : List X) (i : ℕ)
            → enumerate_from i (xs ++ ys) ≡ enumerate_from i xs ++ enumerate_from (i + length xs) ys
        numbered_both [] ys i = (let z : i ≡ i + 0 = omega arith in ap (λ j. enumerate_from j ys) z)
        numbered_both (x ∷ xs) ys i =
            (let z : (i + 1) + length xs ≡ i + suc (length xs) = omega arith in
            ap (λ l. (i, x) ∷ l) (numbered_both xs ys (i + 1)
            ∙ ap (λ j. enumerate_from (i + 1) xs ++ enumerate_from j ys)
            z))

        all_items : (later : List Kind) (p : Place)
            → instance_items (ks ++ k ∷ later) pos p ≡
            (instance_items ks pos p ++ kind_items pos (at (child p (length ks))) k) ++ rest later p
        all_items later p =
            let f : (n : ℕ × Kind) → List Item = λ n. kind_items pos (at (child p n.0)) n.1 in
            let z : 0 + length (ks ++ k ∷ []) ≡ suc (length ks) = omega (arith, count) in
            ap (λ l. instance_items l pos p) (sym (append_assoc ks (k ∷ []) later))
            ∙ (ap (flat_map f) (numbered_both (ks ++ k ∷ []) later 0 ∙ ap
            (λ j. enumerate_from 0 (ks ++ k ∷ []) ++ enumerate_from j later) z)
            ∙ (flat_map-append f (enumerate_from 0 (ks ++ k ∷ [])) (enumerate_from (suc (length ks)) later)
            ∙ ap (λ l. l ++ rest later p) (items_last ks k pos p)))

-- ---- in a loop

kinds_split : {X : Type 0} (xs : List X) (i : ℕ) (x : X) → i < length xs → x ≡ get_or xs i x
    → xs ≡ take i xs ++ x ∷ drop (suc i) xs
kinds_split [] i x l is = absurd (omega (arith, l))
kinds_split (y ∷ xs) zero x l is = ap (λ z. z ∷ xs) (sym is)
kinds_split (y ∷ xs) (suc i) x l is = ap (λ zs. y ∷ zs) (kinds_split xs i x (omega (arith, l)) is)

pub chosen_next : (old u new : State) (pos : Pos) (ks : List Kind) (i : ℕ) (k : Kind) (vs : List ℕ) (v : ℕ)
    → i < length ks → k ≡ get_or ks i k
    → AreOfKinds pos (take i ks) old u vs → IsOfKind pos k u new v → AreOfKinds pos (take (i + 1) ks) old new
    (vs ++ v ∷ [])
chosen_next old u new pos ks i k vs v l is one two =
    subst (λ ls. AreOfKinds pos ls old new (vs ++ v ∷ []))
    (sym (take_more ks i k l ∙ ap (λ y. take i ks ++ y ∷ []) (sym is)))
    (one_more_chosen old u new pos (take i ks) k vs one v two)

pub none_at : (old u new : State) (pos : Pos) (ks : List Kind) (i : ℕ) (k : Kind) (vs : List ℕ) (bad : Bad)
    → i < length ks → k ≡ get_or ks i k
    → AreOfKinds pos (take i ks) old u vs → NoneOfKind pos k u new bad → NoneOfKinds pos ks old new bad
none_at old u new pos ks i k vs bad l is one two =
    subst (λ ls. NoneOfKinds pos ls old new bad) (sym (kinds_split ks i k l is))
    (none_further old u new pos (take i ks) k vs one (drop (suc i) ks) bad two)

-- ---- of kinds as the program keeps them

pub at_view : {X Y : Type 0} (f : X → Y) (xs : List X) (i : ℕ) (x : X) → x ≡ get_or xs i x
    → f x ≡ get_or (map f xs) i (f x)
at_view f [] i x e = refl
at_view f (y ∷ xs) zero x e = ap f e
at_view f (y ∷ xs) (suc i) x e = at_view f xs i x e

pub take_all : {X : Type 0} (n : ℕ) (xs : List X) → length xs ≤ n → take n xs ≡ xs
take_all zero [] h = refl
take_all zero (x ∷ xs) h = absurd (omega (arith, h))
take_all (suc n) [] h = refl
take_all (suc n) (x ∷ xs) h = ap (λ ys. x ∷ ys) (take_all n xs (omega (arith, h)))
