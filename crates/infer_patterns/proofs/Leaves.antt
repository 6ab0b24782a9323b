-- Patterns without parts.
use Rattle.std.proofs.Common.{◌≡◌, ℕ, ◌+◌, List, [], ◌∷◌, ◌++◌, length, map, drop, get_or, ◌<◌, ◌≤◌, suc, zero, Some}
use Rattle.std.proofs.Common.{Result, Ok, Err, OnOk, refl, sym, ap, ◌∙◌, subst, arith, append_assoc, append-nil}
use Rattle.std.specs.List.{AllByRecursion, enumerate_from, range_with_len, zip}
use Rattle.elm_base.specs.declared.position.Pos.{Pos}
use Rattle.elm_canon.specs.Tree.{Pattern, Anything, Named, As, Exactly, FieldsOf, LocatedPattern}
use Rattle.elm_canon.specs.declared.tree.Literal.{Literal}
use Rattle.elm_type.specs.Types.{Name}
use Rattle.elm_type.specs.Rows.{sorted, extend}
use Rattle.type_items.specs.Items.{Place, child, Wanted, at, children, lack_items}
use Rattle.type_items.specs.Scopes.{Known}
use Rattle.type_items.specs.Patterns.{literal_type, open_record}
use Rattle.type_store.specs.Store.{Store}
use Rattle.type_store.specs.Shape.{IsStore}
use Rattle.type_walks.specs.Regions.{none, only}
use Rattle.type_walks.specs.Links.{Links, Live, AreLive, Tells}
use Rattle.type_walks.specs.Walks.{Around, Walk}
use Rattle.type_constructs.specs.Failing.{Bad, Fails}
use Rattle.type_constructs.specs.Binding.{Children, Typed}
use Rattle.type_constructs.specs.Patterns.{bound_before}
use Rattle.type_constructs.proofs.Matching.{matches_anything, matches_name, matches_literal, matches_fields, matches_as}
use Rattle.type_constructs.proofs.Matching.{matches_located}
use Rattle.type_constructs.proofs.Missing.{fails_literal, fails_fields_lack, fails_fields}
use Rattle.type_constructs.proofs.Chains.{tells_same, tells_more, tells_on, has_new, has_still}
use Rattle.infer_steps.specs.Codes.{State, Bound}
use Rattle.infer_steps.specs.Made.{IsOpened, AreOpened, IsMade, Just}
use Rattle.infer_steps.specs.Asked.{AsksSame, RefusesSame, AsksLacks, RefusesLacks}
use Rattle.infer_steps.specs.Records.{OfRecord}
use Rattle.infer_steps.proofs.Stepping.{follows_itself, follows_on, still_live, all_still_live}
use Rattle.infer_patterns.specs.Matches.{MatchesPattern, RefusesPattern, AddsNames}

pub ok_on : {A E P Q : Type 0} (r : Result A E) → OnOk r P → (P → Q) → OnOk r Q
ok_on (Ok x) p f = f p
ok_on (Err e) p f = tt

abbrev error_or : {A E : Type 0} → E → Result A E → E
error_or x (Ok a) = x
error_or x (Err e) = e

pub same_error : {A E : Type 0} (x y : E) → ◌≡◌ {A = Result A E} (Err x) (Err y) → x ≡ y
same_error x y e = ap (error_or x) e

pub err_again : {A B E : Type 0} (x y : E) → ◌≡◌ {A = Result A E} (Err x) (Err y) → ◌≡◌ {A = Result B E} (Err x) (Err y)
err_again x y e = ap (λ z. Err z) (same_error x y e)

-- ---- names

pub anything_matched : (known : Known) (pos : Pos) (v : ℕ) (s : State) → IsStore s.store
    → MatchesPattern known pos v Anything [] s s
anything_matched known pos v s whole = record {
  follows = follows_itself s whole;
  live = tt;
  matched = λ a links q t e live has. matches_anything a known pos q t s.store links;
}

pub name_matched : (known : Known) (pos : Pos) (v : ℕ) (x : Name) (s : State) → IsStore s.store → Live s.depth s.store v
    → MatchesPattern known pos v (Named x) ((x, v) ∷ []) s s
name_matched known pos v x s whole here = record {
  follows = follows_itself s whole;
  live = (here, tt);
  matched = λ a links q t e live has. matches_name a x known pos q t s.store links v has;
}

pub as_matched : (known : Known) (pos : Pos) (v : ℕ) (p : Pattern) (x : Name) (bound : List Bound) (old new : State)
    → Live old.depth old.store v
    → MatchesPattern known pos v p bound old new → MatchesPattern known pos v (As p x) ((x, v) ∷ bound) old new
as_matched known pos v p x bound old new here m = record {
  follows = m.follows;
  live = (still_live old new v m.follows here, m.live);
  matched = λ a links q t e live has.
      matches_as a p x known pos q t old.store new.store links v bound has (m.matched a links q t e live has);
}

pub as_refused : (known : Known) (pos : Pos) (v : ℕ) (p : Pattern) (x : Name) (bad : Bad) (old new : State)
    → RefusesPattern known pos v p bad old new → RefusesPattern known pos v (As p x) bad old new
as_refused known pos v p x bad old new r = record { fails = r.fails }

pub located_matched : (known : Known) (pos start : Pos) (v : ℕ) (p : Pattern) (bound : List Bound) (old new : State)
    → MatchesPattern known start v p bound old new → MatchesPattern known pos v (LocatedPattern start p) bound old new
located_matched known pos start v p bound old new m = record {
  follows = m.follows;
  live = m.live;
  matched = λ a links q t e live has.
      matches_located a start p known pos q t old.store new.store links bound (m.matched a links q t e live has);
}

pub located_refused : (known : Known) (pos start : Pos) (v : ℕ) (p : Pattern) (bad : Bad) (old new : State)
    → RefusesPattern known start v p bad old new → RefusesPattern known pos v (LocatedPattern start p) bad old new
located_refused known pos start v p bad old new r = record { fails = r.fails }

-- ---- literals

module _ (known : Known) (pos : Pos) (v : ℕ) (l : Literal) (old u new : State) (w : ℕ)
    (made : IsMade old u w (Just (literal_type l))) where
  pub literal_matched : AsksSame u new pos w v → MatchesPattern known pos v (Exactly l) [] old new
  literal_matched same = record {
    follows = follows_on old u new made.follows same.follows;
    live = tt;
    matched = λ a links q t e live has. (
        let m = made.typed a links (literal_type l) e live refl in
        matches_literal a l known pos q t old.store u.store new.store links w live m
        (same.walk a m.after (literal_type l) t (e ∙ sym made.follows.depth) (m.walk.live live) m.has
        (has_still m.tells has)));
  }

  pub literal_refused : (bad : Bad) → RefusesSame u new pos w v bad → RefusesPattern known pos v (Exactly l) bad old new
  literal_refused bad refuses = record {
    fails = λ a links q t e live has. (
        let m = made.typed a links (literal_type l) e live refl in
        fails_literal a l known pos q t old.store u.store new.store links w bad m
        (refuses.fails a m.after none (literal_type l) t [] m.has (has_still m.tells has)));
  }

-- ---- fields of records

fields_zip : (p : Place) (i : ℕ) (xs : List Name) → zip xs (map (λ j. at (child p j)) (range_with_len i (length xs)))
    ≡ map (λ x. (x.1, at (child p x.0))) (enumerate_from i xs)
fields_zip p i [] = refl
fields_zip p i (x ∷ xs) = ap (λ l. (x, at (child p i)) ∷ l) (fields_zip p (i + 1) xs)

record_type : (xs : List Name) (n : ℕ) (p : Place) (rest : Wanted) → n ≡ length xs
    → open_record xs p rest ≡ extend (sorted (zip xs (children p n))) rest
record_type xs n p rest count =
    ap (λ l. extend (sorted l) rest) (sym (ap (λ k. zip xs (children p k)) count ∙ fields_zip p 0 xs))

fields_live : (d : ℕ) (s : Store) (xs : List Name) (vs : List ℕ) (rest : List Bound) → AllByRecursion (Live d s) vs
    → AllByRecursion (λ (b : Bound). Live d s b.1) rest
    → AllByRecursion (λ (b : Bound). Live d s b.1) (bound_before xs vs rest)
fields_live d s [] vs rest h k = k
fields_live d s (x ∷ xs) [] rest h k = k
fields_live d s (x ∷ xs) (v ∷ vs) rest h k = fields_live d s xs vs ((x, v) ∷ rest) h.1 (h.0, k)

pub bound_over : (xs : List Name) (vs : List ℕ) (rest : List Bound)
    → bound_before xs vs rest ≡ bound_before xs vs [] ++ rest
bound_over [] vs rest = refl
bound_over (x ∷ xs) [] rest = refl
bound_over (x ∷ xs) (v ∷ vs) rest =
    bound_over xs vs ((x, v) ∷ rest)
    ∙ sym (ap (λ l. l ++ rest) (bound_over xs vs ((x, v) ∷ [])) ∙ append_assoc (bound_before xs vs []) ((x, v) ∷ [])
    rest)

module _ (known : Known) (pos : Pos) (v : ℕ) (xs : List Name) (old s1 : State) (rest : ℕ)
    (opened : IsOpened old s1 rest) where
  pub fields_lacking : (new : State) (bad : Bad) → RefusesLacks s1 new pos rest xs bad
      → RefusesPattern known pos v (FieldsOf xs) bad old new
  fields_lacking new bad refuses = record {
    fails = λ a links q t e live has. (
        let o = opened.walk a links (child q 0) e live in
        fails_fields_lack a xs known pos q t old.store s1.store new.store links rest bad o
        (subst (λ l. Fails a s1.store ((rest, at (child q 0)) ∷ links) none l bad new.store)
        (append-nil (lack_items pos (at (child q 0)) xs))
        (refuses.fails a ((rest, at (child q 0)) ∷ links) none (at (child q 0)) [] (e ∙ sym opened.follows.depth)
        (o.live live)
        (has_new rest (at (child q 0)) links))));
  }

  module _ (s2 : State) (lacks : AsksLacks s1 s2 pos rest xs) where
    module _ (s3 s4 : State) (vs : List ℕ) (w : ℕ) (fields : AreOpened s2 s3 vs) (count : length vs ≡ length xs)
        (made : IsMade s3 s4 w (OfRecord xs vs (Some rest))) where
      record Fielded (a : Around) (links : Links) (q : Place) : Type 0 where
        open_walk : Walk a (only (child q 0)) [] old.store links s1.store ((rest, at (child q 0)) ∷ links)
        lack_walk : Walk a none (lack_items pos (at (child q 0)) xs) s1.store ((rest, at (child q 0)) ∷ links) s2.store
            ((rest, at (child q 0)) ∷ links)
        own : Children a (child q 1) s2.store ((rest, at (child q 0)) ∷ links) s3.store vs
        typed : Typed a (open_record xs (child q 1) (at (child q 0))) s3.store own.after s4.store w
        depth : a.depth ≡ s4.depth
        live : AreLive a.depth s4.store typed.after
        tells : Tells typed.after links

      fielded : (a : Around) (links : Links) (q : Place) → a.depth ≡ old.depth → AreLive a.depth old.store links
          → Fielded a links q
      fielded a links q e live =
          let first = (rest, at (child q 0)) ∷ links in
          let f0 = opened.walk a links (child q 0) e live in
          let l1 = f0.live live in
          let e1 = e ∙ sym opened.follows.depth in
          let f1 = lacks.walk a first (at (child q 0)) e1 l1 (has_new rest (at (child q 0)) links) in
          let l2 = f1.live l1 in
          let e2 = e1 ∙ sym lacks.follows.depth in
          let c = fields.children a first (child q 1) e2 l2 in
          let l3 = c.walk.live l2 in
          let e3 = e2 ∙ sym fields.follows.depth in
          let m = made.typed a c.after (open_record xs (child q 1) (at (child q 0))) e3 l3 (record {
            types = children (child q 1) (length vs);
            rest = Some (at (child q 0));
            has = c.each;
            rest_has = has_still c.tells (has_new rest (at (child q 0)) links);
            is = record_type xs (length vs) (child q 1) (at (child q 0)) count;
          }) in
          record {
            open_walk = f0;
            lack_walk = f1;
            own = c;
            typed = m;
            depth = e3 ∙ sym made.follows.depth;
            live = m.walk.live l3;
            tells = tells_on m.tells (tells_on c.tells (tells_more rest (at (child q 0)) (tells_same links)));
          }

      pub fields_matched : (new : State) → AsksSame s4 new pos w v → MatchesPattern known pos v (FieldsOf xs)
          (bound_before xs vs []) old new
      fields_matched new same =
          let after = follows_on s3 s4 new made.follows same.follows in
          record {
            follows = follows_on old s1 new opened.follows
                (follows_on s1 s2 new lacks.follows (follows_on s2 s3 new fields.follows after));
            live = fields_live new.depth new.store xs vs [] (all_still_live s3 new vs after fields.live) tt;
            matched = λ a links q t e live has. (
                let f = fielded a links q e live in
                matches_fields a xs known pos q t old.store s1.store s2.store s3.store s4.store new.store links rest vs
                w live f.open_walk f.lack_walk f.own count
                f.typed
                (same.walk a f.typed.after (open_record xs (child q 1) (at (child q 0))) t f.depth f.live f.typed.has
                (has_still f.tells has)));
          }

      pub fields_refused : (new : State) (bad : Bad) → RefusesSame s4 new pos w v bad
          → RefusesPattern known pos v (FieldsOf xs) bad old new
      fields_refused new bad refuses = record {
        fails = λ a links q t e live has. (
            let f = fielded a links q e live in
            fails_fields a xs known pos q t old.store s1.store s2.store s3.store s4.store new.store links rest vs w bad
            f.open_walk f.lack_walk f.own f.typed
            (refuses.fails a f.typed.after none (open_record xs (child q 1) (at (child q 0))) t [] f.typed.has
            (has_still f.tells has)));
      }

-- the names were bound, and those before them
pub adds_fields : {P : List Bound → Type 0} (xs : List Name) (vs : List ℕ) (before after : List Bound)
    → after ≡ bound_before xs vs before
    → P (bound_before xs vs []) → AddsNames P before after
adds_fields xs vs before after is so =
    record { own = bound_before xs vs []; so = so; is = is ∙ bound_over xs vs before }

-- one more of them is bound
bound_later : (xs : List Name) (vs : List ℕ) (i : ℕ) (x : Name) (before after : List Bound) → i < length xs
    → i < length vs → x ≡ get_or xs i x
    → after ≡ (x, get_or vs i 0) ∷ before
    → bound_before (drop (suc i) xs) (drop (suc i) vs) after ≡ bound_before (drop i xs) (drop i vs) before
bound_later [] vs i x before after lx lv isx is = absurd (omega (arith, lx))
bound_later (y ∷ xs) [] i x before after lx lv isx is = absurd (omega (arith, lv))
bound_later (y ∷ xs) (w ∷ vs) zero x before after lx lv isx is =
    ap (bound_before xs vs) (is ∙ ap (λ z. (z, w) ∷ before) isx)
bound_later (y ∷ xs) (w ∷ vs) (suc i) x before after lx lv isx is =
    bound_later xs vs i x before after (omega (arith, lx)) (omega (arith, lv)) isx is

pub bound_next : (xs : List Name) (vs : List ℕ) (i : ℕ) (x : Name) (before after : List Bound) → i < length xs
    → i < length vs → x ≡ get_or xs i x
    → after ≡ (x, get_or vs i 0) ∷ before
    → bound_before (drop (i + 1) xs) (drop (i + 1) vs) after ≡ bound_before (drop i xs) (drop i vs) before
bound_next xs vs i x before after lx lv isx is =
    let e : i + 1 ≡ suc i = omega arith in
    ap (λ k. bound_before (drop k xs) (drop k vs) after) e ∙ bound_later xs vs i x before after lx lv isx is

pub bound_end : (xs : List Name) (vs : List ℕ) (i : ℕ) (before : List Bound) → length xs ≤ i
    → bound_before (drop i xs) vs before ≡ before
bound_end [] vs zero before l = refl
bound_end [] vs (suc i) before l = refl
bound_end (x ∷ xs) vs zero before l = absurd (omega (arith, l))
bound_end (x ∷ xs) vs (suc i) before l = bound_end xs vs i before (omega (arith, l))
