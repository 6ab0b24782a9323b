-- A row that is found is a special case, is of the rows' type, and overlaps none of them.
use Rattle.std.proofs.Common.{◌≡◌, ℕ, zero, suc, List, [], ◌∷◌, ◌++◌, Bool, true, false, ◌⊎◌, inl, inr, if◌then◌else◌, Option, Some, None, map}
use Rattle.std.proofs.Common.{⊎_elim, refl, sym, ap, ◌∙◌, subst}
use Rattle.std.specs.Prelude.{option_map}
use Rattle.std.specs.List.{Contains}
use Rattle.elm_canon.specs.Unions.{Union, alternatives}
use Rattle.elm_canon.specs.declared.unions.Alternative.{Alternative}
use Rattle.pattern_check.specs.Shapes.{Head, Literally, OtherLiteral, Constructor, Open, Begins, Shapes, NoShape}
use Rattle.pattern_check.specs.Shapes.{MoreShape, width, arity_of, IsKnown, AreProper, AllFit, all_overlap, AreSpecial}
use Rattle.pattern_check.specs.Missing.{has_head, with_each, some_open}
use Rattle.pattern_check.specs.Missing.{joined, opens, front, back, rest_of, row_where, rows_where, heads, candidates}
use Rattle.pattern_check.specs.Missing.{or_else, first_of, built, missing_where, missing_by, missing_at, missing_in}
use Rattle.pattern_check.proofs.Members.{no_member, first_member, later_member, joined_cases, only_member, map_member}
use Rattle.pattern_check.proofs.Members.{member_map}
use Rattle.pattern_check.proofs.Heads.{head_same, member_is_one}
use Rattle.pattern_check.proofs.Rows.{joined_cut, special_cut, fit_rest, fits_open, proper_join, proper_cut, width_opens}
use Rattle.pattern_check.proofs.Rows.{opens_proper}
use Rattle.pattern_check.proofs.Where.{some_is, over, overlap_where, as_where, as_proper, fit_where, AlikeFirst, fit_back}
use Rattle.pattern_check.proofs.Where.{in_where, where_in, in_heads, heads_in, Table, table_where, table_rest}

-- it is of the type of each row that is of the type of all the others
pub record Found (q : Shapes) (rows : List Shapes) (s : Shapes) : Type 0 where
  pub special : AreSpecial q s
  pub proper : AreProper s
  pub avoids : (r : Shapes) → Contains rows r → all_overlap r s ≡ false
  pub fits : (w : Shapes) → AreProper w → AllFit w q → ((r : Shapes) → Contains rows r → AllFit w r) → AllFit w s

-- ---- candidates

alike_first : (w : Shapes) (g : Head) (ps r : Shapes) → AllFit w (MoreShape (Begins g ps) r) → AlikeFirst w g
alike_first NoShape g ps r f = f
alike_first (MoreShape Open w) g ps r f = tt
alike_first (MoreShape (Begins h vs) w) g ps r f = f.0.0

pub alike_heads : (w : Shapes) (rows : List Shapes) → ((r : Shapes) → Contains rows r → AllFit w r) → (g : Head) →
    Contains (heads rows) g → AlikeFirst w g
alike_heads w rows f g m =
    let k = in_heads rows g m in alike_first w g k.0 k.1 (f (MoreShape (Begins g k.0) k.1) k.2)

same_union : (w : Shapes) (u : Union) (a b : Alternative) → AlikeFirst w (Constructor u a) →
    AlikeFirst w (Constructor u b)
same_union NoShape u a b h = h
same_union (MoreShape Open w) u a b h = tt
same_union (MoreShape (Begins (Literally l) vs) w) u a b h = h
same_union (MoreShape (Begins OtherLiteral vs) w) u a b h = h
same_union (MoreShape (Begins (Constructor v c) vs) w) u a b h = h

other_literal : (w : Shapes) (l : _) → AlikeFirst w (Literally l) → AlikeFirst w OtherLiteral
other_literal NoShape l h = h
other_literal (MoreShape Open w) l h = tt
other_literal (MoreShape (Begins (Literally m) vs) w) l h = tt
other_literal (MoreShape (Begins OtherLiteral vs) w) l h = h
other_literal (MoreShape (Begins (Constructor v c) vs) w) l h = h

pub known_heads : (rows : List Shapes) → ((r : Shapes) → Contains rows r → AreProper r) → (g : Head) →
    Contains (heads rows) g → IsKnown g
known_heads rows p g m = let k = in_heads rows g m in (p (MoreShape (Begins g k.0) k.1) k.2).0.0

-- each is one of those that are kept, or of the others
each_from : (kept hs : List Head) (c : Head) → Contains (with_each kept hs) c → Contains kept c ⊎ Contains hs c
each_from kept [] c m = inl m
each_from kept (h ∷ hs) c m = by (has_head h kept) (λ more. each_from more hs c) m
  where
    by : (b : Bool) → ((more : List Head) → Contains (with_each more hs) c → Contains more c ⊎ Contains hs c) →
        Contains (with_each (if b then kept else kept ++ h ∷ []) hs) c → Contains kept c ⊎ Contains (h ∷ hs) c
    by true ih n = ⊎_elim (λ k. inl k) (λ k. inr (later_member h c hs k)) (ih kept n)
    by false ih n =
        ⊎_elim
        (λ k. ⊎_elim (λ l. inl l) (λ l. inr (subst (Contains (h ∷ hs)) (only_member h c l) (first_member h hs))) (joined_cases kept (h ∷ []) c k))
        (λ k. inr (later_member h c hs k)) (ih (kept ++ h ∷ []) n)

-- what holds of the heads and of the others that are tried holds of each candidate
tried : (P : Head → Type 0) (rows : List Shapes) (h : Head) (hs : List Head) → heads rows ≡ h ∷ hs →
    ((g : Head) → Contains (heads rows) g → P g) →
    ((u : Union) (a b : Alternative) → P (Constructor u a) → Contains (alternatives u) b → P (Constructor u b)) →
    ((l : _) → P (Literally l) → P OtherLiteral) → (c : Head) → Contains (candidates h hs) c → P c
tried P rows h hs e f con oth c m = at h (f h (subst (λ z. Contains z h) (sym e) (first_member h hs))) (λ g k. f g (subst (λ z. Contains z g) (sym e) k)) m
  where
    literals : (h : Head) → P OtherLiteral → ((g : Head) → Contains (h ∷ hs) g → P g) →
        Contains (with_each [] (h ∷ hs) ++ OtherLiteral ∷ []) c → P c
    literals h o k m =
        ⊎_elim (λ l. ⊎_elim (λ n. absurd (no_member c n)) (λ n. k c n) (each_from [] (h ∷ hs) c l))
        (λ r. subst P (only_member OtherLiteral c r) o) (joined_cases (with_each [] (h ∷ hs)) (OtherLiteral ∷ []) c m)

    at : (h : Head) → P h → ((g : Head) → Contains (h ∷ hs) g → P g) → Contains (candidates h hs) c → P c
    at (Literally l) own k m = literals (Literally l) (oth l own) k m
    at OtherLiteral own k m = literals OtherLiteral own k m
    at (Constructor u a) own k m =
        let r = map_member (Constructor u) (alternatives u) c m in subst P r.2 (con u a r.0 own r.1)

known_candidate : (rows : List Shapes) (h : Head) (hs : List Head) → heads rows ≡ h ∷ hs →
    ((r : Shapes) → Contains rows r → AreProper r) → (c : Head) → Contains (candidates h hs) c → IsKnown c
known_candidate rows h hs e p =
    tried IsKnown rows h hs e (known_heads rows p) (λ u a b k m. member_is_one (alternatives u) b m) (λ l k. tt)

alike_candidate : (w : Shapes) (rows : List Shapes) (h : Head) (hs : List Head) → heads rows ≡ h ∷ hs →
    ((r : Shapes) → Contains rows r → AllFit w r) → (c : Head) → Contains (candidates h hs) c → AlikeFirst w c
alike_candidate w rows h hs e f =
    tried (AlikeFirst w) rows h hs e (alike_heads w rows f) (λ u a b k m. same_union w u a b k) (other_literal w)

-- ---- a column that is looked at

step_sound : (c : Head) (q q2 : Shapes) (rows : List Shapes) (s : Shapes) → IsKnown c → Table q rows →
    row_where c q ≡ Some q2 → width (front (arity_of c) s) ≡ arity_of c → AreSpecial q (built c s) →
    ((w : Shapes) → AllFit w q → ((r : Shapes) → Contains rows r → AllFit w r) → AlikeFirst w c) →
    Found q2 (rows_where c rows) s → Found q rows (built c s)
step_sound c q q2 rows s known t e wd special alike found =
    let f = front (arity_of c) s in
    let b = back (arity_of c) s in
    let cut : joined f b ≡ s = joined_cut (arity_of c) s in
    record {
      special = special;
      proper = let p = proper_cut f b (subst AreProper (sym cut) found.proper) in ((known, (wd, p.0)), p.1);
      avoids = λ r m.
          overlap_where c f b wd r (t.proper r m) ∙ ap (over (row_where c r)) cut ∙ none r m (row_where c r) refl;
      fits = λ w pw fq fr.
          fit_back c f b wd w pw (alike w fq fr) (subst (AllFit (as_where c w)) (sym cut)
          (found.fits (as_where c w) (as_proper c w pw) (fit_where c w q q2 pw t.own e fq)
          (λ r2 m. let k = in_where c rows r2 m in fit_where c w k.0 r2 pw (t.proper k.0 k.1) k.2 (fr k.0 k.1))));
    }
  where
    none : (r : Shapes) → Contains rows r → (o : Option Shapes) → row_where c r ≡ o → over o s ≡ false
    none r m None k = refl
    none r m (Some r2) k = found.avoids r2 (where_in c rows r r2 m k)

-- ---- a column that is passed over

passed_sound : (q : Shapes) (rows : List Shapes) (z : Shapes) → heads rows ≡ [] → Found q (map rest_of rows) z →
    Found (MoreShape Open q) rows (MoreShape Open z)
passed_sound q rows z e f = record {
  special = (tt, f.special);
  proper = (tt, f.proper);
  avoids = avoids;
  fits = fits;
}
  where
    avoids : (r : Shapes) → Contains rows r → all_overlap r (MoreShape Open z) ≡ false
    avoids NoShape m = refl
    avoids (MoreShape Open r) m = f.avoids r (member_map rest_of rows (MoreShape Open r) m)
    avoids (MoreShape (Begins g ps) r) m = absurd (no_member g (subst (λ hs. Contains hs g) e (heads_in rows g ps r m)))

    fits : (w : Shapes) → AreProper w → AllFit w (MoreShape Open q) →
        ((r : Shapes) → Contains rows r → AllFit w r) → AllFit w (MoreShape Open z)
    fits NoShape pw fq fr = fq
    fits (MoreShape x w) pw fq fr = (
      fits_open x,
      f.fits w pw.1 fq.1
          (λ r2 m. let k = map_member rest_of rows r2 m in subst (AllFit w) k.2 (fit_rest (MoreShape x w) k.0 (fr k.0 k.1))),
    )

-- ---- all columns

first_inverse : (try : Head → Option Shapes) (cs : List Head) (s : Shapes) → first_of try cs ≡ Some s →
    (c : Head) × Contains cs c × (try c ≡ Some s)
first_inverse try [] s e = absurd cc
first_inverse try (c ∷ cs) s e = by (try c) refl (first_inverse try cs s) e
  where
    by : (o : Option Shapes) → try c ≡ o →
        (first_of try cs ≡ Some s → (d : Head) × Contains cs d × (try d ≡ Some s)) →
        or_else o (first_of try cs) ≡ Some s → (d : Head) × Contains (c ∷ cs) d × (try d ≡ Some s)
    by None k ih f = let r = ih f in (r.0, later_member c r.0 cs r.1, r.2)
    by (Some x) k ih f = (c, first_member c cs, k ∙ f)

module _ (further : Shapes → List Shapes → Option Shapes)
    (sound : (q : Shapes) (rows : List Shapes) (s : Shapes) → Table q rows → further q rows ≡ Some s → Found q rows s) where
  where_sound : (c : Head) (q q2 : Shapes) (rows : List Shapes) (s : Shapes) → IsKnown c → Table q rows →
      row_where c q ≡ Some q2 → AreProper q2 →
      ((z : Shapes) → AreSpecial q2 z → (width (front (arity_of c) z) ≡ arity_of c) × AreSpecial q (built c z)) →
      ((w : Shapes) → AllFit w q → ((r : Shapes) → Contains rows r → AllFit w r) → AlikeFirst w c) →
      missing_where further c q2 rows ≡ Some s → Found q rows s
  where_sound c q q2 rows s known t e p2 special alike k = by (further q2 (rows_where c rows)) refl k
    where
      by : (o : Option Shapes) → further q2 (rows_where c rows) ≡ o → option_map (built c) o ≡ Some s → Found q rows s
      by None f k = absurd cc
      by (Some z) f k =
          let found = sound q2 (rows_where c rows) z (table_where c q q2 rows t p2) f in
          let sp = special z found.special in
          subst (Found q rows) (some_is k) (step_sound c q q2 rows z known t e sp.0 sp.1 alike found)

  open_sound : (q : Shapes) (rows : List Shapes) (s : Shapes) → Table (MoreShape Open q) rows → (hs : List Head) →
      heads rows ≡ hs → (passed : Option Shapes) →
      ((z : Shapes) → passed ≡ Some z → Found q (map rest_of rows) z) → missing_by further q rows hs passed ≡ Some s →
      Found (MoreShape Open q) rows s
  open_sound q rows s t [] e None ih k = absurd cc
  open_sound q rows s t [] e (Some z) ih k =
      subst (Found (MoreShape Open q) rows) (some_is k) (passed_sound q rows z e (ih z refl))
  open_sound q rows s t (h ∷ hs) e passed ih k =
      let try = λ (c : Head). missing_where further c (joined (opens (arity_of c)) q) rows in
      let r = first_inverse try (candidates h hs) s k in
      let n = arity_of r.0 in
      where_sound r.0 (MoreShape Open q) (joined (opens n) q) rows s (known_candidate rows h hs e t.proper r.0 r.1) t refl
      (proper_join (opens n) q (opens_proper n) t.own.1)
      (λ z m. let x = special_cut (opens n) q z m in
      subst (λ i. (width (front i z) ≡ i) × AreSpecial (MoreShape Open q) (MoreShape (Begins r.0 (front i z)) (back i z)))
      (width_opens n) (x.0, (tt, x.2)))
      (λ w fq fr. alike_candidate w rows h hs e fr r.0 r.1) r.2

  at_sound : (q : Shapes) (rows : List Shapes) (s : Shapes) → Table q rows → missing_at further q rows ≡ Some s →
      Found q rows s
  at_sound NoShape [] s t e =
      subst (Found NoShape []) (some_is e)
      (record { special = tt; proper = tt; avoids = λ r m. absurd (no_member r m); fits = λ w p f g. f })
  at_sound NoShape (r ∷ rows) s t e = absurd cc
  at_sound (MoreShape Open q) rows s t e =
      open_sound q rows s t (heads rows) refl (missing_at further q (map rest_of rows))
      (λ z k. at_sound q (map rest_of rows) z (table_rest Open q rows t) k) e
  at_sound (MoreShape (Begins h ps) q) rows s t e =
      where_sound h (MoreShape (Begins h ps) q) (joined ps q) rows s t.own.0.0 t
      (ap (λ b. if b then Some (joined ps q) else None) (head_same h)) (proper_join ps q t.own.0.1.1 t.own.1)
      (λ z m. let x = special_cut ps q z m in
      subst (λ i. (width (front i z) ≡ i) × AreSpecial (MoreShape (Begins h ps) q) (MoreShape (Begins h (front i z)) (back i z)))
      t.own.0.1.0 (x.0, ((refl, x.1), x.2)))
      (λ w fq fr. alike_first w h ps q fq) e

pub in_sound : (n : ℕ) (q : Shapes) (rows : List Shapes) (s : Shapes) → Table q rows → missing_in n q rows ≡ Some s →
    Found q rows s
in_sound zero q rows s t e = absurd cc
in_sound (suc n) q rows s t e = by (some_open rows) (λ k. at_sound (missing_in n) (in_sound n) q rows s t k) e
  where
    by : (b : Bool) → (missing_at (missing_in n) q rows ≡ Some s → Found q rows s) →
        (if b then None else missing_at (missing_in n) q rows) ≡ Some s → Found q rows s
    by true ih k = absurd cc
    by false ih k = ih k
