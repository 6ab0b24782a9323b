-- What becomes of a row where its first part begins with a head.
use Rattle.std.proofs.Common.{◌≡◌, List, [], ◌∷◌, Bool, true, false, ◌&&◌, if◌then◌else◌, Option, Some, None, map, ⊎_elim}
use Rattle.std.proofs.Common.{refl, sym, ap, ◌∙◌, subst}
use Rattle.std.specs.List.{Contains}
use Rattle.std.proofs.lemmas.Bool.{false≢true}
use Rattle.pattern_check.specs.Shapes.{Head, Shape, Open, Begins, Shapes, NoShape, MoreShape, same_head, width}
use Rattle.pattern_check.specs.Shapes.{arity_of, IsAlike, AreProper, AllFit, all_overlap}
use Rattle.pattern_check.specs.Missing.{joined, opens, rest_of, row_where, put_before, rows_where, heads}
use Rattle.pattern_check.proofs.Members.{no_member, first_member, later_member, member_cases, map_member}
use Rattle.pattern_check.proofs.Heads.{head_joins, same_arity}
use Rattle.pattern_check.proofs.Rows.{fit_join, fit_cut, fit_rest, proper_join, proper_rest, overlap_join, width_opens}
use Rattle.pattern_check.proofs.Rows.{opens_fit, fit_opens, opens_proper, opens_overlap}

pub some_is : {X : Type 0} {x y : X} → Some x ≡ Some y → x ≡ y
some_is e = cc

-- ---- one row

-- the two forms of a row that begins so
pub where_cases : (h : Head) (P : Shapes → Shapes → Type 0) →
    ((r : Shapes) → P (MoreShape Open r) (joined (opens (arity_of h)) r)) →
    ((g : Head) (ps r : Shapes) → same_head g h ≡ true → P (MoreShape (Begins g ps) r) (joined ps r)) →
    (r r2 : Shapes) → row_where h r ≡ Some r2 → P r r2
where_cases h P a b NoShape r2 e = absurd cc
where_cases h P a b (MoreShape Open r) r2 e = subst (P (MoreShape Open r)) (some_is e) (a r)
where_cases h P a b (MoreShape (Begins g ps) r) r2 e = by (same_head g h) refl e
  where
    by : (t : Bool) → same_head g h ≡ t → (if t then Some (joined ps r) else None) ≡ Some r2 →
        P (MoreShape (Begins g ps) r) r2
    by true k f = subst (P (MoreShape (Begins g ps) r)) (some_is f) (b g ps r k)
    by false k f = absurd cc

abbrev pub over : Option Shapes → Shapes → Bool
over None s = false
over (Some r) s = all_overlap r s

pub overlap_where : (h : Head) (ss d : Shapes) → width ss ≡ arity_of h → (r : Shapes) → AreProper r →
    all_overlap r (MoreShape (Begins h ss) d) ≡ over (row_where h r) (joined ss d)
overlap_where h ss d w NoShape p = refl
overlap_where h ss d w (MoreShape Open r) p =
    sym (overlap_join (opens (arity_of h)) r ss d (width_opens (arity_of h) ∙ sym w)
    ∙ ap (λ z. z && all_overlap r d) (opens_overlap (arity_of h) ss w))
overlap_where h ss d w (MoreShape (Begins g ps) r) p = by (same_head g h) refl
  where
    by : (t : Bool) → same_head g h ≡ t →
        ((t && all_overlap ps ss) && all_overlap r d) ≡ over (if t then Some (joined ps r) else None) (joined ss d)
    by true e = sym (overlap_join ps r ss d (p.0.1.0 ∙ same_arity g h e ∙ sym w))
    by false e = refl

pub proper_where : (h : Head) (r r2 : Shapes) → row_where h r ≡ Some r2 → AreProper r → AreProper r2
proper_where h =
    where_cases h (λ r r2. AreProper r → AreProper r2)
    (λ r p. proper_join (opens (arity_of h)) r (opens_proper (arity_of h)) p.1)
    (λ g ps r e p. proper_join ps r p.0.1.1 p.1)

pub fit_forward : (h : Head) (ss d : Shapes) → width ss ≡ arity_of h → (r r2 : Shapes) → row_where h r ≡ Some r2 →
    AllFit r (MoreShape (Begins h ss) d) → AllFit r2 (joined ss d)
fit_forward h ss d w =
    where_cases h (λ r r2. AllFit r (MoreShape (Begins h ss) d) → AllFit r2 (joined ss d))
    (λ r f. fit_join (opens (arity_of h)) r ss d (opens_fit (arity_of h) ss w) f.1)
    (λ g ps r e f. fit_join ps r ss d (f.0.1 e) f.1)

-- ---- a row of which nothing is dropped: where it begins otherwise the parts of h are open

abbrev or_open : Head → Shapes → Option Shapes → Shapes
or_open h w None = joined (opens (arity_of h)) (rest_of w)
or_open h w (Some r) = r

abbrev pub as_where : Head → Shapes → Shapes
as_where h w = or_open h w (row_where h w)

as_cases : (h : Head) (P : Shapes → Shapes → Type 0) →
    P NoShape (joined (opens (arity_of h)) NoShape) →
    ((r : Shapes) → P (MoreShape Open r) (joined (opens (arity_of h)) r)) →
    ((g : Head) (ps r : Shapes) → same_head g h ≡ true → P (MoreShape (Begins g ps) r) (joined ps r)) →
    ((g : Head) (ps r : Shapes) → same_head g h ≡ false →
    P (MoreShape (Begins g ps) r) (joined (opens (arity_of h)) r)) →
    (w : Shapes) → P w (as_where h w)
as_cases h P n a b c NoShape = n
as_cases h P n a b c (MoreShape Open r) = a r
as_cases h P n a b c (MoreShape (Begins g ps) r) = by (same_head g h) refl
  where
    by : (t : Bool) → same_head g h ≡ t →
        P (MoreShape (Begins g ps) r) (or_open h (MoreShape (Begins g ps) r) (if t then Some (joined ps r) else None))
    by true e = b g ps r e
    by false e = c g ps r e

pub as_proper : (h : Head) (w : Shapes) → AreProper w → AreProper (as_where h w)
as_proper h =
    let n = arity_of h in
    as_cases h (λ w w2. AreProper w → AreProper w2) (λ p. proper_join (opens n) NoShape (opens_proper n) tt)
    (λ r p. proper_join (opens n) r (opens_proper n) p.1) (λ g ps r e p. proper_join ps r p.0.1.1 p.1)
    (λ g ps r e p. proper_join (opens n) r (opens_proper n) p.1)

abbrev FitGoal : Head → Shapes → Shapes → Type 0
FitGoal h w w2 = (r r2 : Shapes) → row_where h r ≡ Some r2 → AreProper w → AreProper r → AllFit w r → AllFit w2 r2

pub fit_where : (h : Head) (w r r2 : Shapes) → AreProper w → AreProper r → row_where h r ≡ Some r2 → AllFit w r →
    AllFit (as_where h w) r2
fit_where h w r r2 pw pr e f = as_cases h (FitGoal h) none unasked same other w r r2 e pw pr f
  where
    opened : (w r r2 : Shapes) → row_where h r ≡ Some r2 → AreProper r → AllFit w (rest_of r) →
        AllFit (joined (opens (arity_of h)) w) r2
    opened w =
        where_cases h (λ r r2. AreProper r → AllFit w (rest_of r) → AllFit (joined (opens (arity_of h)) w) r2)
        (λ r p f. fit_join (opens (arity_of h)) w (opens (arity_of h)) r (opens_fit (arity_of h) (opens (arity_of h)) (width_opens (arity_of h))) f)
        (λ g ps r e p f. fit_join (opens (arity_of h)) w ps r (opens_fit (arity_of h) ps (p.0.1.0 ∙ same_arity g h e)) f)

    none : FitGoal h NoShape (joined (opens (arity_of h)) NoShape)
    none r r2 e pw pr f = opened NoShape r r2 e pr (fit_rest NoShape r f)

    unasked : (w : Shapes) → FitGoal h (MoreShape Open w) (joined (opens (arity_of h)) w)
    unasked w r r2 e pw pr f = opened w r r2 e pr (fit_rest (MoreShape Open w) r f)

    same : (g : Head) (ps w : Shapes) → same_head g h ≡ true → FitGoal h (MoreShape (Begins g ps) w) (joined ps w)
    same g vs w k r r2 e pw pr f =
        where_cases h (λ r r2. AllFit (MoreShape (Begins g vs) w) r → AllFit (joined vs w) r2)
        (λ r f. fit_join vs w (opens (arity_of h)) r (fit_opens (arity_of h) vs (pw.0.1.0 ∙ same_arity g h k)) f.1)
        (λ g2 ps r e f. fit_join vs w ps r (f.0.1 (head_joins g g2 h k e)) f.1) r r2 e f

    other : (g : Head) (ps w : Shapes) → same_head g h ≡ false →
        FitGoal h (MoreShape (Begins g ps) w) (joined (opens (arity_of h)) w)
    other g vs w k r r2 e pw pr f = opened w r r2 e pr (fit_rest (MoreShape (Begins g vs) w) r f)

-- the first part of the row may be of the type of the head
abbrev pub AlikeFirst : Shapes → Head → Type 0
AlikeFirst NoShape h = ⊥
AlikeFirst (MoreShape Open r) h = Unit {0}
AlikeFirst (MoreShape (Begins g ps) r) h = IsAlike g h

pub fit_back : (h : Head) (ss d : Shapes) → width ss ≡ arity_of h → (w : Shapes) → AreProper w → AlikeFirst w h →
    AllFit (as_where h w) (joined ss d) → AllFit w (MoreShape (Begins h ss) d)
fit_back h ss d e =
    let n = arity_of h in
    as_cases h (λ w w2. AreProper w → AlikeFirst w h → AllFit w2 (joined ss d) → AllFit w (MoreShape (Begins h ss) d))
    (λ p a f. absurd a)
    (λ r p a f. (tt, (fit_cut (opens n) r ss d (width_opens n ∙ sym e) f).1))
    (λ g ps r k p a f. let c = fit_cut ps r ss d (p.0.1.0 ∙ same_arity g h k ∙ sym e) f in ((a, λ _. c.0), c.1))
    (λ g ps r k p a f. ((a, λ t. absurd (false≢true (sym k ∙ t))), (fit_cut (opens n) r ss d (width_opens n ∙ sym e) f).1))

-- ---- all rows

pub in_where : (h : Head) (rows : List Shapes) (r2 : Shapes) → Contains (rows_where h rows) r2 →
    (r : Shapes) × Contains rows r × (row_where h r ≡ Some r2)
in_where h [] r2 m = absurd (no_member r2 m)
in_where h (r ∷ rows) r2 m = by (row_where h r) refl (in_where h rows r2) m
  where
    by : (o : Option Shapes) → row_where h r ≡ o →
        (Contains (rows_where h rows) r2 → (q : Shapes) × Contains rows q × (row_where h q ≡ Some r2)) →
        Contains (put_before o (rows_where h rows)) r2 →
        (q : Shapes) × Contains (r ∷ rows) q × (row_where h q ≡ Some r2)
    by None e ih m = let k = ih m in (k.0, later_member r k.0 rows k.1, k.2)
    by (Some r3) e ih m =
        ⊎_elim (λ k. (r, first_member r rows, e ∙ ap Some k)) (λ l. let k = ih l in (k.0, later_member r k.0 rows k.1, k.2))
        (member_cases r3 r2 (rows_where h rows) m)

put_later : (o : Option Shapes) (rows : List Shapes) (r : Shapes) → Contains rows r → Contains (put_before o rows) r
put_later None rows r m = m
put_later (Some q) rows r m = later_member q r rows m

pub where_in : (h : Head) (rows : List Shapes) (r r2 : Shapes) → Contains rows r → row_where h r ≡ Some r2 →
    Contains (rows_where h rows) r2
where_in h [] r r2 m e = absurd (no_member r m)
where_in h (q ∷ rows) r r2 m e =
    ⊎_elim
    (λ k. subst (λ o. Contains (put_before o (rows_where h rows)) r2) (sym (ap (row_where h) k ∙ e)) (first_member r2 (rows_where h rows)))
    (λ l. put_later (row_where h q) (rows_where h rows) r2 (where_in h rows r r2 l e)) (member_cases q r rows m)

-- ---- what rows begin with

pub in_heads : (rows : List Shapes) (g : Head) → Contains (heads rows) g →
    (ps : Shapes) × (r : Shapes) × Contains rows (MoreShape (Begins g ps) r)
in_heads [] g m = absurd (no_member g m)
in_heads (NoShape ∷ rows) g m =
    let k = in_heads rows g m in (k.0, k.1, later_member NoShape (MoreShape (Begins g k.0) k.1) rows k.2)
in_heads (MoreShape Open q ∷ rows) g m =
    let k = in_heads rows g m in (k.0, k.1, later_member (MoreShape Open q) (MoreShape (Begins g k.0) k.1) rows k.2)
in_heads (MoreShape (Begins h ps) q ∷ rows) g m =
    ⊎_elim
    (λ e. (ps, q, subst (λ z. Contains (MoreShape (Begins h ps) q ∷ rows) (MoreShape (Begins z ps) q)) e (first_member (MoreShape (Begins h ps) q) rows)))
    (λ l. let k = in_heads rows g l in (k.0, k.1, later_member (MoreShape (Begins h ps) q) (MoreShape (Begins g k.0) k.1) rows k.2))
    (member_cases h g (heads rows) m)

pub heads_in : (rows : List Shapes) (g : Head) (ps r : Shapes) → Contains rows (MoreShape (Begins g ps) r) →
    Contains (heads rows) g
heads_in [] g ps r m = absurd (no_member (MoreShape (Begins g ps) r) m)
heads_in (NoShape ∷ rows) g ps r m =
    ⊎_elim (λ e. absurd cc) (λ k. heads_in rows g ps r k) (member_cases NoShape (MoreShape (Begins g ps) r) rows m)
heads_in (MoreShape Open q ∷ rows) g ps r m =
    ⊎_elim (λ e. absurd cc) (λ k. heads_in rows g ps r k)
    (member_cases (MoreShape Open q) (MoreShape (Begins g ps) r) rows m)
heads_in (MoreShape (Begins h qs) q ∷ rows) g ps r m =
    ⊎_elim (λ e. let k : h ≡ g = cc in subst (Contains (h ∷ heads rows)) k (first_member h (heads rows)))
    (λ k. later_member h g (heads rows) (heads_in rows g ps r k))
    (member_cases (MoreShape (Begins h qs) q) (MoreShape (Begins g ps) r) rows m)

-- ---- tables

-- proper rows of one type, and a proper row whose special cases are looked for
pub record Table (q : Shapes) (rows : List Shapes) : Type 0 where
  pub own : AreProper q
  pub proper : (r : Shapes) → Contains rows r → AreProper r
  pub alike : (p r : Shapes) → Contains rows p → Contains rows r → AllFit p r

pub table_where : (h : Head) (q q2 : Shapes) (rows : List Shapes) → Table q rows → AreProper q2 →
    Table q2 (rows_where h rows)
table_where h q q2 rows t p2 = record {
  own = p2;
  proper = λ r2 m. let k = in_where h rows r2 m in proper_where h k.0 r2 k.2 (t.proper k.0 k.1);
  alike = λ p2 r2 m n.
      let k = in_where h rows p2 m in
      let l = in_where h rows r2 n in
      subst (λ z. AllFit z r2) (ap (or_open h k.0) k.2)
      (fit_where h k.0 l.0 r2 (t.proper k.0 k.1) (t.proper l.0 l.1) l.2 (t.alike k.0 l.0 k.1 l.1));
}

pub table_rest : (s : Shape) (q : Shapes) (rows : List Shapes) → Table (MoreShape s q) rows →
    Table q (map rest_of rows)
table_rest s q rows t = record {
  own = t.own.1;
  proper = λ r2 m. let k = map_member rest_of rows r2 m in subst AreProper k.2 (proper_rest k.0 (t.proper k.0 k.1));
  alike = λ p2 r2 m n.
      let k = map_member rest_of rows p2 m in
      let l = map_member rest_of rows r2 n in
      subst (λ z. AllFit z r2) k.2 (subst (AllFit (rest_of k.0)) l.2 (fit_rest k.0 l.0 (t.alike k.0 l.0 k.1 l.1)));
}
