-- Where some shape of the rows' type overlaps none of them, a row is found.
use Rattle.std.proofs.Common.{◌≡◌, ℕ, zero, suc, ◌+◌, ◌<◌, ◌≤◌, List, [], ◌∷◌, Bool, true, false, ◌&&◌, ◌||◌, Option, Some}
use Rattle.std.proofs.Common.{None, map, ⊎_elim, if◌then◌else◌, refl, sym, ap, ◌∙◌, subst, arith}
use Rattle.std.specs.Prelude.{option_map}
use Rattle.std.specs.List.{Contains}
use Rattle.std.proofs.lemmas.Bool.{false≢true}
use Rattle.elm_canon.specs.Unions.{Union, alternatives}
use Rattle.elm_canon.specs.declared.unions.Alternative.{Alternative}
use Rattle.pattern_check.specs.Shapes.{Head, Literally, OtherLiteral, Constructor, Shape, Open, Begins, Shapes, NoShape}
use Rattle.pattern_check.specs.Shapes.{MoreShape, same_head, arity_of, IsAlike, AreProper, AllFit}
use Rattle.pattern_check.specs.Shapes.{all_overlap, AreSpecial}
use Rattle.pattern_check.specs.Missing.{with_each, is_open, some_open}
use Rattle.pattern_check.specs.Missing.{joined, opens, rest_of, row_where, put_before, rows_where, heads, candidates}
use Rattle.pattern_check.specs.Missing.{or_else, first_of, built, missing_where, missing_by, missing_at, missing_in}
use Rattle.pattern_check.specs.Missing.{sizes, rows_size}
use Rattle.pattern_check.proofs.Members.{no_member, first_member, later_member, member_cases, member_right, map_member, member_map}
use Rattle.pattern_check.proofs.Heads.{head_moves, same_arity, member_is_one, one_is_member}
use Rattle.pattern_check.proofs.Rows.{special_join, fit_rest, proper_join, width_opens, opens_special, fit_opens}
use Rattle.pattern_check.proofs.Rows.{opens_proper}
use Rattle.pattern_check.proofs.Where.{where_cases, over, overlap_where, fit_forward, in_where, in_heads, heads_in, Table}
use Rattle.pattern_check.proofs.Where.{table_where, table_rest}
use Rattle.pattern_check.proofs.Sound.{known_heads}

-- ---- sizes

sizes_join : (a b : Shapes) → sizes (joined a b) ≡ sizes a + sizes b
sizes_join NoShape b = omega arith
sizes_join (MoreShape s a) b = omega (arith, sizes_join a b)

sizes_opens : (n : ℕ) → sizes (opens n) ≡ 0
sizes_opens zero = refl
sizes_opens (suc n) = omega (arith, sizes_opens n)

opened_size : (n : ℕ) (b : Shapes) → sizes (joined (opens n) b) ≡ sizes b
opened_size n b = omega (arith, sizes_join (opens n) b, sizes_opens n)

where_size : (h : Head) (r r2 : Shapes) → row_where h r ≡ Some r2 → sizes r2 ≤ sizes r
where_size h =
    where_cases h (λ r r2. sizes r2 ≤ sizes r) (λ r. omega (arith, opened_size (arity_of h) r))
    (λ g ps r e. omega (arith, sizes_join ps r))

rows_where_size : (h : Head) (rows : List Shapes) → rows_size (rows_where h rows) ≤ rows_size rows
rows_where_size h [] = omega arith
rows_where_size h (r ∷ rows) = by (row_where h r) refl (rows_where_size h rows)
  where
    by : (o : Option Shapes) → row_where h r ≡ o → rows_size (rows_where h rows) ≤ rows_size rows →
        rows_size (put_before o (rows_where h rows)) ≤ sizes r + rows_size rows
    by None e ih = omega (arith, ih)
    by (Some r2) e ih = omega (arith, ih, where_size h r r2 e)

-- where some row begins with a head, less is left
rows_where_less : (h : Head) (rows : List Shapes) (g : Head) (gs : List Head) → heads rows ≡ g ∷ gs →
    rows_size (rows_where h rows) < rows_size rows
rows_where_less h [] g gs e = absurd cc
rows_where_less h (NoShape ∷ rows) g gs e = omega (arith, rows_where_less h rows g gs e)
rows_where_less h (MoreShape Open r ∷ rows) g gs e =
    omega (arith, rows_where_less h rows g gs e, opened_size (arity_of h) r)
rows_where_less h (MoreShape (Begins f ps) r ∷ rows) g gs e = by (same_head f h)
  where
    by : (t : Bool) → rows_size (put_before (if t then Some (joined ps r) else None) (rows_where h rows)) < (suc (sizes ps) + sizes r) + rows_size rows
    by true = omega (arith, rows_where_size h rows, sizes_join ps r)
    by false = omega (arith, rows_where_size h rows)

rest_size : (rows : List Shapes) → rows_size (map rest_of rows) ≤ rows_size rows
rest_size [] = omega arith
rest_size (NoShape ∷ rows) = omega (arith, rest_size rows)
rest_size (MoreShape s r ∷ rows) = omega (arith, rest_size rows)

-- ---- what is left

-- a special case of the type of the rows that overlaps none of them
pub record IsLeft (q : Shapes) (rows : List Shapes) (s : Shapes) : Type 0 where
  pub special : AreSpecial q s
  pub proper : AreProper s
  pub avoids : (r : Shapes) → Contains rows r → all_overlap r s ≡ false
  pub fits : (r : Shapes) → Contains rows r → AllFit r s

left_where : (c : Head) (q q2 : Shapes) (rows : List Shapes) (ss d : Shapes) → Table q rows →
    AreSpecial q2 (joined ss d) → IsLeft q rows (MoreShape (Begins c ss) d) →
    IsLeft q2 (rows_where c rows) (joined ss d)
left_where c q q2 rows ss d t sp l =
    let wd = l.proper.0.1.0 in
    record {
      special = sp;
      proper = proper_join ss d l.proper.0.1.1 l.proper.1;
      avoids = λ r2 m.
          let k = in_where c rows r2 m in
          ap (λ o. over o (joined ss d)) (sym k.2) ∙ sym (overlap_where c ss d wd k.0 (t.proper k.0 k.1)) ∙ l.avoids k.0 k.1;
      fits = λ r2 m. let k = in_where c rows r2 m in fit_forward c ss d wd k.0 r2 k.2 (l.fits k.0 k.1);
    }

left_rest : (q : Shapes) (rows : List Shapes) (x : Shape) (d : Shapes) → heads rows ≡ [] →
    IsLeft (MoreShape Open q) rows (MoreShape x d) → IsLeft q (map rest_of rows) d
left_rest q rows x d e l = record {
  special = l.special.1;
  proper = l.proper.1;
  avoids = λ r2 m.
      let k = map_member rest_of rows r2 m in subst (λ r. all_overlap r d ≡ false) k.2 (avoids k.0 k.1 (l.avoids k.0 k.1));
  fits = λ r2 m.
      let k = map_member rest_of rows r2 m in
      subst (λ r. AllFit r d) k.2 (fit_rest k.0 (MoreShape x d) (l.fits k.0 k.1));
}
  where
    avoids : (r : Shapes) → Contains rows r → all_overlap r (MoreShape x d) ≡ false → all_overlap (rest_of r) d ≡ false
    avoids NoShape m k = absurd (l.fits NoShape m)
    avoids (MoreShape Open r) m k = k
    avoids (MoreShape (Begins g ps) r) m k = absurd (no_member g (subst (λ hs. Contains hs g) e (heads_in rows g ps r m)))

-- ---- a candidate that leaves something out

and_false : (b c : Bool) → c ≡ false → (b && c) ≡ false
and_false true c e = e
and_false false c e = refl

-- what begins with anything may begin with a head of the rows
open_left : (q : Shapes) (rows : List Shapes) (h : Head) (d : Shapes) → Table (MoreShape Open q) rows →
    Contains (heads rows) h → IsLeft (MoreShape Open q) rows (MoreShape Open d) →
    IsLeft (MoreShape Open q) rows (MoreShape (Begins h (opens (arity_of h))) d)
open_left q rows h d t m l = record {
  special = (tt, l.special.1);
  proper = ((known_heads rows t.proper h m, (width_opens n, opens_proper n)), l.proper.1);
  avoids = λ r k. avoids r (l.avoids r k);
  fits = λ r k. fits r (t.proper r k) (t.alike r (MoreShape (Begins h own.0) own.1) k own.2) (l.fits r k);
}
  where
    n : ℕ
    n = arity_of h

    own : (ps : Shapes) × (r : Shapes) × Contains rows (MoreShape (Begins h ps) r)
    own = in_heads rows h m

    avoids : (r : Shapes) → all_overlap r (MoreShape Open d) ≡ false →
        all_overlap r (MoreShape (Begins h (opens (arity_of h))) d) ≡ false
    avoids NoShape e = refl
    avoids (MoreShape Open r) e = e
    avoids (MoreShape (Begins g ps) r) e =
        and_false (same_head g h && all_overlap ps (opens (arity_of h))) (all_overlap r d) e

    fits : (r : Shapes) → AreProper r → AllFit r (MoreShape (Begins h own.0) own.1) → AllFit r (MoreShape Open d) →
        AllFit r (MoreShape (Begins h (opens (arity_of h))) d)
    fits NoShape p a f = f
    fits (MoreShape Open r) p a f = f
    fits (MoreShape (Begins g ps) r) p a f =
        ((a.0.0, λ e. fit_opens (arity_of h) ps (p.0.1.0 ∙ same_arity g h e)), f.1)

alike_constructor : (f : Head) (v : Union) (a b : Alternative) → IsAlike f (Constructor v a) →
    IsAlike f (Constructor v b)
alike_constructor (Literally l) v a b h = h
alike_constructor OtherLiteral v a b h = h
alike_constructor (Constructor u c) v a b h = h

-- the constructor may be exchanged for the one that its union has
same_left : (q : Shapes) (rows : List Shapes) (v : Union) (a b : Alternative) (ss d : Shapes) →
    Contains (alternatives v) b → same_head (Constructor v a) (Constructor v b) ≡ true →
    IsLeft (MoreShape Open q) rows (MoreShape (Begins (Constructor v a) ss) d) →
    IsLeft (MoreShape Open q) rows (MoreShape (Begins (Constructor v b) ss) d)
same_left q rows v a b ss d m e l = record {
  special = (tt, l.special.1);
  proper = (
    (member_is_one (alternatives v) b m, (l.proper.0.1.0 ∙ same_arity (Constructor v a) (Constructor v b) e, l.proper.0.1.1)),
    l.proper.1,
  );
  avoids = λ r k. avoids r (l.avoids r k);
  fits = λ r k. fits r (l.fits r k);
}
  where
    avoids : (r : Shapes) → all_overlap r (MoreShape (Begins (Constructor v a) ss) d) ≡ false →
        all_overlap r (MoreShape (Begins (Constructor v b) ss) d) ≡ false
    avoids NoShape k = refl
    avoids (MoreShape Open r) k = k
    avoids (MoreShape (Begins g ps) r) k =
        ap (λ t. (t && all_overlap ps ss) && all_overlap r d) (sym (head_moves g (Constructor v a) (Constructor v b) e)) ∙ k

    fits : (r : Shapes) → AllFit r (MoreShape (Begins (Constructor v a) ss) d) →
        AllFit r (MoreShape (Begins (Constructor v b) ss) d)
    fits NoShape f = f
    fits (MoreShape Open r) f = f
    fits (MoreShape (Begins g ps) r) f = (
      (alike_constructor g v a b f.0.0, λ k. f.0.1 (head_moves g (Constructor v a) (Constructor v b) e ∙ k)),
      f.1,
    )

-- in a column of literals another literal leaves no less out
other_left : (q : Shapes) (rows : List Shapes) (g : Head) (ss d : Shapes) →
    ((f : Head) → IsAlike f g → IsAlike f OtherLiteral × (same_head f OtherLiteral ≡ false)) →
    IsLeft (MoreShape Open q) rows (MoreShape (Begins g ss) d) →
    IsLeft (MoreShape Open q) rows (MoreShape (Begins OtherLiteral NoShape) d)
other_left q rows g ss d o l = record {
  special = (tt, l.special.1);
  proper = ((tt, (refl, tt)), l.proper.1);
  avoids = λ r k. avoids r (l.fits r k) (l.avoids r k);
  fits = λ r k. fits r (l.fits r k);
}
  where
    avoids : (r : Shapes) → AllFit r (MoreShape (Begins g ss) d) → all_overlap r (MoreShape (Begins g ss) d) ≡ false →
        all_overlap r (MoreShape (Begins OtherLiteral NoShape) d) ≡ false
    avoids NoShape f k = refl
    avoids (MoreShape Open r) f k = k
    avoids (MoreShape (Begins h ps) r) f k =
        ap (λ t. (t && all_overlap ps NoShape) && all_overlap r d) (o h f.0.0).1

    fits : (r : Shapes) → AllFit r (MoreShape (Begins g ss) d) → AllFit r (MoreShape (Begins OtherLiteral NoShape) d)
    fits NoShape f = f
    fits (MoreShape Open r) f = f
    fits (MoreShape (Begins h ps) r) f =
        let k = o h f.0.0 in ((k.0, λ e. absurd (false≢true (sym k.1 ∙ e))), f.1)

abbrev Chosen : Shapes → List Shapes → Head → List Head → Shapes → Type 0
Chosen q rows h hs d =
    (c : Head) × (ss : Shapes) × Contains (candidates h hs) c
    × IsLeft (MoreShape Open q) rows (MoreShape (Begins c ss) d)

other_of_literal : (l : _) (f : Head) → IsAlike f (Literally l) →
    IsAlike f OtherLiteral × (same_head f OtherLiteral ≡ false)
other_of_literal l (Literally m) h = (tt, refl)
other_of_literal l OtherLiteral h = absurd h
other_of_literal l (Constructor u a) h = absurd h

other_of_other : (f : Head) → IsAlike f OtherLiteral → IsAlike f OtherLiteral × (same_head f OtherLiteral ≡ false)
other_of_other (Literally m) h = (tt, refl)
other_of_other OtherLiteral h = absurd h
other_of_other (Constructor u a) h = absurd h

choose : (q : Shapes) (rows : List Shapes) (h : Head) (hs : List Head) (g : Head) (ss d : Shapes) → IsAlike h g →
    IsLeft (MoreShape Open q) rows (MoreShape (Begins g ss) d) → Chosen q rows h hs d
choose q rows (Literally l) hs (Literally m) ss d a k = (
  OtherLiteral,
  NoShape,
  member_right (with_each [] (Literally l ∷ hs)) (OtherLiteral ∷ []) OtherLiteral (first_member OtherLiteral []),
  other_left q rows (Literally m) ss d (other_of_literal m) k,
)
choose q rows (Literally l) hs OtherLiteral ss d a k = (
  OtherLiteral,
  NoShape,
  member_right (with_each [] (Literally l ∷ hs)) (OtherLiteral ∷ []) OtherLiteral (first_member OtherLiteral []),
  other_left q rows OtherLiteral ss d other_of_other k,
)
choose q rows (Literally l) hs (Constructor v b) ss d a k = absurd a
choose q rows OtherLiteral hs g ss d a k = absurd (none g a)
  where
    none : (g : Head) → IsAlike OtherLiteral g → ⊥
    none (Literally l) h = h
    none OtherLiteral h = h
    none (Constructor u a) h = h
choose q rows (Constructor u c) hs (Literally l) ss d a k = absurd a
choose q rows (Constructor u c) hs OtherLiteral ss d a k = absurd a
choose q rows (Constructor u c) hs (Constructor v b) ss d a k =
    let o = one_is_member (alternatives v) b k.proper.0.0 in (
      Constructor v o.0,
      ss,
      subst (λ z. Contains (map (Constructor z) (alternatives z)) (Constructor v o.0)) (sym a)
          (member_map (Constructor v) (alternatives v) o.0 o.1),
      same_left q rows v b o.0 ss d o.1 o.2 k,
    )

-- some candidate leaves something out
chosen : (q : Shapes) (rows : List Shapes) (h : Head) (hs : List Head) → heads rows ≡ h ∷ hs →
    Table (MoreShape Open q) rows → (x : Shape) (d : Shapes) → IsLeft (MoreShape Open q) rows (MoreShape x d) →
    Chosen q rows h hs d
chosen q rows h hs e t x d l = at x l
  where
    m : Contains (heads rows) h
    m = subst (λ z. Contains z h) (sym e) (first_member h hs)

    own : (ps : Shapes) × (r : Shapes) × Contains rows (MoreShape (Begins h ps) r)
    own = in_heads rows h m

    at_head : (g : Head) (ss : Shapes) → IsLeft (MoreShape Open q) rows (MoreShape (Begins g ss) d) →
        Chosen q rows h hs d
    at_head g ss l = choose q rows h hs g ss d (l.fits (MoreShape (Begins h own.0) own.1) own.2).0.0 l

    at : (x : Shape) → IsLeft (MoreShape Open q) rows (MoreShape x d) → Chosen q rows h hs d
    at Open l = at_head h (opens (arity_of h)) (open_left q rows h d t m l)
    at (Begins g ss) l = at_head g ss l

-- ---- all columns

first_complete : (try : Head → Option Shapes) (cs : List Head) (c : Head) (z : Shapes) → Contains cs c →
    try c ≡ Some z → (y : Shapes) × (first_of try cs ≡ Some y)
first_complete try [] c z m e = absurd (no_member c m)
first_complete try (d ∷ cs) c z m e = by (try d) refl (λ k. first_complete try cs c z k e)
  where
    by : (o : Option Shapes) → try d ≡ o → (Contains cs c → (y : Shapes) × (first_of try cs ≡ Some y)) →
        (y : Shapes) × (or_else o (first_of try cs) ≡ Some y)
    by (Some y) k ih = (y, refl)
    by None k ih = ⊎_elim (λ f. let w : try d ≡ Some z = ap try f ∙ e in absurd cc) ih (member_cases d c cs m)

nothing : (r s : Shapes) → AreSpecial NoShape s → AllFit r s → all_overlap r s ≡ false → ⊥
nothing NoShape NoShape h f e = false≢true (sym e)
nothing NoShape (MoreShape x s) h f e = h
nothing (MoreShape y r) NoShape h f e = f
nothing (MoreShape y r) (MoreShape x s) h f e = h

module _ (n : ℕ) (further : Shapes → List Shapes → Option Shapes)
    (complete : (q : Shapes) (rows : List Shapes) → Table q rows → sizes q + rows_size rows < n → (s : Shapes) →
    IsLeft q rows s → (z : Shapes) × (further q rows ≡ Some z)) where
  where_complete : (c : Head) (q q2 : Shapes) (rows : List Shapes) (ss d : Shapes) → Table q rows → AreProper q2 →
      AreSpecial q2 (joined ss d) → sizes q2 + rows_size (rows_where c rows) < n →
      IsLeft q rows (MoreShape (Begins c ss) d) → (z : Shapes) × (missing_where further c q2 rows ≡ Some z)
  where_complete c q q2 rows ss d t p2 sp b l =
      let k = complete q2 (rows_where c rows) (table_where c q q2 rows t p2) b (joined ss d) (left_where c q q2 rows ss d t sp l) in
      (built c k.0, ap (option_map (built c)) k.1)

  open_complete : (q : Shapes) (rows : List Shapes) → Table (MoreShape Open q) rows →
      sizes q + rows_size rows < suc n → (x : Shape) (d : Shapes) → IsLeft (MoreShape Open q) rows (MoreShape x d) →
      (hs : List Head) → heads rows ≡ hs → (passed : Option Shapes) →
      (IsLeft q (map rest_of rows) d → (z : Shapes) × (passed ≡ Some z)) →
      (z : Shapes) × (missing_by further q rows hs passed ≡ Some z)
  open_complete q rows t b x d l [] e passed ih =
      let k = ih (left_rest q rows x d e l) in (MoreShape Open k.0, ap (option_map (MoreShape Open)) k.1)
  open_complete q rows t b x d l (h ∷ hs) e passed ih =
      let try = λ (c : Head). missing_where further c (joined (opens (arity_of c)) q) rows in
      let o = chosen q rows h hs e t x d l in
      let a = arity_of o.0 in
      let k =
      where_complete o.0 (MoreShape Open q) (joined (opens a) q) rows o.1 d t (proper_join (opens a) q (opens_proper a) t.own.1)
      (special_join (opens a) q o.1 d (opens_special a o.1 o.3.proper.0.1.0) l.special.1)
      (omega (arith, b, opened_size a q, rows_where_less o.0 rows h hs e)) o.3 in
      first_complete try (candidates h hs) o.0 k.0 o.2 k.1

  at_complete : (q : Shapes) (rows : List Shapes) → Table q rows → sizes q + rows_size rows < suc n → (s : Shapes) →
      IsLeft q rows s → (z : Shapes) × (missing_at further q rows ≡ Some z)
  at_complete NoShape [] t b s l = (NoShape, refl)
  at_complete NoShape (r ∷ rows) t b s l =
      absurd (nothing r s l.special (l.fits r (first_member r rows)) (l.avoids r (first_member r rows)))
  at_complete (MoreShape Open q) rows t b NoShape l = absurd l.special
  at_complete (MoreShape Open q) rows t b (MoreShape x d) l =
      open_complete q rows t (omega (arith, b)) x d l (heads rows) refl (missing_at further q (map rest_of rows))
      (λ k. at_complete q (map rest_of rows) (table_rest Open q rows t) (omega (arith, b, rest_size rows)) d k)
  at_complete (MoreShape (Begins h ps) q) rows t b NoShape l = absurd l.special
  at_complete (MoreShape (Begins h ps) q) rows t b (MoreShape Open d) l = absurd l.special.0
  at_complete (MoreShape (Begins h ps) q) rows t b (MoreShape (Begins g ss) d) l =
      where_complete h (MoreShape (Begins h ps) q) (joined ps q) rows ss d t (proper_join ps q t.own.0.1.1 t.own.1)
      (special_join ps q ss d l.special.0.1 l.special.1)
      (omega (arith, b, sizes_join ps q, rows_where_size h rows))
      (subst (λ z. IsLeft (MoreShape (Begins h ps) q) rows (MoreShape (Begins z ss) d)) (sym l.special.0.0) l)

open_overlaps : (r s : Shapes) → is_open r ≡ true → AllFit r s → all_overlap r s ≡ true
open_overlaps NoShape NoShape e f = refl
open_overlaps NoShape (MoreShape x s) e f = absurd f
open_overlaps (MoreShape y r) NoShape e f = absurd f
open_overlaps (MoreShape Open r) (MoreShape x s) e f = open_overlaps r s e f.1
open_overlaps (MoreShape (Begins h ps) r) (MoreShape x s) e f = absurd (false≢true e)

-- a row that asks for nothing overlaps each shape
none_open : (rows : List Shapes) (s : Shapes) → ((r : Shapes) → Contains rows r → AllFit r s) →
    ((r : Shapes) → Contains rows r → all_overlap r s ≡ false) → some_open rows ≡ false
none_open [] s f a = refl
none_open (r ∷ rows) s f a =
    by (is_open r) refl (none_open rows s (λ p m. f p (later_member r p rows m)) (λ p m. a p (later_member r p rows m)))
  where
    by : (b : Bool) → is_open r ≡ b → some_open rows ≡ false → (b || some_open rows) ≡ false
    by true e k =
        absurd (false≢true (sym (a r (first_member r rows)) ∙ open_overlaps r s e (f r (first_member r rows))))
    by false e k = k

pub in_complete : (n : ℕ) (q : Shapes) (rows : List Shapes) → Table q rows → sizes q + rows_size rows < n →
    (s : Shapes) → IsLeft q rows s → (z : Shapes) × (missing_in n q rows ≡ Some z)
in_complete zero q rows t b s l = absurd (omega (arith, b))
in_complete (suc n) q rows t b s l =
    let k = at_complete n (missing_in n) (in_complete n) q rows t b s l in
    (k.0, ap (λ o. if o then None else missing_at (missing_in n) q rows) (none_open rows s l.fits l.avoids) ∙ k.1)
