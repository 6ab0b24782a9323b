-- What is reported of patterns is what is missing and what is redundant.
use Rattle.std.proofs.Common.{◌≡◌, ℕ, suc, ◌+◌, ◌<◌, ◌≤◌, List, [], ◌∷◌, ◌++◌, Bool, true, false, ◌&&◌, Option, Some}
use Rattle.std.proofs.Common.{None, map, length, ⊎_elim, ◌⊎◌, inl, inr, if◌then◌else◌, refl, sym, ap, ◌∙◌, subst, arith}
use Rattle.std.proofs.Common.{append_assoc}
use Rattle.std.specs.Prelude.{option_map, option_and_then, is_some, ◌↔◌}
use Rattle.std.specs.List.{Contains}
use Rattle.std.proofs.lemmas.Bool.{false≢true}
use Rattle.elm_canon.specs.Unions.{Union, alternatives}
use Rattle.elm_canon.specs.declared.unions.Alternative.{Alternative}
use Rattle.std.specs.Prelude.{nat_lt}
use Rattle.std.specs.List.{list_all}
use Rattle.elm_canon.specs.Tree as plain
use Rattle.elm_canon.specs.Constructors.{is_constructor, are_apart, same_kind, is_one_of}
use Rattle.elm_canon.specs.Proper.{ProperPattern, ProperPatterns, count_of}
use Rattle.pattern_check.specs.Shapes.{Shape, Open, Shapes, NoShape, MoreShape, shape_of, shapes_of, written}
use Rattle.pattern_check.specs.Shapes.{width, IsProper, AreProper, Fits, AllFit, OfOneType, overlaps, all_overlap}
use Rattle.pattern_check.specs.Shapes.{IsSpecial, AreSpecial, IsMissing, IsRedundant}
use Rattle.pattern_check.specs.Missing.{sizes, rows_size, missing_in, alone, first_shape, left_out, missing_shape}
use Rattle.pattern_check.specs.Missing.{redundant_from}
use Rattle.pattern_check.specs.Laws.{ReportsMissing, ReportsAll, TellsRedundant}
use Rattle.pattern_check.proofs.Members.{no_member, first_member, later_member, member_cases, member_left, member_right}
use Rattle.pattern_check.proofs.Members.{map_member, member_map}
use Rattle.pattern_check.proofs.Heads.{and_parts}
use Rattle.pattern_check.proofs.Rows.{fits_open}
use Rattle.pattern_check.proofs.Where.{some_is, Table}
use Rattle.pattern_check.proofs.Sound.{Found, in_sound}
use Rattle.pattern_check.proofs.Complete.{IsLeft, in_complete}

-- ---- one column

-- proper patterns of one type
record Column (earlier : List Shape) (p : Shape) : Type 0 where
  own : IsProper p
  proper : (e : Shape) → Contains earlier e → IsProper e
  alike : (e f : Shape) → Contains earlier e → Contains earlier f → Fits e f
  fits : (e : Shape) → Contains earlier e → Fits e p

abbrev bound : List Shape → Shape → ℕ
bound earlier p = suc (sizes (alone p) + rows_size (map alone earlier))

table_of : (earlier : List Shape) (p : Shape) → Column earlier p → Table (alone p) (map alone earlier)
table_of earlier p c = record {
  own = (c.own, tt);
  proper = λ r m. let k = map_member alone earlier r m in subst AreProper k.2 (c.proper k.0 k.1, tt);
  alike = λ r s m n.
      let k = map_member alone earlier r m in
      let l = map_member alone earlier s n in
      subst (λ z. AllFit z s) k.2 (subst (AllFit (alone k.0)) l.2 (c.alike k.0 l.0 k.1 l.1, tt));
}

and_true : (b : Bool) → (b && true) ≡ b
and_true true = refl
and_true false = refl

-- what is left out is a special case of the type of the patterns, and overlaps none of the earlier ones
record LeftOut (earlier : List Shape) (p s : Shape) : Type 0 where
  special : IsSpecial p s
  missing : IsMissing earlier s

of_found : (earlier : List Shape) (p : Shape) → Column earlier p → (z : Shapes) → Found (alone p) (map alone earlier) z →
    (s : Shape) → first_shape z ≡ Some s → LeftOut earlier p s
of_found earlier p c NoShape f s e = absurd f.special
of_found earlier p c (MoreShape x (MoreShape y z)) f s e = absurd f.special.1
of_found earlier p c (MoreShape x NoShape) f s e =
    subst (LeftOut earlier p) (some_is e)
    (record {
      special = f.special.0;
      missing =
          record {
            proper = f.proper.0;
            fits = λ q m.
                (f.fits (alone q) (c.proper q m, tt) (c.fits q m, tt)
                (λ r n. let k = map_member alone earlier r n in subst (AllFit (alone q)) k.2 (c.alike q k.0 m k.1, tt))).0;
            avoids = λ q m. sym (and_true (overlaps q x)) ∙ f.avoids (alone q) (member_map alone earlier q m);
          };
    })

left_sound : (earlier : List Shape) (p : Shape) → Column earlier p → (s : Shape) → left_out earlier p ≡ Some s →
    LeftOut earlier p s
left_sound earlier p c s e = by (missing_in (bound earlier p) (alone p) (map alone earlier)) refl e
  where
    by : (o : Option Shapes) → missing_in (bound earlier p) (alone p) (map alone earlier) ≡ o →
        option_and_then first_shape o ≡ Some s → LeftOut earlier p s
    by None f k = absurd cc
    by (Some z) f k =
        of_found earlier p c z (in_sound (bound earlier p) (alone p) (map alone earlier) z (table_of earlier p c) f) s k

left_complete : (earlier : List Shape) (p : Shape) → Column earlier p → (s : Shape) → LeftOut earlier p s →
    is_some (left_out earlier p) ≡ true
left_complete earlier p c s l =
    let t = table_of earlier p c in
    let k = in_complete (bound earlier p) (alone p) (map alone earlier) t (omega arith) (alone s) left in
    ap (λ o. is_some (option_and_then first_shape o)) k.1
    ∙ some k.0 (in_sound (bound earlier p) (alone p) (map alone earlier) k.0 t k.1).special
  where
    left : IsLeft (alone p) (map alone earlier) (alone s)
    left = record {
      special = (l.special, tt);
      proper = (l.missing.proper, tt);
      avoids = λ r m.
          let k = map_member alone earlier r m in
          subst (λ z. all_overlap z (alone s) ≡ false) k.2 (and_true (overlaps k.0 s) ∙ l.missing.avoids k.0 k.1);
      fits = λ r m. let k = map_member alone earlier r m in subst (λ z. AllFit z (alone s)) k.2 (l.missing.fits k.0 k.1, tt);
    }

    some : (z : Shapes) → AreSpecial (alone p) z → is_some (first_shape z) ≡ true
    some NoShape h = absurd h
    some (MoreShape x z) h = refl

-- ---- missing patterns

whole_column : (ps : List Shape) → OfOneType ps → Column ps Open
whole_column ps o = record { own = tt; proper = o.proper; alike = o.alike; fits = λ e m. fits_open e }

pub reports_missing : ReportsMissing
reports_missing ps o q e = by (missing_shape (map shape_of ps)) refl e
  where
    by : (r : Option Shape) → missing_shape (map shape_of ps) ≡ r → option_map written r ≡ Some q →
        (s : Shape) × IsMissing (map shape_of ps) s × (q ≡ written s)
    by None f k = absurd cc
    by (Some s) f k =
        (s, (left_sound (map shape_of ps) Open (whole_column (map shape_of ps) o) s f).missing, sym (some_is k))

is_special_open : (s : Shape) → IsSpecial Open s
is_special_open s = tt

pub reports_all : ReportsAll
reports_all ps o e m =
    by (missing_shape (map shape_of ps)) refl e
    (left_complete (map shape_of ps) Open (whole_column (map shape_of ps) o) m.0 (record { special = is_special_open m.0; missing = m.1 }))
  where
    by : (r : Option Shape) → missing_shape (map shape_of ps) ≡ r → option_map written r ≡ None → is_some r ≡ true → ⊥
    by None f k t = false≢true t
    by (Some s) f k t = absurd cc

-- ---- redundant patterns

some_overlaps : (ps : List Shape) (s : Shape) →
    ((p : Shape) × Contains ps p × (overlaps p s ≡ true)) ⊎ ((p : Shape) → Contains ps p → overlaps p s ≡ false)
some_overlaps [] s = inr (λ p m. absurd (no_member p m))
some_overlaps (p ∷ ps) s = by (overlaps p s) refl (some_overlaps ps s)
  where
    by : (b : Bool) → overlaps p s ≡ b →
        ((q : Shape) × Contains ps q × (overlaps q s ≡ true)) ⊎ ((q : Shape) → Contains ps q → overlaps q s ≡ false) →
        ((q : Shape) × Contains (p ∷ ps) q × (overlaps q s ≡ true))
        ⊎ ((q : Shape) → Contains (p ∷ ps) q → overlaps q s ≡ false)
    by true e r = inl (p, first_member p ps, e)
    by false e r =
        ⊎_elim (λ k. inl (k.0, later_member p k.0 ps k.1, k.2))
        (λ f. inr (λ q m. ⊎_elim (λ k. subst (λ z. overlaps z s ≡ false) k e) (λ l. f q l) (member_cases p q ps m))) r

is_redundant : (earlier : List Shape) (p : Shape) → Column earlier p →
    (is_some (left_out earlier p) ≡ false) ↔ IsRedundant earlier p
is_redundant earlier p c = (there, λ r. back (left_out earlier p) refl r)
  where
    there : is_some (left_out earlier p) ≡ false → IsRedundant earlier p
    there e s sp pr fits =
        ⊎_elim (λ k. k)
        (λ f. absurd (false≢true (sym e ∙ left_complete earlier p c s (record { special = sp; missing = record { proper = pr; fits = fits; avoids = f } }))))
        (some_overlaps earlier s)

    back : (o : Option Shape) → left_out earlier p ≡ o → IsRedundant earlier p → is_some o ≡ false
    back None e r = refl
    back (Some s) e r =
        let l = left_sound earlier p c s e in
        let k = r s l.special l.missing.proper l.missing.fits in
        absurd (false≢true (sym (l.missing.avoids k.0 k.1) ∙ k.2))

-- the places of the later ones are greater
later_places : (i : ℕ) (earlier ps : List Shape) (k : ℕ) → Contains (redundant_from i earlier ps) k → i ≤ k
later_places i earlier [] k m = absurd (no_member k m)
later_places i earlier (p ∷ ps) k m =
    by (is_some (left_out earlier p)) (λ l. later_places (suc i) (earlier ++ p ∷ []) ps k l) m
  where
    by : (b : Bool) → (Contains (redundant_from (suc i) (earlier ++ p ∷ []) ps) k → suc i ≤ k) →
        Contains (if b then redundant_from (suc i) (earlier ++ p ∷ []) ps else i ∷ redundant_from (suc i) (earlier ++ p ∷ []) ps) k →
        i ≤ k
    by true ih m = omega (arith, ih m)
    by false ih m =
        ⊎_elim (λ e. omega (arith, e)) (λ l. omega (arith, ih l))
        (member_cases i k (redundant_from (suc i) (earlier ++ p ∷ []) ps) m)

at_place : (i : ℕ) (earlier : List Shape) (p : Shape) (ps : List Shape) →
    Contains (redundant_from i earlier (p ∷ ps)) i ↔ (is_some (left_out earlier p) ≡ false)
at_place i earlier p ps = by (is_some (left_out earlier p))
  where
    others : List ℕ
    others = redundant_from (suc i) (earlier ++ p ∷ []) ps

    by : (b : Bool) →
        Contains (if b then redundant_from (suc i) (earlier ++ p ∷ []) ps else i ∷ redundant_from (suc i) (earlier ++ p ∷ []) ps) i
        ↔ (b ≡ false)
    by true = (
      (λ m. absurd (omega (arith, later_places (suc i) (earlier ++ p ∷ []) ps i m))),
      (λ e. absurd (false≢true (sym e))),
    )
    by false = ((λ m. refl), (λ e. first_member i (redundant_from (suc i) (earlier ++ p ∷ []) ps)))

passed_place : (i k : ℕ) (earlier : List Shape) (p : Shape) (ps : List Shape) → i < k →
    Contains (redundant_from i earlier (p ∷ ps)) k ↔ Contains (redundant_from (suc i) (earlier ++ p ∷ []) ps) k
passed_place i k earlier p ps l = by (is_some (left_out earlier p))
  where
    by : (b : Bool) →
        Contains (if b then redundant_from (suc i) (earlier ++ p ∷ []) ps else i ∷ redundant_from (suc i) (earlier ++ p ∷ []) ps) k
        ↔ Contains (redundant_from (suc i) (earlier ++ p ∷ []) ps) k
    by true = ((λ m. m), (λ m. m))
    by false = (
      (λ m. ⊎_elim (λ e. absurd (omega (arith, e, l))) (λ n. n) (member_cases i k (redundant_from (suc i) (earlier ++ p ∷ []) ps) m)),
      later_member i k (redundant_from (suc i) (earlier ++ p ∷ []) ps),
    )

append_none : {X : Type 0} (xs : List X) → xs ++ [] ≡ xs
append_none [] = refl
append_none (x ∷ xs) = ap (λ z. x ∷ z) (append_none xs)

place_of : (i : ℕ) (earlier a : List Shape) (p : Shape) (b : List Shape) →
    Contains (redundant_from i earlier (a ++ p ∷ b)) (i + length a) ↔ (is_some (left_out (earlier ++ a) p) ≡ false)
place_of i earlier [] p b =
    subst (λ k. Contains (redundant_from i earlier (p ∷ b)) k ↔ (is_some (left_out (earlier ++ []) p) ≡ false)) (omega arith)
    (subst (λ e. Contains (redundant_from i earlier (p ∷ b)) i ↔ (is_some (left_out e p) ≡ false)) (sym (append_none earlier)) (at_place i earlier p b))
place_of i earlier (x ∷ a) p b =
    let h = passed_place i (i + length (x ∷ a)) earlier x (a ++ p ∷ b) (omega arith) in
    let k = place_of (suc i) (earlier ++ x ∷ []) a p b in
    let same : suc i + length a ≡ i + length (x ∷ a) = omega arith in
    let l =
    subst (λ e. Contains (redundant_from (suc i) (earlier ++ x ∷ []) (a ++ p ∷ b)) (suc i + length a) ↔ (is_some (left_out e p) ≡ false))
    (append_assoc earlier (x ∷ []) a) k in (
      (λ m. l.0 (subst (Contains (redundant_from (suc i) (earlier ++ x ∷ []) (a ++ p ∷ b))) (sym same) (h.0 m))),
      (λ e. h.1 (subst (Contains (redundant_from (suc i) (earlier ++ x ∷ []) (a ++ p ∷ b))) same (l.1 e))),
    )

column_of : (a : List Shape) (p : Shape) (b : List Shape) → OfOneType (a ++ p ∷ b) → Column a p
column_of a p b o =
    let m : Contains (a ++ p ∷ b) p = member_right a (p ∷ b) p (first_member p b) in
    record {
      own = o.proper p m;
      proper = λ e k. o.proper e (member_left a (p ∷ b) e k);
      alike = λ e f k l. o.alike e f (member_left a (p ∷ b) e k) (member_left a (p ∷ b) f l);
      fits = λ e k. o.alike e p (member_left a (p ∷ b) e k) m;
    }

map_joined : (a : List plain.Pattern) (b : List plain.Pattern) → map shape_of (a ++ b) ≡ map shape_of a ++ map shape_of b
map_joined [] b = refl
map_joined (p ∷ a) b = ap (λ z. shape_of p ∷ z) (map_joined a b)

map_length : (a : List plain.Pattern) → length (map shape_of a) ≡ length a
map_length [] = refl
map_length (p ∷ a) = omega (arith, map_length a)

pub tells_redundant : TellsRedundant
tells_redundant a p b o =
    let j = map_joined a (p ∷ b) in
    let xs = map shape_of a in
    let ys = map shape_of b in
    let n = map_length a in
    let c = column_of xs (shape_of p) ys (subst OfOneType j o) in
    let k : Contains (redundant_from 0 [] (xs ++ shape_of p ∷ ys)) (0 + length xs) ↔ (is_some (left_out xs (shape_of p)) ≡ false) = place_of 0 [] xs (shape_of p) ys in
    let l =
    subst (λ z. Contains (redundant_from 0 [] z) (length a) ↔ (is_some (left_out xs (shape_of p)) ≡ false)) (sym j)
    (subst (λ z. Contains (redundant_from 0 [] (xs ++ shape_of p ∷ ys)) z ↔ (is_some (left_out xs (shape_of p)) ≡ false)) (omega (arith, n)) k) in
    let r = is_redundant xs (shape_of p) c in
    ((λ m. r.0 (l.0 m)), (λ m. l.1 (r.1 m)))

-- ---- proper patterns

shapes_width : (ps : plain.Patterns) → width (shapes_of ps) ≡ count_of ps
shapes_width plain.NoPattern = refl
shapes_width (plain.MorePattern p ps) = ap suc (shapes_width ps)

known : (u : Union) (a : Alternative) → is_constructor u a ≡ true → is_one_of a (alternatives u) ≡ true
known u a e =
    let s = are_apart (alternatives u) && list_all (λ b. same_kind a.tag b.tag) (alternatives u) in
    let w = is_one_of a (alternatives u) && nat_lt a.arity 4294967296 in
    (and_parts (is_one_of a (alternatives u)) (nat_lt a.arity 4294967296) (and_parts s w e).1).0

mutual
  pub proper_shape : (p : plain.Pattern) → ProperPattern p → IsProper (shape_of p)
  proper_shape plain.Anything h = tt
  proper_shape (plain.Named x) h = tt
  proper_shape (plain.As p x) h = proper_shape p h.0
  proper_shape (plain.Exactly l) h = (tt, (refl, tt))
  proper_shape (plain.Construct u a ps) h = (
    known u a h.0,
    (shapes_width ps ∙ h.1.0, proper_shapes ps h.1.1),
  )
  proper_shape (plain.FieldsOf xs) h = tt
  proper_shape (plain.LocatedPattern place p) h = proper_shape p h

  proper_shapes : (ps : plain.Patterns) → ProperPatterns ps → AreProper (shapes_of ps)
  proper_shapes plain.NoPattern h = tt
  proper_shapes (plain.MorePattern p ps) h = (proper_shape p h.0, proper_shapes ps h.1)
