-- A field more: where a ground record lacks a field, the record with it is ground.
use Rattle.std.proofs.Common.{◌≡◌, Bool, true, false, cond, Ordering, Less, Equal, Greater, refl, sym, ap, ◌∙◌}
use Rattle.std.specs.Prelude.{◌&&◌, ◌||◌, not}
use Rattle.std.specs.Ordering.{is_eq, is_lt, nat_cmp, ordering_reverse}
use Rattle.std.specs.Cmp.Lexicographic.{slice_cmp}
use Rattle.std.specs.Str.{bytes_eq}
use Rattle.std.proofs.lemmas.Cmp.{nat_list_cmp_total}
use Rattle.std.proofs.lemmas.Map.Text.{is_eq-slice_cmp}
use Rattle.std.proofs.lemmas.Slice.Eq.{bytes_eq-Decides}
use Rattle.elm_type.specs.Types.{Name, Fields, End, Made, Record, NoField, MoreField, Rigid}
use Rattle.elm_type.specs.Classes.{Ground}
use Rattle.elm_type.specs.Rows.{name_lt, has_field, insert_field, extend, is_under, rise}
use Rattle.elm_type.specs.Ground.{lacks, is_ground, end_lacks, end_lacks_each, fields_ground}
use Rattle.type_examples.proofs.Values.{both, first_true, second_true}

-- of two names that are not the same, one is less
is_less : (o : Ordering) → is_lt o ≡ false → is_eq (ordering_reverse o) ≡ false → is_lt (ordering_reverse o) ≡ true
is_less Less a b = absurd cc
is_less Equal a b = absurd cc
is_less Greater a b = refl

other_less : (x j : Name) → name_lt j x ≡ false → bytes_eq x j ≡ false → name_lt x j ≡ true
other_less x j not_less other =
    let turned : slice_cmp nat_cmp x j ≡ ordering_reverse (slice_cmp nat_cmp j x) = nat_list_cmp_total.antisymm x j in
    ap is_lt turned
    ∙ is_less (slice_cmp nat_cmp j x) not_less (ap is_eq (sym turned) ∙ (is_eq-slice_cmp x j ∙ other))

or_false : (a b : Bool) → (a || b) ≡ false → (a ≡ false) × (b ≡ false)
or_false true b e = absurd cc
or_false false b e = (refl, e)

is_false : (b : Bool) → not b ≡ true → b ≡ false
is_false true e = absurd cc
is_false false e = refl

-- what holds of both outcomes of a test
by_test : {X : Type 0} (P : X → Type 0) (b : Bool) (s t : X) → (b ≡ true → P s) → (b ≡ false → P t) → P (cond b s t)
by_test P true s t first second = first refl
by_test P false s t first second = second refl

or_first : (a b : Bool) → a ≡ true → (a || b) ≡ true
or_first true b e = refl
or_first false b e = absurd cc

or_second : (a b : Bool) → b ≡ true → (a || b) ≡ true
or_second true b e = refl
or_second false b e = e

same_itself : (x : Name) → bytes_eq x x ≡ true
same_itself x = (bytes_eq-Decides x x).1 refl

module _ (x : Name) (t : Ground) where
  under_inserted : (j : Name) (fs : Fields Rigid) → name_lt j x ≡ true → is_under j fs ≡ true → is_under j (insert_field x t fs) ≡ true
  under_inserted j NoField less under = less
  under_inserted j (MoreField k u fs) less under =
      by_test (λ gs. is_under j gs ≡ true) (name_lt k x) (MoreField k u (insert_field x t fs)) (MoreField x t (MoreField k u fs))
      (λ e. under) (λ e. less)

  rise_inserted : (fs : Fields Rigid) → rise fs ≡ true → has_field x fs ≡ false → rise (insert_field x t fs) ≡ true
  rise_inserted NoField rises other = refl
  rise_inserted (MoreField k u fs) rises other =
      by_test (λ gs. rise gs ≡ true) (name_lt k x) (MoreField k u (insert_field x t fs)) (MoreField x t (MoreField k u fs))
      (λ e. both _ _
      (under_inserted k fs e (first_true (is_under k fs) (rise fs) rises))
      (rise_inserted fs (second_true (is_under k fs) (rise fs) rises) (or_false (bytes_eq x k) (has_field x fs) other).1))
      (λ e. both (name_lt x k) _ (other_less x k e (or_false (bytes_eq x k) (has_field x fs) other).0) rises)

  lacks_inserted : (fs : Fields Rigid) (end : End Rigid) → end_lacks x end ≡ true → end_lacks_each fs end ≡ true
      → end_lacks_each (insert_field x t fs) end ≡ true
  lacks_inserted NoField end own each = both (end_lacks x end) true own refl
  lacks_inserted (MoreField k u fs) end own each =
      by_test (λ gs. end_lacks_each gs end ≡ true) (name_lt k x) (MoreField k u (insert_field x t fs)) (MoreField x t (MoreField k u fs))
      (λ e. both (end_lacks k end) _ (first_true (end_lacks k end) (end_lacks_each fs end) each)
      (lacks_inserted fs end own (second_true (end_lacks k end) (end_lacks_each fs end) each)))
      (λ e. both (end_lacks x end) _ own each)

  ground_inserted : (fs : Fields Rigid) → is_ground t ≡ true → fields_ground fs ≡ true → fields_ground (insert_field x t fs) ≡ true
  ground_inserted NoField own each = both (is_ground t) true own refl
  ground_inserted (MoreField k u fs) own each =
      by_test (λ gs. fields_ground gs ≡ true) (name_lt k x) (MoreField k u (insert_field x t fs)) (MoreField x t (MoreField k u fs))
      (λ e. both (is_ground u) _ (first_true (is_ground u) (fields_ground fs) each)
      (ground_inserted fs own (second_true (is_ground u) (fields_ground fs) each)))
      (λ e. both (is_ground t) _ own each)

  -- the field is there
  pub has_inserted : (fs : Fields Rigid) → has_field x (insert_field x t fs) ≡ true
  has_inserted NoField = or_first (bytes_eq x x) false (same_itself x)
  has_inserted (MoreField k u fs) =
      by_test (λ gs. has_field x gs ≡ true) (name_lt k x) (MoreField k u (insert_field x t fs)) (MoreField x t (MoreField k u fs))
      (λ e. or_second (bytes_eq x k) _ (has_inserted fs)) (λ e. or_first (bytes_eq x x) _ (same_itself x))

  -- a ground record that lacks a field, with the field
  pub extended_ground : (g : Ground) → is_ground g ≡ true → lacks x g ≡ true → is_ground t ≡ true
      → is_ground (extend (MoreField x t NoField) g) ≡ true
  extended_ground (Made h ts) ground lack own = absurd cc
  extended_ground (Record fs end) ground lack own =
      let rises : rise fs ≡ true = first_true (rise fs) _ ground in
      let rest : (end_lacks_each fs end && fields_ground fs) ≡ true = second_true (rise fs) _ ground in
      both (rise (insert_field x t fs)) _
      (rise_inserted fs rises (is_false (has_field x fs) (first_true (not (has_field x fs)) (end_lacks x end) lack)))
      (both (end_lacks_each (insert_field x t fs) end) _
      (lacks_inserted fs end (second_true (not (has_field x fs)) (end_lacks x end) lack) (first_true (end_lacks_each fs end) (fields_ground fs) rest))
      (ground_inserted fs own (second_true (end_lacks_each fs end) (fields_ground fs) rest)))
