-- Two principal types are the same but for the names of their variables.
use Rattle.std.proofs.Common.{◌≡◌, ℕ, ◌+◌, List, true, refl, ap, ◌∙◌, arith}
use Rattle.std.specs.List.{AllByRecursion}
use Rattle.elm_type.specs.Types.{ElmType, ElmTypes, Fields, Closed, Over, Made, Record, NoType, MoreType, NoField}
use Rattle.elm_type.specs.Types.{MoreField}
use Rattle.elm_type.specs.Types.{variable, variables, size, size_all, size_fields, renamed, renamed_all, renamed_fields}
use Rattle.elm_type.specs.Types.{Leaf, Free, Fixed, Kind, kind_at, Scheme}
use Rattle.elm_type.specs.Classes.{Ground}
use Rattle.elm_type.specs.Rows.{substitute, rise, ordered, ordered_all, ordered_fields}
use Rattle.elm_type.proofs.Substituting.{renames_by_substitution}
use Rattle.elm_type.specs.Ground.{leaf_value, value, fits}
use Rattle.type_items.specs.Items.{Place, Wanted, Item}
use Rattle.type_items.specs.Principal.{IsInstance, is_formed, are_formed, fields_formed, end_lacks_each, IsPrincipal}
use Rattle.type_items.specs.Uniqueness.{OneSize}
use Rattle.type_items.proofs.Fresh.{fresh, fresh_fits, both, bound, all_low}
use Rattle.type_items.proofs.Rows.{first_true, second_true}
use Rattle.type_items.proofs.Matching.{leaf_constant, turned, match, Paired}

-- ---- a formed type has its fields in order

mutual
  formed_ordered : (kinds : List Kind) (t : ElmType (Leaf ℕ)) → is_formed kinds t ≡ true → ordered t ≡ true
  formed_ordered kinds (Made h ts) e = all_ordered kinds ts e
  formed_ordered kinds (Record fs end) e =
      both (rise fs) (ordered_fields fs) (first_true (rise fs) _ e)
      (fields_ordered kinds fs (second_true (end_lacks_each kinds fs end) _ (second_true (rise fs) _ e)))

  all_ordered : (kinds : List Kind) (ts : ElmTypes (Leaf ℕ)) → are_formed kinds ts ≡ true → ordered_all ts ≡ true
  all_ordered kinds NoType e = refl
  all_ordered kinds (MoreType t ts) e =
      both (ordered t) (ordered_all ts) (formed_ordered kinds t (first_true (is_formed kinds t) _ e))
      (all_ordered kinds ts (second_true (is_formed kinds t) _ e))

  fields_ordered : (kinds : List Kind) (fs : Fields (Leaf ℕ)) → fields_formed kinds fs ≡ true → ordered_fields fs ≡ true
  fields_ordered kinds NoField e = refl
  fields_ordered kinds (MoreField k t fs) e =
      both (ordered t) (ordered_fields fs) (formed_ordered kinds t (first_true (is_formed kinds t) _ e))
      (fields_ordered kinds fs (second_true (is_formed kinds t) _ e))

-- ---- other names leave the size

mutual
  size_renamed : {X Y : Type 0} (f : X → Y) (t : ElmType X) → size (renamed f t) ≡ size t
  size_renamed f (Made h ts) = ap (λ n. 1 + n) (size_all_renamed f ts)
  size_renamed f (Record fs Closed) = ap (λ n. 1 + n) (size_fields_renamed f fs)
  size_renamed f (Record NoField (Over x)) = refl
  size_renamed f (Record (MoreField k t fs) (Over x)) =
      ap (λ n. 2 + (n + size_fields (renamed_fields f fs))) (size_renamed f t)
      ∙ ap (λ n. 2 + (size t + n)) (size_fields_renamed f fs)

  size_all_renamed : {X Y : Type 0} (f : X → Y) (ts : ElmTypes X) → size_all (renamed_all f ts) ≡ size_all ts
  size_all_renamed f NoType = refl
  size_all_renamed f (MoreType t ts) =
      ap (λ n. n + size_all (renamed_all f ts)) (size_renamed f t) ∙ ap (λ n. size t + n) (size_all_renamed f ts)

  size_fields_renamed : {X Y : Type 0} (f : X → Y) (fs : Fields X) → size_fields (renamed_fields f fs) ≡ size_fields fs
  size_fields_renamed f NoField = refl
  size_fields_renamed f (MoreField k t fs) =
      ap (λ n. n + size_fields (renamed_fields f fs)) (size_renamed f t) ∙ ap (λ n. size t + n) (size_fields_renamed f fs)

-- ---- a scheme with a constant for each variable

abbrev pub constants : ℕ → List Kind → ℕ → Ground
constants n kinds i = variable (fresh n kinds i)

leaf_is : (n : ℕ) (kinds : List Kind) (l : Leaf ℕ) → leaf_value (constants n kinds) l ≡ variable (leaf_constant n kinds l)
leaf_is n kinds (Free i) = refl
leaf_is n kinds (Fixed r) = refl

with_constants : (n : ℕ) (kinds : List Kind) (t : ElmType (Leaf ℕ)) → ordered t ≡ true
    → value (constants n kinds) t ≡ renamed (leaf_constant n kinds) t
with_constants n kinds t e =
    ap (λ f. substitute f t) (λ i l. leaf_is n kinds l i) ∙ renames_by_substitution (leaf_constant n kinds) t e

own_instance : (n : ℕ) (s : Scheme) → ordered s.type ≡ true → IsInstance s (renamed (leaf_constant n s.kinds) s.type)
own_instance n s e = record {
  choice = constants n s.kinds;
  ground = λ i. refl;
  kinds = fresh_fits n s.kinds;
  is = with_constants n s.kinds s.type e;
}

-- ---- two principal types

-- the choices for each scheme at which it is the other's own instance
pub record Twins (s u : Scheme) : Type 0 where
  pub length_of : ℕ
  pub choice : ℕ → Ground
  pub other : ℕ → Ground
  pub turns : s.type ≡ renamed (turned length_of choice) u.type
  pub paired : AllByRecursion (Paired length_of s.kinds u.kinds choice other) (variables u.type)
  pub first_kinds : (i : ℕ) → fits (kind_at u.kinds i) (choice i) ≡ true
  pub second_kinds : (i : ℕ) → fits (kind_at s.kinds i) (other i) ≡ true

pub twins : (p : Place) (items : List Item) (t : Wanted) (s u : Scheme) → IsPrincipal p items t s → IsPrincipal p items t u → Twins s u
twins p items t s u ps pu =
    let n = bound (variables s.type) + bound (variables u.type) in
    let os : ordered s.type ≡ true = formed_ordered s.kinds s.type ps.formed in
    let ou : ordered u.type ≡ true = formed_ordered u.kinds u.type pu.formed in
    let gs = renamed (leaf_constant n s.kinds) s.type in
    let gu = renamed (leaf_constant n u.kinds) u.type in
    let first : IsInstance u gs = (pu.each gs).0 ((ps.each gs).1 (own_instance n s os)) in
    let second : IsInstance s gu = (ps.each gu).0 ((pu.each gu).1 (own_instance n u ou)) in
    let m = match n s.kinds u.kinds first.choice second.choice s.type u.type
    (all_low n (variables s.type) (omega arith)) (all_low n (variables u.type) (omega arith)) os ou first.is second.is in
    record {
      length_of = n;
      choice = first.choice;
      other = second.choice;
      turns = m.0;
      paired = m.1;
      first_kinds = first.kinds;
      second_kinds = second.kinds;
    }

pub one_size : OneSize
one_size p items t s u ps pu =
    let m = twins p items t s u ps pu in
    ap size m.turns ∙ size_renamed (turned m.length_of m.choice) u.type
