-- Whether a name is among fields in order, and whether a type is formed with its kinds in order.
use Rattle.std.proofs.Common.{◌≡◌, ℕ, zero, suc, List, [], ◌∷◌, map, Bool, true, false, refl, sym, ap, ◌∙◌, subst}
use Rattle.std.specs.Prelude.{◌&&◌, ◌||◌, Contains}
use mathlib.Core.Logic.{⊎_elim}
use Rattle.std.specs.Str.{bytes_eq}
use Rattle.std.proofs.lemmas.Slice.Eq.{bytes_eq-Decides}
use Rattle.elm_type.specs.Types.{Name, ElmType, ElmTypes, Fields, End, Closed, Over, Made, Record, NoType, MoreType}
use Rattle.elm_type.specs.Types.{NoField, MoreField, Leaf, Free, Fixed, Kind, kind_at}
use Rattle.elm_type.specs.Rows.{rise}
use Rattle.elm_type.specs.Ground.{contains}
use Rattle.type_items.specs.Principal.{leaf_lacks, end_lacks, end_lacks_each, is_formed, are_formed, fields_formed}
use Rattle.elm_type.specs.Order.{in_order, kind_in_order}
use Rattle.elm_type.proofs.Ascending.{first_or, first_in, rest_in, none_in}
use Rattle.elm_type.proofs.Inserted.{to_order, from_order}
use Rattle.type_items.specs.Forms.{SameFormed}

-- ---- names among names

pub is_among : (x : Name) (ys : List Name) → contains x ys ≡ true → Contains ys x
is_among x [] e = absurd cc
is_among x (y ∷ ys) e = by (bytes_eq x y) refl e (is_among x ys)
  where
    by : (b : Bool) → bytes_eq x y ≡ b → (bytes_eq x y || contains x ys) ≡ true → (contains x ys ≡ true → Contains ys x)
        → Contains (y ∷ ys) x
    by true d e rest = subst (Contains (y ∷ ys)) (sym ((bytes_eq-Decides x y).0 d)) (first_in y ys)
    by false d e rest = rest_in y ys x (rest (ap (λ b. b || contains x ys) (sym d) ∙ e))

or_first : (a b : Bool) → a ≡ true → (a || b) ≡ true
or_first true b e = refl
or_first false b e = absurd cc

or_second : (a b : Bool) → b ≡ true → (a || b) ≡ true
or_second true b e = refl
or_second false b e = e

pub is_contained : (x : Name) (ys : List Name) → Contains ys x → contains x ys ≡ true
is_contained x [] h = absurd (none_in x h)
is_contained x (y ∷ ys) h =
    ⊎_elim (λ e. or_first (bytes_eq x y) (contains x ys) ((bytes_eq-Decides x y).1 (sym e)))
    (λ c. or_second (bytes_eq x y) (contains x ys) (is_contained x ys c)) (first_or y ys x h)

same_answer : (a b : Bool) → (a ≡ true → b ≡ true) → (b ≡ true → a ≡ true) → a ≡ b
same_answer true true f g = refl
same_answer true false f g = let e = f refl in absurd cc
same_answer false true f g = let e = g refl in absurd cc
same_answer false false f g = refl

pub among_ordered : (x : Name) (ys : List Name) → contains x (in_order ys) ≡ contains x ys
among_ordered x ys =
    same_answer (contains x (in_order ys)) (contains x ys)
    (λ e. is_contained x ys (from_order ys x (is_among x (in_order ys) e)))
    (λ e. is_contained x (in_order ys) (to_order ys x (is_among x ys e)))

-- ---- formed types

ordered_at : (kinds : List Kind) (i : ℕ) → kind_at (map kind_in_order kinds) i ≡ kind_in_order (kind_at kinds i)
ordered_at [] i = refl
ordered_at (k ∷ ks) zero = refl
ordered_at (k ∷ ks) (suc i) = ordered_at ks i

module _ (kinds : List Kind) where
  abbrev ordered : List Kind
  ordered = map kind_in_order kinds

  leaf_same : (k : Name) (l : Leaf ℕ) → contains k (leaf_lacks ordered l) ≡ contains k (leaf_lacks kinds l)
  leaf_same k (Free i) = ap (λ j. contains k j.lacks) (ordered_at kinds i) ∙ among_ordered k (kind_at kinds i).lacks
  leaf_same k (Fixed r) = refl

  end_same : (k : Name) (end : End (Leaf ℕ)) → end_lacks ordered k end ≡ end_lacks kinds k end
  end_same k Closed = refl
  end_same k (Over l) = leaf_same k l

  each_same : (fs : Fields (Leaf ℕ)) (end : End (Leaf ℕ)) → end_lacks_each ordered fs end ≡ end_lacks_each kinds fs end
  each_same NoField end = refl
  each_same (MoreField k t fs) end =
      ap (λ b. b && end_lacks_each ordered fs end) (end_same k end)
      ∙ ap (λ b. end_lacks kinds k end && b) (each_same fs end)

  mutual
    formed_same : (t : ElmType (Leaf ℕ)) → is_formed ordered t ≡ is_formed kinds t
    formed_same (Made h ts) = all_same ts
    formed_same (Record fs end) =
        ap (λ b. rise fs && (b && fields_formed ordered fs)) (each_same fs end)
        ∙ ap (λ b. rise fs && (end_lacks_each kinds fs end && b)) (fields_same fs)

    all_same : (ts : ElmTypes (Leaf ℕ)) → are_formed ordered ts ≡ are_formed kinds ts
    all_same NoType = refl
    all_same (MoreType t ts) =
        ap (λ b. b && are_formed ordered ts) (formed_same t) ∙ ap (λ b. is_formed kinds t && b) (all_same ts)

    fields_same : (fs : Fields (Leaf ℕ)) → fields_formed ordered fs ≡ fields_formed kinds fs
    fields_same NoField = refl
    fields_same (MoreField k t fs) =
        ap (λ b. b && fields_formed ordered fs) (formed_same t) ∙ ap (λ b. is_formed kinds t && b) (fields_same fs)

pub same_formed : SameFormed
same_formed kinds t = formed_same kinds t
