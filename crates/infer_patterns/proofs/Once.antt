-- Each field once: of proper patterns, and of the parts of patterns.
use Rattle.std.proofs.Common.{◌≡◌, ℕ, zero, suc, ◌<◌, List, [], ◌∷◌, length, get_or, Bool, true, false, refl}
use Rattle.std.proofs.Common.{ap, ◌∙◌, arith}
use Rattle.std.specs.Prelude.{not, ◌&&◌, ◌||◌}
use Rattle.std.specs.List.{AllByRecursion, list_any}
use Rattle.elm_canon.specs.Names.{Name, same_name}
use Rattle.elm_canon.specs.Tree.{Pattern, Anything, Named, As, Exactly, Construct, FieldsOf, LocatedPattern, Patterns}
use Rattle.elm_canon.specs.Tree.{NoPattern, MorePattern, patterns_of}
use Rattle.elm_canon.specs.View.{items_before}
use Rattle.elm_canon.specs.Proper.{ProperPattern, ProperPatterns}
use Rattle.elm_canon.specs.Spelled.{is_word, are_fields}
use Rattle.elm_type.specs.Ground.{contains}
use Rattle.infer_steps.specs.Records.{AreDistinct}
use Rattle.infer_patterns.specs.Once.{FieldsOnce, EachFieldsOnce}

-- ---- of proper patterns

and_two : (a b : Bool) → (a && b) ≡ true → b ≡ true
and_two true b h = h
and_two false b h = absurd cc

and_one : (a b : Bool) → (a && b) ≡ true → a ≡ true
and_one true b h = refl
and_one false b h = h

not_true : (b : Bool) → not b ≡ true → b ≡ false
not_true true h = absurd cc
not_true false h = refl

contained_any : (x : Name) (xs : List Name) → contains x xs ≡ list_any (same_name x) xs
contained_any x [] = refl
contained_any x (y ∷ ys) = ap (λ b. same_name x y || b) (contained_any x ys)

none_contained : (x : Name) (xs : List Name) → list_any (same_name x) xs ≡ false → contains x xs ≡ false
none_contained x xs h = contained_any x xs ∙ h

pub fields_distinct : (xs : List Name) → are_fields xs ≡ true → AreDistinct xs
fields_distinct [] h = tt
fields_distinct (x ∷ xs) h =
    let rest = and_two (is_word x) (not (list_any (same_name x) xs) && are_fields xs) h in (
      none_contained x xs (not_true (list_any (same_name x) xs)
          (and_one (not (list_any (same_name x) xs)) (are_fields xs) rest)),
      fields_distinct xs (and_two (not (list_any (same_name x) xs)) (are_fields xs) rest),
    )

mutual
  pub proper_once : (p : Pattern) → ProperPattern p → FieldsOnce p
  proper_once Anything h = tt
  proper_once (Named x) h = tt
  proper_once (As p x) h = proper_once p h.0
  proper_once (Exactly l) h = tt
  proper_once (Construct u c ps) h = all_proper_once ps h.1.1
  proper_once (FieldsOf xs) h = fields_distinct xs h
  proper_once (LocatedPattern pos p) h = proper_once p h

  pub all_proper_once : (ps : Patterns) → ProperPatterns ps → EachFieldsOnce ps
  all_proper_once NoPattern h = tt
  all_proper_once (MorePattern p ps) h = (proper_once p h.0, all_proper_once ps h.1)

-- ---- of parts

pub once_at : (ps : List Pattern) (i : ℕ) (p : Pattern) → i < length ps → EachFieldsOnce (patterns_of ps)
    → FieldsOnce (get_or ps i p)
once_at [] i p l h = absurd (omega (arith, l))
once_at (q ∷ ps) zero p l h = h.0
once_at (q ∷ ps) (suc i) p l h = once_at ps i p (omega (arith, l)) h.1

pub all_once_at : (ps : List Pattern) (i : ℕ) (p : Pattern) → i < length ps → AllByRecursion FieldsOnce ps
    → FieldsOnce (get_or ps i p)
all_once_at [] i p l h = absurd (omega (arith, l))
all_once_at (q ∷ ps) zero p l h = h.0
all_once_at (q ∷ ps) (suc i) p l h = all_once_at ps i p (omega (arith, l)) h.1

pub items_once : (rest : Pattern) (ps : List Pattern) → FieldsOnce (items_before rest ps) → AllByRecursion FieldsOnce ps
items_once rest [] h = tt
items_once rest (p ∷ ps) h = (h.0, items_once rest ps h.1.0)

pub rest_once : (rest : Pattern) (ps : List Pattern) → FieldsOnce (items_before rest ps) → FieldsOnce rest
rest_once rest [] h = h
rest_once rest (p ∷ ps) h = rest_once rest ps h.1.0
