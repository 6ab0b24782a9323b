-- What tells tests.
use Rattle.std.proofs.Common.{◌≡◌, ℕ, zero, suc, ◌<◌, List, [], ◌∷◌, length, get_or, Bool, true, false, if◌then◌else◌}
use Rattle.std.proofs.Common.{Some, pos, refl, ap, ◌∙◌, arith}
use Rattle.elm_canon.specs.Unions.{Union, TupleUnion, tuple_alternative}
use Rattle.elm_canon.specs.declared.unions.Alternative.{Alternative}
use Rattle.elm_canon.specs.declared.unions.Tag.TheVariants.{Number}
use Rattle.js_emit.specs.Matrix.{Test, Literally, Tagged, same_test, has_test, tests_of_union}
use Rattle.decision_tree.specs.Marks.{mark_of, same_marks}

pub tuple_mark : (n : ℕ) → (n ≡ 0 → ⊥)
    → mark_of (Tagged (TupleUnion n) (tuple_alternative n)) ≡ Some (record { tag = Number (pos 0); arity = n })
tuple_mark zero h = absurd (h refl)
tuple_mark (suc n) h = refl

pub tuple_tag : (n : ℕ) → (n ≡ 0 → ⊥) → (tuple_alternative n).tag ≡ Number (pos 0)
tuple_tag zero h = absurd (h refl)
tuple_tag (suc n) h = refl

pub tuple_arity : (n : ℕ) → (tuple_alternative n).arity ≡ n
tuple_arity zero = refl
tuple_arity (suc n) = refl

pub same_tagged : (u : Union) (a : Alternative) (t : Test)
    → same_test (Tagged u a) t ≡ same_marks (mark_of (Tagged u a)) (mark_of t)
same_tagged u a (Literally l) = refl
same_tagged u a (Tagged v b) = refl

-- one that is the same makes the test one of them
pub has_at : (t : Test) (u : Union) (cs : List Alternative) (i : ℕ) (a : Alternative) → i < length cs
    → get_or cs i a ≡ a
    → same_test t (Tagged u a) ≡ true → has_test t (tests_of_union u cs) ≡ true
has_at t u [] i a h at e = absurd (omega (arith, h))
has_at t u (b ∷ cs) zero a h at e =
    ap (λ z. if z then true else has_test t (tests_of_union u cs)) (ap (λ c. same_test t (Tagged u c)) at ∙ e)
has_at t u (b ∷ cs) (suc i) a h at e = by_first (same_test t (Tagged u b)) (has_at t u cs i a (omega (arith, h)) at e)
  where
    by_first : (z : Bool) → has_test t (tests_of_union u cs) ≡ true
        → (if z then true else has_test t (tests_of_union u cs)) ≡ true
    by_first true g = refl
    by_first false g = g

pub if_same : (z : Bool) → (if z then true else false) ≡ z
if_same true = refl
if_same false = refl
