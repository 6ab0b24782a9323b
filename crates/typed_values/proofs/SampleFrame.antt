-- The sample frame is one: a constant meets its class, and lacks its fields.
use Rattle.std.proofs.Common.{◌≡◌, List, [], ◌∷◌, ◌++◌, Bool, true, false, refl, sym, ap, ◌∙◌}
use Rattle.std.specs.Prelude.{◌||◌}
use Rattle.std.specs.Str.{bytes_eq}
use Rattle.std.proofs.lemmas.List.{append_assoc}
use Rattle.std.proofs.lemmas.Slice.Eq.{bytes_eq-Decides}
use Rattle.elm_type.specs.Types.{Name, Rigid, variable}
use Rattle.elm_type.specs.Classes.{is_below}
use Rattle.elm_type.specs.declared.class.Class.{Class}
use Rattle.elm_type.specs.declared.class.Class.TheVariants.{Any, Number, Comparable, Appendable, CompAppend}
use Rattle.elm_type.specs.Ground.{contains, lacks_all}
use Rattle.typed_values.specs.Sample.{SampleStands}
use Rattle.typed_values.proofs.Keeping.{and_both}

pub below_itself : (c : Class) → is_below c c ≡ true
below_itself Any = refl
below_itself Number = refl
below_itself Comparable = refl
below_itself Appendable = refl
below_itself CompAppend = refl

or_second : (a b : Bool) → b ≡ true → (a || b) ≡ true
or_second true b e = refl
or_second false b e = e

or_first : (a b : Bool) → a ≡ true → (a || b) ≡ true
or_first a b e = ap (λ c. c || b) e

-- a name of a list is contained in it, whatever stands before it
contained : (before : List Name) (x : Name) (after : List Name) → contains x (before ++ x ∷ after) ≡ true
contained [] x after = or_first (bytes_eq x x) (contains x after) ((bytes_eq-Decides x x).1 refl)
contained (y ∷ ys) x after = or_second (bytes_eq x y) (contains x (ys ++ x ∷ after)) (contained ys x after)

pub lacks_own : (r : Rigid) (before own : List Name) → r.lacks ≡ before ++ own → lacks_all own (variable r) ≡ true
lacks_own r before [] e = refl
lacks_own r before (x ∷ xs) e =
    and_both (contains x r.lacks) (lacks_all xs (variable r)) (ap (contains x) e ∙ contained before x xs)
    (lacks_own r (before ++ x ∷ []) xs (e ∙ sym (append_assoc before (x ∷ []) xs)))

pub sample_stands : SampleStands
sample_stands = record {
  classes = λ r. below_itself r.class;
  rests = λ r. lacks_own r [] r.lacks refl;
}
