-- Each kind has a type: a constant of that kind.
use Rattle.std.proofs.Common.{◌≡◌, List, [], ◌∷◌, ◌++◌, Bool, true, false, ◌&&◌, ◌||◌, refl, sym, ◌∙◌, ap}
use Rattle.std.specs.Str.{bytes_eq}
use Rattle.std.proofs.lemmas.List.{append_assoc}
use Rattle.std.proofs.lemmas.Slice.Eq.{bytes_eq-Decides}
use Rattle.elm_type.specs.Types.{Name, Rigid, Kind, variable}
use Rattle.elm_type.specs.Classes.{is_below}
use Rattle.elm_type.specs.declared.class.Class.{Class}
use Rattle.elm_type.specs.declared.class.Class.TheVariants.{Any, Number, Comparable, Appendable, CompAppend}
use Rattle.elm_type.specs.Ground.{contains, lacks_all, EachKindFits}

abbrev constant : Kind → Rigid
constant k = record { place = []; name = []; class = k.class; lacks = k.lacks }

below_itself : (c : Class) → is_below c c ≡ true
below_itself Any = refl
below_itself Number = refl
below_itself Comparable = refl
below_itself Appendable = refl
below_itself CompAppend = refl

or_true : (a b : Bool) → b ≡ true → (a || b) ≡ true
or_true true b e = refl
or_true false b e = e

both_true : (a b : Bool) → a ≡ true → b ≡ true → (a && b) ≡ true
both_true true b d e = e
both_true false b d e = d

or_first : (a b : Bool) → a ≡ true → (a || b) ≡ true
or_first true b e = refl
or_first false b e = absurd cc

equal_itself : (x : Name) → bytes_eq x x ≡ true
equal_itself x = (bytes_eq-Decides x x).1 refl

-- a name of a list is contained in it, whatever stands before it
contained : (before : List Name) (x : Name) (after : List Name) → contains x (before ++ x ∷ after) ≡ true
contained [] x after = or_first (bytes_eq x x) (contains x after) (equal_itself x)
contained (y ∷ ys) x after = or_true (bytes_eq x y) (contains x (ys ++ x ∷ after)) (contained ys x after)

lacks_own : (before own : List Name) (k : Kind) → k.lacks ≡ before ++ own → lacks_all own (variable (constant k)) ≡ true
lacks_own before [] k e = refl
lacks_own before (x ∷ xs) k e =
    both_true (contains x k.lacks) (lacks_all xs (variable (constant k)))
    (ap (contains x) e ∙ contained before x xs)
    (lacks_own (before ++ x ∷ []) xs k (e ∙ sym (append_assoc before (x ∷ []) xs)))

pub each_kind : EachKindFits
each_kind k = (
  variable (constant k),
  refl,
  both_true (is_below k.class k.class) (lacks_all k.lacks (variable (constant k)))
      (below_itself k.class) (lacks_own [] k.lacks k refl),
)
