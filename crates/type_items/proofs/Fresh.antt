-- Constants that stand nowhere else, one for each variable of a scheme: their places are longer than others.
use Rattle.std.proofs.Common.{◌≡◌, ℕ, zero, suc, ◌+◌, ◌<◌, ◌≤◌, List, [], ◌∷◌, ◌++◌, length, replicate, Bool, true}
use Rattle.std.proofs.Common.{false}
use Rattle.std.proofs.Common.{refl, sym, ap, ◌∙◌, arith}
use Rattle.std.specs.Prelude.{◌&&◌, ◌||◌}
use Rattle.std.specs.List.{AllByRecursion}
use Rattle.std.specs.Str.{bytes_eq}
use Rattle.std.proofs.lemmas.List.{append_assoc}
use Rattle.std.proofs.lemmas.Slice.Eq.{bytes_eq-Decides}
use Rattle.elm_type.specs.Types.{Name, Rigid, Kind, kind_at, Leaf, Free, Fixed, variable}
use Rattle.elm_type.specs.Classes.{is_below}
use Rattle.elm_type.specs.declared.class.Class.{Class}
use Rattle.elm_type.specs.declared.class.Class.TheVariants.{Any, Number, Comparable, Appendable, CompAppend}
use Rattle.elm_type.specs.Ground.{contains, lacks_all, fits}

abbrev pub fresh : ℕ → List Kind → ℕ → Rigid
fresh n kinds i = record {
  place = replicate (n + i) 0;
  name = [];
  class = (kind_at kinds i).class;
  lacks = (kind_at kinds i).lacks;
}

-- ---- each is of the kind of its variable

below_itself : (c : Class) → is_below c c ≡ true
below_itself Any = refl
below_itself Number = refl
below_itself Comparable = refl
below_itself Appendable = refl
below_itself CompAppend = refl

or_true : (a b : Bool) → b ≡ true → (a || b) ≡ true
or_true true b e = refl
or_true false b e = e

pub both : (a b : Bool) → a ≡ true → b ≡ true → (a && b) ≡ true
both true b d e = e
both false b d e = d

or_first : (a b : Bool) → a ≡ true → (a || b) ≡ true
or_first true b e = refl
or_first false b e = absurd cc

contained : (before : List Name) (x : Name) (after : List Name) → contains x (before ++ x ∷ after) ≡ true
contained [] x after = or_first (bytes_eq x x) (contains x after) ((bytes_eq-Decides x x).1 refl)
contained (y ∷ ys) x after = or_true (bytes_eq x y) (contains x (ys ++ x ∷ after)) (contained ys x after)

lacks_own : (before own : List Name) (r : Rigid) → r.lacks ≡ before ++ own → lacks_all own (variable r) ≡ true
lacks_own before [] r e = refl
lacks_own before (x ∷ xs) r e =
    both (contains x r.lacks) (lacks_all xs (variable r))
    (ap (contains x) e ∙ contained before x xs)
    (lacks_own (before ++ x ∷ []) xs r (e ∙ sym (append_assoc before (x ∷ []) xs)))

pub fresh_fits : (n : ℕ) (kinds : List Kind) (i : ℕ) → fits (kind_at kinds i) (variable (fresh n kinds i)) ≡ true
fresh_fits n kinds i =
    let k = kind_at kinds i in
    both (is_below k.class k.class) (lacks_all k.lacks (variable (fresh n kinds i))) (below_itself k.class)
    (lacks_own [] k.lacks (fresh n kinds i) refl)

-- ---- other constants have shorter places

abbrev pub Low : ℕ → Leaf ℕ → Type 0
Low n (Free i) = Unit {0}
Low n (Fixed r) = length r.place < n

abbrev pub bound : List (Leaf ℕ) → ℕ
bound [] = 0
bound (Free i ∷ ls) = bound ls
bound (Fixed r ∷ ls) = suc (length r.place) + bound ls

pub all_low : (n : ℕ) (ls : List (Leaf ℕ)) → bound ls ≤ n → AllByRecursion (Low n) ls
all_low n [] h = tt
all_low n (Free i ∷ ls) h = (tt, all_low n ls h)
all_low n (Fixed r ∷ ls) h = (omega (arith, h), all_low n ls (omega (arith, h)))

pub length_replicated : (n : ℕ) → length (replicate {A = ℕ} n 0) ≡ n
length_replicated zero = refl
length_replicated (suc n) = ap suc (length_replicated n)

pub number_of_fresh : (n : ℕ) (kinds : List Kind) (i : ℕ) → length (fresh n kinds i).place ≡ n + i
number_of_fresh n kinds i = length_replicated (n + i)
