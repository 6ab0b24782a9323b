-- What two classes ask of a type is what the class that is below both asks.
use Rattle.std.proofs.Common.{◌≡◌, ℕ, Bool, true, false, Some, None, nat_eq, refl, subst, arith}
use Rattle.std.specs.Prelude.{if◌then◌else◌, ◌||◌, ◌&&◌, not}
use Rattle.std.proofs.lemmas.Bool.Decides.{nat_tests}
use Rattle.elm_type.specs.Classes.{meet, asks, is_int, is_char, is_string, is_list, is_tuple}
use Rattle.elm_type.specs.declared.class.Class.{Class}
use Rattle.elm_type.specs.declared.class.Class.TheVariants.{Any, Number, Comparable, Appendable, CompAppend}
use Rattle.elm_type.specs.declared.demands.Demand.{Demand}
use Rattle.elm_type.specs.declared.demands.Demand.TheVariants.{Never, Always, OfParts}
use Rattle.elm_type.specs.declared.head.Head.{Head}

abbrev pub Holds : (Class → Type 0) → Demand → Type 0
Holds P Never = ⊥
Holds P Always = Unit {0}
Holds P (OfParts c) = P c

-- by what holds of the head and of the count of parts
comparable : (i c s l u z o : Bool) → Demand
comparable i c s l u z o = if (i || (c || s)) && z then Always else (if (l && o) || (u && not z) then OfParts Comparable else Never)

appendable : (s l z o : Bool) → Demand
appendable s l z o = if (s && z) || (l && o) then Always else Never

compappend : (s l z o : Bool) → Demand
compappend s l z o = if s && z then Always else (if l && o then OfParts Comparable else Never)

-- a list has a part, and a text none
both : (P : Class → Type 0) (i c s l u z o : Bool) → (z ≡ true → o ≡ true → ⊥) → Holds P (comparable i c s l u z o) → Holds P (appendable s l z o) → Holds P (compappend s l z o)
unfolding comparable appendable compappend
both P i c true l u true o h p q = tt
both P i c false true u true true h p q = absurd (h refl refl)
both P i c false true u true false h p q = absurd q
both P i c false false u true o h p q = absurd q
both P true c true true u false true h p q = p
both P true c false true u false true h p q = p
both P false true true true u false true h p q = p
both P false true false true u false true h p q = p
both P false false true true u false true h p q = p
both P false false false true u false true h p q = p
both P i c true true u false false h p q = absurd q
both P i c false true u false false h p q = absurd q
both P i c true false u false o h p q = absurd q
both P i c false false u false o h p q = absurd q

module _ (P : Class → Type 0) (h : Head) (n : ℕ) where
  apart : nat_eq n 0 ≡ true → nat_eq n 1 ≡ true → ⊥
  apart a b =
      let x : n ≡ 0 = grind (arith, nat_tests) in
      let y : n ≡ 1 = grind (arith, nat_tests) in
      omega (arith, x, y)

  both_asked : Holds P (asks Comparable h n) → Holds P (asks Appendable h n) → Holds P (asks CompAppend h n)
  unfolding comparable appendable compappend
  both_asked p q = both P (is_int h) (is_char h) (is_string h) (is_list h) (is_tuple h) (nat_eq n 0) (nat_eq n 1) apart p q

  same : (c e : Class) → Some c ≡ Some e → Holds P (asks c h n) → Holds P (asks e h n)
  same c e m p = let w : c ≡ e = cc in subst (λ x. Holds P (asks x h n)) w p

  none : {X : Type 0} {e : Class} → None ≡ Some e → X
  none m = absurd (cc)

  pub demands_meet : (c d e : Class) → meet c d ≡ Some e → Holds P (asks c h n) → Holds P (asks d h n) → Holds P (asks e h n)
  demands_meet Any d e m p q = same d e m q
  demands_meet Number Any e m p q = same Number e m p
  demands_meet Number Number e m p q = same Number e m p
  demands_meet Number Comparable e m p q = same Number e m p
  demands_meet Number Appendable e m p q = none m
  demands_meet Number CompAppend e m p q = none m
  demands_meet Comparable Any e m p q = same Comparable e m p
  demands_meet Comparable Number e m p q = same Number e m q
  demands_meet Comparable Comparable e m p q = same Comparable e m p
  demands_meet Comparable Appendable e m p q = same CompAppend e m (both_asked p q)
  demands_meet Comparable CompAppend e m p q = same CompAppend e m q
  demands_meet Appendable Any e m p q = same Appendable e m p
  demands_meet Appendable Number e m p q = none m
  demands_meet Appendable Comparable e m p q = same CompAppend e m (both_asked q p)
  demands_meet Appendable Appendable e m p q = same Appendable e m p
  demands_meet Appendable CompAppend e m p q = same CompAppend e m q
  demands_meet CompAppend Any e m p q = same CompAppend e m p
  demands_meet CompAppend Number e m p q = none m
  demands_meet CompAppend Comparable e m p q = same CompAppend e m p
  demands_meet CompAppend Appendable e m p q = same CompAppend e m p
  demands_meet CompAppend CompAppend e m p q = same CompAppend e m p
