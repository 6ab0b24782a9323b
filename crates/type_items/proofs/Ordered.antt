-- Two principal types with their variables in order of appearance are one: the same type, and the same classes.
use Rattle.std.proofs.Common.{◌≡◌, ℕ, ◌+◌, List, [], ◌∷◌, length, map, true, refl, sym, ap, ◌∙◌, subst, arith}
use Rattle.std.specs.Prelude.{nat_eq}
use Rattle.std.specs.List.{AllByRecursion, position_or_len}
use Rattle.elm_type.specs.Types.{variable, variables, Leaf, Free, Fixed, Kind, kind_at, Scheme}
use Rattle.elm_type.specs.Classes.{meets, is_below}
use Rattle.elm_type.specs.Schemes.{in_order, appearing, placed, rename}
use Rattle.elm_type.specs.declared.class.Class.{Class}
use Rattle.elm_type.specs.declared.class.Class.TheVariants.{Any, Number, Comparable, Appendable, CompAppend}
use Rattle.elm_type.specs.Ground.{fits}
use Rattle.type_items.specs.Uniqueness.{SameScheme, OneScheme}
use Rattle.type_items.proofs.Fresh.{fresh, number_of_fresh}
use Rattle.type_items.proofs.Rows.{first_true}
use Rattle.type_items.proofs.Matching.{turned, number_in, Paired}
use Rattle.type_items.proofs.Orders.{variables_renamed, kept, each_kept, OfLeaf, all_in_order, leaf_map}
use Rattle.type_items.proofs.Orders.{order_same, position_same}
use Rattle.type_items.proofs.Sizes.{Twins, twins}

fresh_apart : (n : ℕ) (kinds : List Kind) (i j : ℕ) → fresh n kinds i ≡ fresh n kinds j → i ≡ j
fresh_apart n kinds i j e =
    let a : n + i ≡ n + j = sym (number_of_fresh n kinds i) ∙ (ap (λ r. length r.place) e ∙ number_of_fresh n kinds j) in
    omega (arith, a)

-- classes that are below each other
antisymmetric : (c d : Class) → is_below c d ≡ true → is_below d c ≡ true → c ≡ d
antisymmetric Any Any a b = refl
antisymmetric Any Number a b = absurd cc
antisymmetric Any Comparable a b = absurd cc
antisymmetric Any Appendable a b = absurd cc
antisymmetric Any CompAppend a b = absurd cc
antisymmetric Number Any a b = absurd cc
antisymmetric Number Number a b = refl
antisymmetric Number Comparable a b = absurd cc
antisymmetric Number Appendable a b = absurd cc
antisymmetric Number CompAppend a b = absurd cc
antisymmetric Comparable Any a b = absurd cc
antisymmetric Comparable Number a b = absurd cc
antisymmetric Comparable Comparable a b = refl
antisymmetric Comparable Appendable a b = absurd cc
antisymmetric Comparable CompAppend a b = absurd cc
antisymmetric Appendable Any a b = absurd cc
antisymmetric Appendable Number a b = absurd cc
antisymmetric Appendable Comparable a b = absurd cc
antisymmetric Appendable Appendable a b = refl
antisymmetric Appendable CompAppend a b = absurd cc
antisymmetric CompAppend Any a b = absurd cc
antisymmetric CompAppend Number a b = absurd cc
antisymmetric CompAppend Comparable a b = absurd cc
antisymmetric CompAppend Appendable a b = absurd cc
antisymmetric CompAppend CompAppend a b = refl

-- a scheme in order has the variables of its type at their places
in_place : (s : Scheme) → rename s ≡ s → AllByRecursion (λ l. placed (appearing s) l ≡ l) (variables s.type)
in_place s e =
    each_kept (placed (appearing s)) (variables s.type)
    (sym (variables_renamed (placed (appearing s)) s.type) ∙ ap (λ k. variables k.type) e)

free_place : (order : List ℕ) (i : ℕ) → placed order (Free i) ≡ Free i → position_or_len (nat_eq i) order ≡ i
free_place order i e = cc

module _ (s u : Scheme) (m : Twins s u) where
  abbrev number : ℕ → ℕ
  number i = number_in m.length_of (m.choice i)

  -- what is known of variable i of the second type
  pub record Known (i : ℕ) : Type 0 where
    pub here : m.choice i ≡ variable (fresh m.length_of s.kinds (number i))
    pub there : m.other (number i) ≡ variable (fresh m.length_of u.kinds i)

  all_known : (ls : List (Leaf ℕ)) → AllByRecursion (Paired m.length_of s.kinds u.kinds m.choice m.other) ls → AllByRecursion (OfLeaf Known) ls
  all_known [] h = tt
  all_known (Free i ∷ ls) h = (record { here = h.0.0; there = h.0.1 }, all_known ls h.1)
  all_known (Fixed r ∷ ls) h = (tt, all_known ls h.1)

  apart : (i j : ℕ) → Known i → Known j → number i ≡ number j → i ≡ j
  apart i j a b e =
      let same : variable (fresh m.length_of u.kinds i) ≡ variable (fresh m.length_of u.kinds j) = sym a.there ∙ (ap m.other e ∙ b.there) in
      let rigid : fresh m.length_of u.kinds i ≡ fresh m.length_of u.kinds j = cc in
      fresh_apart m.length_of u.kinds i j rigid

  map_is : (ls : List (Leaf ℕ)) → map (turned m.length_of m.choice) ls ≡ map (leaf_map number Known apart) ls
  map_is [] = refl
  map_is (Free i ∷ ls) = ap (λ rest. Free (number i) ∷ rest) (map_is ls)
  map_is (Fixed r ∷ ls) = ap (λ rest. Fixed r ∷ rest) (map_is ls)

  abbrev order : List ℕ
  order = appearing u

  known : AllByRecursion (OfLeaf Known) (variables u.type)
  known = all_known (variables u.type) m.paired

  known_order : AllByRecursion Known order
  known_order = all_in_order Known [] (variables u.type) tt known

  variables_are : variables s.type ≡ map (leaf_map number Known apart) (variables u.type)
  variables_are =
      ap variables m.turns ∙ (variables_renamed (turned m.length_of m.choice) u.type ∙ map_is (variables u.type))

  order_is : appearing s ≡ map number order
  order_is = ap (in_order []) variables_are ∙ order_same number Known apart [] (variables u.type) tt known

  -- each variable has its number in both
  numbers : (ls : List (Leaf ℕ)) → AllByRecursion (OfLeaf Known) ls → AllByRecursion (λ l. placed order l ≡ l) ls
      → AllByRecursion (λ l. placed (appearing s) l ≡ l) (map (leaf_map number Known apart) ls)
      → AllByRecursion (OfLeaf (λ i. number i ≡ i)) ls
  numbers [] k a b = tt
  numbers (Free i ∷ ls) k a b =
      let there : position_or_len (nat_eq (number i)) (appearing s) ≡ number i = free_place (appearing s) (number i) b.0 in
      let here : position_or_len (nat_eq i) order ≡ i = free_place order i a.0 in (
        sym there ∙ (ap (position_or_len (nat_eq (number i))) order_is ∙ (position_same number Known apart i order k.0 known_order ∙ here)),
        numbers ls k.1 a.1 b.1,
      )
  numbers (Fixed r ∷ ls) k a b = (tt, numbers ls k.1 a.1 b.1)

  turned_kept : (ls : List (Leaf ℕ)) → AllByRecursion (OfLeaf (λ i. number i ≡ i)) ls
      → AllByRecursion (λ l. turned m.length_of m.choice l ≡ l) ls
  turned_kept [] h = tt
  turned_kept (Free i ∷ ls) h = (ap Free h.0, turned_kept ls h.1)
  turned_kept (Fixed r ∷ ls) h = (refl, turned_kept ls h.1)

  -- a variable's class in both
  same_class : (i : ℕ) → Known i → number i ≡ i → (kind_at s.kinds i).class ≡ (kind_at u.kinds i).class
  same_class i k e =
      let here : m.choice i ≡ variable (fresh m.length_of s.kinds i) = k.here ∙ ap (λ j. variable (fresh m.length_of s.kinds j)) e in
      let there : m.other i ≡ variable (fresh m.length_of u.kinds i) = sym (ap m.other e) ∙ k.there in
      let down : is_below (kind_at s.kinds i).class (kind_at u.kinds i).class ≡ true =
      first_true (meets (kind_at u.kinds i).class (variable (fresh m.length_of s.kinds i))) _ (ap (fits (kind_at u.kinds i)) (sym here) ∙ m.first_kinds i) in
      let up : is_below (kind_at u.kinds i).class (kind_at s.kinds i).class ≡ true =
      first_true (meets (kind_at s.kinds i).class (variable (fresh m.length_of u.kinds i))) _ (ap (fits (kind_at s.kinds i)) (sym there) ∙ m.second_kinds i) in
      antisymmetric (kind_at s.kinds i).class (kind_at u.kinds i).class down up

  classes_at : (is : List ℕ) → AllByRecursion Known is → AllByRecursion (λ i. number i ≡ i) is
      → map (λ k. k.class) (map (kind_at s.kinds) is) ≡ map (λ k. k.class) (map (kind_at u.kinds) is)
  classes_at [] k e = refl
  classes_at (i ∷ is) k e =
      ap (λ c. c ∷ map (λ k. k.class) (map (kind_at s.kinds) is)) (same_class i k.0 e.0)
      ∙ ap (λ cs. (kind_at u.kinds i).class ∷ cs) (classes_at is k.1 e.1)

  pub same_scheme : rename s ≡ s → rename u ≡ u → SameScheme s u
  same_scheme rs ru =
      let at_numbers = numbers (variables u.type) known (in_place u ru)
      (subst (AllByRecursion (λ l. placed (appearing s) l ≡ l)) variables_are (in_place s rs)) in
      let type : s.type ≡ u.type = m.turns ∙ kept (turned m.length_of m.choice) u.type (turned_kept (variables u.type) at_numbers) in
      let same_order : appearing s ≡ order = ap (λ t. in_order [] (variables t)) type in
      let numbers_kept : AllByRecursion (λ i. number i ≡ i) order = all_in_order (λ i. number i ≡ i) [] (variables u.type) tt at_numbers in
      record {
        type = type;
        classes =
            ap (λ k. map (λ j. j.class) k.kinds) (sym rs)
            ∙ (ap (λ o. map (λ j. j.class) (map (kind_at s.kinds) o)) same_order
            ∙ (classes_at order known_order numbers_kept ∙ ap (λ k. map (λ j. j.class) k.kinds) ru));
      }

pub one_scheme : OneScheme
one_scheme p items t s u ps pu rs ru = same_scheme s u (twins p items t s u ps pu) rs ru
