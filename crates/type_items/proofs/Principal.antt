-- Two principal types of the same have one form.
use Rattle.std.proofs.Common.{◌≡◌, ℕ, List, [], ◌∷◌, map, Bool, true, false, refl, sym, ap, ◌∙◌, subst}
use Rattle.std.specs.Prelude.{◌&&◌, Contains, ◌↔◌}
use mathlib.Core.Logic.{⊎_elim}
use Rattle.std.specs.List.{AllByRecursion}
use Rattle.elm_type.specs.Types.{Name, variable, variables, renamed, Leaf, Free, Fixed, Kind, kind_at, Scheme, Rigid}
use Rattle.elm_type.specs.Schemes.{in_order as by_appearance, appearing, rename}
use Rattle.elm_type.specs.Ground.{contains, lacks_all, fits}
use Rattle.elm_type.specs.Classes.{meets}
use Rattle.type_items.proofs.Fresh.{fresh}
use Rattle.type_items.proofs.Rows.{first_true, second_true}
use Rattle.type_items.proofs.Matching.{turned, Paired}
use Rattle.type_items.proofs.Orders.{variables_renamed, each_kept, OfLeaf, all_in_order}
use Rattle.type_items.proofs.Ordered.{same_scheme}
use Rattle.type_items.proofs.Sizes.{Twins, twins}
use Rattle.elm_type.specs.Order.{in_order, kind_in_order, scheme_in_order}
use Rattle.elm_type.proofs.Ascending.{first_or, none_in}
use Rattle.elm_type.proofs.Inserted.{one_form}
use Rattle.type_items.specs.Forms.{OneForm}
use Rattle.type_items.proofs.Lacked.{is_among}

-- a constant that lacks fields lacks each of them
each_lacked : (xs : List Name) (r : Rigid) → lacks_all xs (variable r) ≡ true → (z : Name) → Contains xs z → Contains r.lacks z
each_lacked [] r e z h = absurd (none_in z h)
each_lacked (x ∷ xs) r e z h =
    ⊎_elim (λ d. subst (Contains r.lacks) d (is_among x r.lacks (first_true (contains x r.lacks) _ e)))
    (λ c. each_lacked xs r (second_true (contains x r.lacks) _ e) z c) (first_or x xs z h)

module _ (s u : Scheme) (m : Twins s u) where
  -- what each variable lacks in one of the schemes it lacks in the other
  pub record SameLacks (i : ℕ) : Type 0 where
    pub class : (kind_at s.kinds i).class ≡ (kind_at u.kinds i).class
    pub lacks : in_order (kind_at s.kinds i).lacks ≡ in_order (kind_at u.kinds i).lacks

  down : (i : ℕ) → m.choice i ≡ variable (fresh m.length_of s.kinds i) → (z : Name) → Contains (kind_at u.kinds i).lacks z
      → Contains (kind_at s.kinds i).lacks z
  down i e z h =
      each_lacked (kind_at u.kinds i).lacks (fresh m.length_of s.kinds i)
      (second_true (meets (kind_at u.kinds i).class (variable (fresh m.length_of s.kinds i))) _
      (ap (fits (kind_at u.kinds i)) (sym e) ∙ m.first_kinds i)) z h

  up : (i : ℕ) → m.other i ≡ variable (fresh m.length_of u.kinds i) → (z : Name) → Contains (kind_at s.kinds i).lacks z
      → Contains (kind_at u.kinds i).lacks z
  up i e z h =
      each_lacked (kind_at s.kinds i).lacks (fresh m.length_of u.kinds i)
      (second_true (meets (kind_at s.kinds i).class (variable (fresh m.length_of u.kinds i))) _
      (ap (fits (kind_at s.kinds i)) (sym e) ∙ m.second_kinds i)) z h

  abbrev OneOrderOf : ℕ → Type 0
  OneOrderOf i = in_order (kind_at s.kinds i).lacks ≡ in_order (kind_at u.kinds i).lacks

  one_order_of : (l : Leaf ℕ) → turned m.length_of m.choice l ≡ l → Paired m.length_of s.kinds u.kinds m.choice m.other l
      → OfLeaf OneOrderOf l
  one_order_of (Fixed r) e h = tt
  one_order_of (Free i) e h =
      let number : _ ≡ i = cc in
      let here : m.choice i ≡ variable (fresh m.length_of s.kinds i) = h.0 ∙ ap (λ j. variable (fresh m.length_of s.kinds j)) number in
      let there : m.other i ≡ variable (fresh m.length_of u.kinds i) = sym (ap m.other number) ∙ h.1 in
      one_form (kind_at s.kinds i).lacks (kind_at u.kinds i).lacks (λ z. (up i there z, down i here z))

  all_one : (ls : List (Leaf ℕ)) → AllByRecursion (λ l. turned m.length_of m.choice l ≡ l) ls
      → AllByRecursion (Paired m.length_of s.kinds u.kinds m.choice m.other) ls → AllByRecursion (OfLeaf OneOrderOf) ls
  all_one [] e h = tt
  all_one (l ∷ ls) e h = (one_order_of l e.0 h.0, all_one ls e.1 h.1)

  kinds_at : (is : List ℕ) → AllByRecursion OneOrderOf is
      → map (λ k. k.class) (map (kind_at s.kinds) is) ≡ map (λ k. k.class) (map (kind_at u.kinds) is)
      → map kind_in_order (map (kind_at s.kinds) is) ≡ map kind_in_order (map (kind_at u.kinds) is)
  kinds_at [] h e = refl
  kinds_at (i ∷ is) h e =
      let class : (kind_at s.kinds i).class ≡ (kind_at u.kinds i).class = cc in
      let rest : map (λ k. k.class) (map (kind_at s.kinds) is) ≡ map (λ k. k.class) (map (kind_at u.kinds) is) = cc in
      let kind : kind_in_order (kind_at s.kinds i) ≡ kind_in_order (kind_at u.kinds i) =
      λ j. record { class = class j; lacks = h.0 j } in
      ap (λ k. k ∷ map kind_in_order (map (kind_at s.kinds) is)) kind
      ∙ ap (λ ks. kind_in_order (kind_at u.kinds i) ∷ ks) (kinds_at is h.1 rest)

  pub one_scheme_form : rename s ≡ s → rename u ≡ u → scheme_in_order s ≡ scheme_in_order u
  one_scheme_form rs ru =
      let same = same_scheme s u m rs ru in
      let turns : variables u.type ≡ map (turned m.length_of m.choice) (variables u.type) =
      ap variables (sym same.type ∙ m.turns) ∙ variables_renamed (turned m.length_of m.choice) u.type in
      let each = all_one (variables u.type) (each_kept (turned m.length_of m.choice) (variables u.type) (sym turns)) m.paired in
      let each_number : AllByRecursion OneOrderOf (appearing u) = all_in_order OneOrderOf [] (variables u.type) tt each in
      let one_place : appearing s ≡ appearing u = ap (λ t. by_appearance [] (variables t)) same.type in
      let of_s : s.kinds ≡ map (kind_at s.kinds) (appearing u) =
      ap (λ k. k.kinds) (sym rs) ∙ ap (map (kind_at s.kinds)) one_place in
      let of_u : u.kinds ≡ map (kind_at u.kinds) (appearing u) = ap (λ k. k.kinds) (sym ru) in
      let classes = sym (ap (map (λ k. k.class)) of_s) ∙ (same.classes ∙ ap (map (λ k. k.class)) of_u) in
      let kinds : map kind_in_order s.kinds ≡ map kind_in_order u.kinds =
      ap (map kind_in_order) of_s ∙ (kinds_at (appearing u) each_number classes ∙ sym (ap (map kind_in_order) of_u)) in
      λ j. record { type = same.type j; kinds = kinds j }

pub one_form_of : OneForm
one_form_of p items t s u ps pu rs ru = one_scheme_form s u (twins p items t s u ps pu) rs ru
