-- A scheme with its variables in order of appearance: to put them in order once more changes nothing, and it has the
-- same instances.
use Rattle.std.proofs.Common.{◌≡◌, ℕ, List, [], ◌∷◌, map, refl, sym, ap, ◌∙◌, subst}
use Rattle.std.specs.Prelude.{nat_eq, unwrap_or}
use Rattle.std.specs.List.{AllByRecursion, position_or_len}
use Rattle.elm_type.specs.Types.{ElmType, variables, renamed, Leaf, Free, Fixed, Kind, kind_at, any_kind, Scheme}
use Rattle.elm_type.specs.Schemes.{in_order, appearing, placed, rename}
use Rattle.type_items.specs.Uniqueness.{RenamedTwice}
use Rattle.type_items.proofs.Orders.{variables_renamed, kept, OfLeaf, leaf_map, order_same, position_same}
use Rattle.type_items.proofs.Members.{Member, all_members, own_members, at_place, places_apart}

module _ (s : Scheme) where
  abbrev order : List ℕ
  order = appearing s

  abbrev pub number : ℕ → ℕ
  number i = position_or_len (nat_eq i) order

  apart : (i j : ℕ) → Member order i → Member order j → number i ≡ number j → i ≡ j
  apart i j a b e = places_apart order i j a b e

  pub members : AllByRecursion (OfLeaf (Member order)) (variables s.type)
  members = all_members [] (variables s.type)

  map_is : (ls : List (Leaf ℕ)) → map (placed order) ls ≡ map (leaf_map number (Member order) apart) ls
  map_is [] = refl
  map_is (Free i ∷ ls) = ap (λ rest. Free (number i) ∷ rest) (map_is ls)
  map_is (Fixed r ∷ ls) = ap (λ rest. Fixed r ∷ rest) (map_is ls)

  new_variables : variables (rename s).type ≡ map (placed order) (variables s.type)
  new_variables = variables_renamed (placed order) s.type

  new_order : appearing (rename s) ≡ map number order
  new_order =
      ap (in_order []) (new_variables ∙ map_is (variables s.type))
      ∙ order_same number (Member order) apart [] (variables s.type) tt members

  -- each variable is at its place
  each_at_place : (ls : List (Leaf ℕ)) → AllByRecursion (OfLeaf (Member order)) ls
      → AllByRecursion (λ l. placed (map number order) l ≡ l) (map (placed order) ls)
  each_at_place [] h = tt
  each_at_place (Free i ∷ ls) h =
      (ap Free (position_same number (Member order) apart i order h.0 (own_members (variables s.type))), each_at_place ls h.1)
  each_at_place (Fixed r ∷ ls) h = (refl, each_at_place ls h.1)

  same_type : renamed (placed (appearing (rename s))) (rename s).type ≡ (rename s).type
  same_type =
      kept (placed (appearing (rename s))) (rename s).type
      (subst (λ o. AllByRecursion (λ l. placed o l ≡ l) (variables (rename s).type)) (sym new_order)
      (subst (AllByRecursion (λ l. placed (map number order) l ≡ l)) (sym new_variables) (each_at_place (variables s.type) members)))

  pub new_kind : (i : ℕ) → Member order i → kind_at (rename s).kinds (number i) ≡ kind_at s.kinds i
  new_kind i h = ap (λ o. unwrap_or o any_kind) (at_place (kind_at s.kinds) order i h)

  each_kind : (is : List ℕ) → AllByRecursion (Member order) is → map (kind_at (rename s).kinds) (map number is) ≡ map (kind_at s.kinds) is
  each_kind [] h = refl
  each_kind (i ∷ is) h =
      ap (λ k. k ∷ map (kind_at (rename s).kinds) (map number is)) (new_kind i h.0)
      ∙ ap (λ ks. kind_at s.kinds i ∷ ks) (each_kind is h.1)

  same_kinds : map (kind_at (rename s).kinds) (appearing (rename s)) ≡ (rename s).kinds
  same_kinds = ap (map (kind_at (rename s).kinds)) new_order ∙ each_kind order (own_members (variables s.type))

  pub twice : rename (rename s) ≡ rename s
  twice =
      let with_kinds : List Kind → Scheme = λ ks. record { type = (rename s).type; kinds = ks } in
      let with_type : ElmType (Leaf ℕ) → Scheme = λ t. record { type = t; kinds = map (kind_at (rename s).kinds) (appearing (rename s)) } in
      ap with_type same_type ∙ ap with_kinds same_kinds

pub renamed_twice : RenamedTwice
renamed_twice s = twice s
