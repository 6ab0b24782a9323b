-- What is read off a store is what the store tells.
use Rattle.std.proofs.Common.{◌≡◌, ℕ, ◌<◌, List, [], ◌∷◌, map, length, min, nat_eq, refl, sym, ap, ◌∙◌, subst, arith}
use Rattle.std.specs.Prelude.{unwrap_or}
use Rattle.std.specs.List.{AllByRecursion, IsDistinct}
use Rattle.std.proofs.lemmas.List.{length-map}
use Rattle.elm_type.specs.Types.{variables, Leaf, Free, Fixed, Kind, kind_at, any_kind, Scheme}
use Rattle.elm_type.specs.Schemes.{placed, rename}
use Rattle.elm_type.specs.Ground.{leaf_value}
use Rattle.type_store.specs.Store.{Store, slot_at}
use Rattle.type_store.specs.Shape.{IsStore}
use Rattle.type_store.specs.Solutions.{Values}
use Rattle.type_schemes.specs.Ends.{end_of}
use Rattle.type_schemes.specs.Order.{IsListed, PartsFirst}
use Rattle.type_schemes.specs.Reading.{Graph}
use Rattle.type_schemes.specs.Bases.{type_in}
use Rattle.type_walks.specs.Told.{IsBelow, Told}
use Rattle.type_items.proofs.Orders.{OfLeaf, all_in_order, variables_renamed}
use Rattle.type_items.proofs.Members.{Member}
use Rattle.type_items.proofs.Renaming.{members, new_kind}
use Rattle.type_items.specs.Uniqueness.{RenamedTwice}
use Rattle.type_schemes.specs.Schemes.{in_store, scheme_of, variables_of, place_of, number_of}
use Rattle.type_constructs.specs.Laws.{ReadIsTold, SchemeIsAsLarge, SchemeIsOrdered, SizeIsTold}
use Rattle.type_constructs.proofs.Renamed.{put_same, Keeps, formed_same, size_renamed}
use Rattle.type_constructs.proofs.Values.{value_of}
use Rattle.type_constructs.proofs.Reached.{IsUnder, under_type}
use Rattle.type_schemes.proofs.InOrder.{kinds_of, kind_here}
use Rattle.type_constructs.proofs.Formed.{good_read}
use Rattle.type_constructs.proofs.Orders.{once, at_index, kind_placed, place_below, placed_back, number_placed}
use Rattle.type_constructs.proofs.Orders.{placed_number}

module _ (s : Store) (t : Graph) where
  abbrev whole_scheme : Scheme
  whole_scheme = in_store s t

  abbrev order : List ℕ
  order = variables_of t

  distinct : IsDistinct nat_eq order
  unfolding IsDistinct
  distinct = once [] (variables t) tt

  count : length (scheme_of s t).kinds ≡ length order
  count = length-map order (kind_at (kinds_of s))

  each_below : (ls : List (Leaf ℕ)) → AllByRecursion (OfLeaf (Member order)) ls
      → AllByRecursion (IsBelow (length order)) (map (placed order) ls)
  each_below [] h = tt
  each_below (Free i ∷ ls) h = (place_below order i h.0, each_below ls h.1)
  each_below (Fixed r ∷ ls) h = (tt, each_below ls h.1)

  all_kept : (ls : List (Leaf ℕ)) → AllByRecursion (OfLeaf (Member order)) ls
      → AllByRecursion (Keeps (kinds_of s) (scheme_of s t).kinds (placed order)) ls
  all_kept [] h = tt
  all_kept (Free i ∷ ls) h = (ap (λ (k : Kind). k.lacks) (new_kind whole_scheme i h.0), all_kept ls h.1)
  all_kept (Fixed r ∷ ls) h = (refl, all_kept ls h.1)

  each_value : (σ : Values) (ls : List (Leaf ℕ)) → AllByRecursion (OfLeaf (Member order)) ls
      → AllByRecursion (λ l. leaf_value σ.types l ≡ leaf_value (λ i. σ.types (place_of t i)) (placed order l)) ls
  each_value σ [] h = tt
  each_value σ (Free i ∷ ls) h = (ap σ.types (sym (placed_back order i h.0)), each_value σ ls h.1)
  each_value σ (Fixed r ∷ ls) h = (refl, each_value σ ls h.1)

  kind_is : (i : ℕ) → i < length order → (slot_at s (place_of t i)).kind ≡ kind_at (scheme_of s t).kinds i
  kind_is i l =
      sym (ap (λ o. unwrap_or o any_kind) (kind_placed (kind_at (kinds_of s)) order i l) ∙ kind_here s (place_of t i))

module _ (s : Store) (v : ℕ) (whole : IsStore s) (older : List ℕ) (first : PartsFirst 0 s older)
    (listed : IsListed older (end_of s v)) where
  abbrev t : Graph
  t = type_in s older v

  each_under : AllByRecursion (IsUnder s v) (variables_of t)
  each_under = all_in_order (IsUnder s v) [] (variables t) tt (under_type s whole older first v listed)

  inside : (i : ℕ) → i < length (scheme_of s t).kinds → i < length (variables_of t)
  inside i l = omega (arith, l, count s t)

  tells : Told s v (scheme_of s t) (place_of t) (number_of t)
  tells = record {
    formed =
        formed_same (kinds_of s) (scheme_of s t).kinds (placed (variables_of t)) t
        (all_kept s t (variables t) (members (in_store s t)))
        ∙ (good_read s whole older first (end_of s v) listed).formed;
    below =
        subst (λ n. AllByRecursion (IsBelow n) (variables (scheme_of s t).type)) (sym (count s t))
        (subst (AllByRecursion (IsBelow (length (variables_of t))))
        (sym (variables_renamed (placed (variables_of t)) t))
        (each_below s t (variables t) (members (in_store s t))));
    numbered = λ i l. number_placed (variables_of t) (distinct s t) i (inside i l);
    placed = λ u i e. (
        let h = placed_number (variables_of t) (distinct s t) u i e in
        (subst (λ (n : ℕ). i < n) (sym (count s t)) h.0, h.1));
    blank = λ i l. (at_index (IsUnder s v) (variables_of t) i (inside i l) each_under).blank;
    kind = λ i l. kind_is s t i (inside i l);
    reached = λ i l. (at_index (IsUnder s v) (variables_of t) i (inside i l) each_under).reached;
    reads = λ σ fit own.
        value_of s σ fit whole own older first v listed
        ∙ put_same (leaf_value σ.types) (leaf_value (λ i. σ.types (place_of t i))) (placed (variables_of t)) t
        (each_value s t σ (variables t) (members (in_store s t)));
  }

pub read_is_told : ReadIsTold
read_is_told s v t whole reads =
    subst (λ (u : Graph). Told s v (scheme_of s u) (place_of u) (number_of u)) reads.is
    (tells s v whole reads.order reads.first reads.listed)

pub scheme_is_as_large : SchemeIsAsLarge
scheme_is_as_large s t = size_renamed (placed (variables_of t)) t

pub scheme_is_ordered : RenamedTwice → SchemeIsOrdered
scheme_is_ordered twice s v scheme has = ap rename has.is ∙ (twice (in_store s has.type) ∙ sym has.is)

pub size_is_told : SizeIsTold
size_is_told s v n whole has = record {
  scheme = scheme_of s has.type;
  place = place_of has.type;
  number = number_of has.type;
  told = read_is_told s v has.type whole has.reads;
  is = has.is ∙ ap (λ m. min m 18446744073709551615) (sym (scheme_is_as_large s has.type));
}
