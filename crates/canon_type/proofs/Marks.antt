-- Uses are places of aliases, and aliases that are marked are those that use themselves.
use Rattle.std.proofs.Common.{◌≡◌, ℕ, ◌+◌, ◌<◌, zero, suc, List, [], ◌∷◌, ◌++◌, Bool, true, false, if◌then◌else◌, Option, Some, None}
use Rattle.std.proofs.Common.{length, map, refl, sym, ap, ◌∙◌, append_assoc, append-nil, zero-add, subst, arith, Vec, Global}
use Rattle.std.specs.Prelude.{flat_map, filter_map}
use Rattle.std.specs.List.{All, cons_option, slice_index_or, enumerate_from}
use Rattle.std.proofs.lemmas.Grind.{flat_map-append}
use Rattle.std.proofs.lemmas.List.Elements.{All-nil, All-cons}
use Rattle.std.proofs.lemmas.List.{length-map}
use Rattle.elm_lexer.specs.Tokens.{Token}
use Rattle.elm_tree.specs.Tree.{Long}
use Rattle.elm_canon.specs.Names.{Name, same_name}
use Rattle.decl_groups.specs.Groups.{plain}
use Rattle.decl_groups.specs.InOrder.{uses_itself}
use Rattle.canon_env.specs.Exposing.{is_among}
use Rattle.canon_env.specs.Imports.{name_of}
use Rattle.canon_env.specs.declared.finding.Finding.{Finding}
use Rattle.canon_env.specs.Naming.{qualifier_of, own_name}
use Rattle.canon_type.specs.Written.{AliasTree, alias_names, names_in}
use Rattle.canon_type.specs.Recursion.{place_among, alias_place, uses_of, alias_uses, alias_fault}
use Rattle.canon_type.specs.Kept.{fault_if, marked_fault, marked_faults, Keeps, aliases_view}
use Rattle.canon_type.specs.declared.aliases.WrittenAlias.{WrittenAlias}
use Rattle.canon_type.specs.declared.uses.OwnNames.{OwnNames}
use Rattle.canon_type.proofs.Naming.{within}

-- ---- uses are places

module _ (unions names : List Name) where
  alias_within : (x : Long) (p : ℕ) → alias_place unions names x ≡ Some p → p < length names
  alias_within x p e =
      by (same_name (qualifier_of x) []) (is_among (own_name x) unions) (place_among (own_name x) names)
      (λ q h. within (own_name x) names q h) e
    where
      by : (b d : Bool) (o : Option ℕ) → ((q : ℕ) → o ≡ Some q → q < length names) →
          (if b then (if d then None else o) else None) ≡ Some p → p < length names
      by true true o f h = cc
      by true false o f h = f p h
      by false d o f h = cc

  places_within : (xs : List Long) → All (λ j. j < length names) (filter_map (alias_place unions names) xs)
  places_within [] = All-nil (λ j. j < length names)
  places_within (x ∷ xs) = by (alias_place unions names x) refl (places_within xs)
    where
      by : (o : Option ℕ) → alias_place unions names x ≡ o →
          All (λ j. j < length names) (filter_map (alias_place unions names) xs) →
          All (λ j. j < length names) (cons_option o (filter_map (alias_place unions names) xs))
      by None e rest = rest
      by (Some p) e rest =
          All-cons (λ j. j < length names) p (filter_map (alias_place unions names) xs) (alias_within x p e) rest

  pub uses_within : (aliases : List AliasTree) →
      All (λ row. All (λ j. j < length names) row) (map (uses_of unions names) aliases)
  uses_within [] = All-nil (λ row. All (λ j. j < length names) row)
  uses_within (a ∷ aliases) =
      All-cons (λ row. All (λ j. j < length names) row) (uses_of unions names a) (map (uses_of unions names) aliases)
      (places_within (names_in a.body)) (uses_within aliases)

pub from_map : {X Y : Type 0} → (P : Y → Type 0) (f : X → Y) (xs : List X) → All P (map f xs) → All (λ x. P (f x)) xs
from_map P f [] h = All-nil (λ x. P (f x))
from_map P f (x ∷ xs) h =
    All-cons (λ z. P (f z)) x xs (h zero (f x) (omega arith)) (from_map P f xs (λ k d l. h (suc k) d (omega (arith, l))))

-- ---- marks

pub enumerate_push : {X : Type 0} → (n : ℕ) (xs : List X) (x : X) →
    enumerate_from n (xs ++ x ∷ []) ≡ enumerate_from n xs ++ (n + length xs, x) ∷ []
enumerate_push n [] x = ap (λ k. (k, x) ∷ []) (omega arith)
enumerate_push n (y ∷ ys) x =
    ap (λ z. (n, y) ∷ z)
    (enumerate_push (n + 1) ys x ∙ ap (λ k. enumerate_from (n + 1) ys ++ (k, x) ∷ []) (omega arith))

-- one alias more
pub marked_next : (marks : List Bool) (aliases all : List AliasTree) (a : AliasTree) (i : ℕ)
    (old mid new : List Finding) → length aliases ≡ i → all ≡ aliases ++ a ∷ [] →
    mid ≡ old ++ marked_faults marks aliases → new ≡ mid ++ fault_if (slice_index_or marks i false) a.name →
    new ≡ old ++ marked_faults marks all
marked_next marks aliases all a i old mid new many is first next =
    let one = fault_if (slice_index_or marks i false) a.name in
    next ∙ ap (λ z. z ++ one) first ∙ append_assoc old (marked_faults marks aliases) one
    ∙ ap (λ z. old ++ (marked_faults marks aliases ++ z))
    (sym (append-nil one) ∙ ap (λ n. fault_if (slice_index_or marks n false) a.name ++ []) (sym many))
    ∙ ap (λ z. old ++ z)
    (sym (flat_map-append (marked_fault marks) (enumerate_from 0 aliases) ((length aliases, a) ∷ [])))
    ∙ ap (λ n. old ++ flat_map (marked_fault marks) (enumerate_from 0 aliases ++ (n, a) ∷ []))
    (sym (zero-add (length aliases)))
    ∙ ap (λ z. old ++ flat_map (marked_fault marks) z) (sym (enumerate_push 0 aliases a))
    ∙ ap (λ z. old ++ marked_faults marks z) (sym is)

same_from : (marks : List Bool) (uses : List (List ℕ)) (n : ℕ) (aliases : List AliasTree) →
    ((i : ℕ) → i < n + length aliases → slice_index_or marks i false ≡ uses_itself uses i) →
    flat_map (marked_fault marks) (enumerate_from n aliases) ≡ flat_map (alias_fault uses) (enumerate_from n aliases)
same_from marks uses n [] h = refl
same_from marks uses n (a ∷ aliases) h =
    ap (λ b. fault_if b a.name ++ flat_map (marked_fault marks) (enumerate_from (n + 1) aliases)) (h n (omega arith))
    ∙ ap (λ z. fault_if (uses_itself uses n) a.name ++ z)
    (same_from marks uses (n + 1) aliases (λ i l. h i (omega (arith, l))))

pub same_faults : (marks : List Bool) (uses : List (List ℕ)) (aliases : List AliasTree) →
    ((i : ℕ) → i < length aliases → slice_index_or marks i false ≡ uses_itself uses i) →
    marked_faults marks aliases ≡ flat_map (alias_fault uses) (enumerate_from 0 aliases)
same_faults marks uses aliases h = same_from marks uses 0 aliases (λ i l. h i (omega (arith, l)))

-- ---- the uses that the program has

abbrev Row : Type 0
Row = Vec ℕ Global

pub uses_are : (tokens : List Token) (names : OwnNames) (unions : List Name) (aliases : List AliasTree)
    (first second items : List WrittenAlias) (third rows : List Row) → first ≡ items → second ≡ items → third ≡ rows →
    aliases_view tokens items ≡ aliases → Keeps names unions (alias_names (aliases_view tokens first)) →
    ((us : List Name) → Keeps names us (alias_names (aliases_view tokens second)) →
    plain rows ≡ alias_uses us (aliases_view tokens second)) → plain third ≡ alias_uses unions aliases
uses_are tokens names unions aliases first second items third rows a b d e h u =
    ap plain d
    ∙ u unions (subst (λ l. Keeps names unions (alias_names (aliases_view tokens l))) (a ∙ sym b) h)
    ∙ ap (λ l. alias_uses unions (aliases_view tokens l)) b ∙ ap (alias_uses unions) e

module _ (unions : List Name) (aliases : List AliasTree) (rows : List Row) (is : plain rows ≡ alias_uses unions aliases) where
  pub as_many : length rows ≡ length aliases
  as_many =
      sym (length-map rows (λ (r : Row). r.items)) ∙ ap length is
      ∙ length-map aliases (uses_of unions (alias_names aliases))

  pub rows_within : All (λ row. All (λ j. j < length rows) row.items) rows
  rows_within =
      let many : length (alias_names aliases) ≡ length rows =
      length-map aliases (λ (a : AliasTree). name_of a.name) ∙ sym as_many in
      let P : ℕ → Type 0 = λ n. All (λ (row : Row). All (λ j. j < n) row.items) rows in
      subst P many
      (from_map (λ (row : List ℕ). All (λ j. j < length (alias_names aliases)) row) (λ (r : Row). r.items) rows
      (subst (All (λ (row : List ℕ). All (λ j. j < length (alias_names aliases)) row)) (sym is)
      (uses_within unions (alias_names aliases) aliases)))
