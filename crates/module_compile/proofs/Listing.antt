-- Imports beside what their modules show, one import after the other.
use Rattle.std.proofs.Common.{◌≡◌, ℕ, ◌+◌, ◌<◌, List, [], ◌∷◌, ◌++◌, Option, length, map, take, get_or}
use Rattle.std.proofs.Common.{refl, sym, ap, ◌∙◌}
use Rattle.std.proofs.lemmas.List.{map-append}
use Rattle.std.proofs.lemmas.List.Elements.{filter_map-append}
use Rattle.std.specs.List.{filter_map}
use Rattle.elm_lexer.specs.Tokens.{Token}
use Rattle.elm_tree.specs.View as tree_view
use Rattle.elm_tree.specs.declared.tree.Import as declared
use Rattle.canon_env.specs.Imports.{import_of}
use Rattle.canon_env.proofs.Filtering.{map_next}
use Rattle.module_offers.specs.Offers.{Interfaces}
use Rattle.module_compile.specs.Settings.{seen_known, seen_written, known_of, written_of, AreSeen}
use Rattle.module_compile.specs.declared.seen.Seen.{Seen}

-- one item more
pub filter_next : {X Y Z : Type 0} (h : Y → Option Z) (f : X → Y) (xs : List X) (i : ℕ) (x : X) → i < length xs
    → x ≡ get_or xs i x
    → filter_map h (map f (take (i + 1) xs)) ≡ filter_map h (map f (take i xs)) ++ filter_map h (f x ∷ [])
filter_next h f xs i x lt is =
    ap (filter_map h) (map_next f xs i x lt is) ∙ filter_map-append h (map f (take i xs)) (f x ∷ [])

pub filters_next : {X Y Z W : Type 0} (h : Z → Option W) (g : Y → Z) (f : X → Y) (xs : List X) (i : ℕ) (x : X)
    → i < length xs → x ≡ get_or xs i x
    → filter_map h (map g (map f (take (i + 1) xs)))
    ≡ filter_map h (map g (map f (take i xs))) ++ filter_map h (g (f x) ∷ [])
filters_next h g f xs i x lt is =
    ap (λ l. filter_map h (map g l)) (map_next f xs i x lt is)
    ∙ ap (filter_map h) (map-append g (map f (take i xs)) (f x ∷ []))
    ∙ filter_map-append h (map g (map f (take i xs))) (g (f x) ∷ [])

pub yielded_next : {X Y Z : Type 0} (h : Y → Option Z) (f : X → Y) (xs : List X) (x : X)
    → filter_map h (map f xs) ++ filter_map h (f x ∷ []) ≡ filter_map h (map f (xs ++ x ∷ []))
yielded_next h f xs x =
    sym (filter_map-append h (map f xs) (f x ∷ [])) ∙ ap (filter_map h) (sym (map-append f xs (x ∷ [])))

-- one import more
pub seen_next : (interfaces : Interfaces) (tokens : List Token) (is : List declared.Import) (i : ℕ)
    (x : declared.Import)
    (old new : List Seen) → i < length is → x ≡ get_or is i x
    → AreSeen interfaces tokens (map (tree_view.import_view tokens) (take i is)) old
    → map seen_known new
    ≡ map seen_known old ++ known_of interfaces (import_of (tree_view.import_view tokens x) ∷ [])
    → map (seen_written tokens) new
    ≡ map (seen_written tokens) old ++ written_of interfaces (tree_view.import_view tokens x ∷ [])
    → AreSeen interfaces tokens (map (tree_view.import_view tokens) (take (i + 1) is)) new
seen_next interfaces tokens is i x old new lt e h known written = record {
  known =
      known ∙ ap (λ l. l ++ known_of interfaces (import_of (tree_view.import_view tokens x) ∷ [])) h.known
      ∙ sym (filters_next _ import_of (tree_view.import_view tokens) is i x lt e);
  written =
      written ∙ ap (λ l. l ++ written_of interfaces (tree_view.import_view tokens x ∷ [])) h.written
      ∙ sym (filter_next _ (tree_view.import_view tokens) is i x lt e);
}
