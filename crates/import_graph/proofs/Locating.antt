-- Where the project has a name.
use Rattle.std.proofs.Common.{◌≡◌, ℕ, List, if◌then◌else◌, sym, ap, ◌∙◌}
use Rattle.std.specs.Str.{IsUtf8, is_utf8}
use Rattle.std.proofs.lemmas.Bool.{false_from_ne_true}
use Rattle.std.proofs.lemmas.Str.{IsUtf8-from_is_utf8, is_utf8-from_IsUtf8}
use Rattle.elm_files.specs.Tree.{Tree}
use Rattle.import_graph.specs.Places.{Place, Nowhere, place_of}

pub told_place : (name text : List ℕ) (told directories : List (List ℕ)) (tree : Tree) (place : Place) → told ≡ directories → text ≡ name → IsUtf8 name → place ≡ place_of tree told text
    → place ≡ (if is_utf8 name then place_of tree directories name else Nowhere)
told_place name text told directories tree place d e u h =
    h ∙ ap (λ ds. place_of tree ds text) d ∙ ap (place_of tree directories) e
    ∙ sym (ap (λ b. if b then place_of tree directories name else Nowhere) (is_utf8-from_IsUtf8 name u))

pub no_place : (name : List ℕ) (directories : List (List ℕ)) (tree : Tree) → (IsUtf8 name → ⊥) → Nowhere ≡ (if is_utf8 name then place_of tree directories name else Nowhere)
no_place name directories tree n =
    sym (ap (λ b. if b then place_of tree directories name else Nowhere) (false_from_ne_true (is_utf8 name) (λ t. n (IsUtf8-from_is_utf8 name t))))
