-- Places, byte by byte.
use Rattle.std.proofs.Common.{◌≡◌, ◌+◌, ◌<◌, ℕ, List, [], ◌∷◌, ◌++◌, length, take, get_or, refl, ap, ◌∙◌}
use Rattle.std.proofs.lemmas.List.{take_more}
use Rattle.js_tree.specs.Faults.{Place, next_place, place_after}

after_one_more : (xs : List ℕ) (c : ℕ) (p : Place) → place_after p (xs ++ c ∷ []) ≡ next_place c (place_after p xs)
after_one_more [] c p = refl
after_one_more (x ∷ xs) c p = after_one_more xs c (next_place x p)

pub next_after : (bytes : List ℕ) (i d : ℕ) (p : Place) → i < length bytes → place_after p (take (i + 1) bytes) ≡ next_place (get_or bytes i d) (place_after p (take i bytes))
next_after bytes i d p h = ap (λ (xs : List ℕ). place_after p xs) (take_more bytes i d h) ∙ after_one_more (take i bytes) (get_or bytes i d) p
