-- Units and their texts, one on.
use Rattle.std.proofs.Common.{◌≡◌, ℕ, List, [], ◌∷◌, ◌++◌, map, refl, ap, ◌∙◌, append_assoc, append-nil}
use Rattle.std.specs.Char.Escape.{encode_utf16}
use Rattle.elm_base.specs.Units.{units_of_chars}
use Rattle.elm_base.specs.Quoted.{units_text}

pub units_text-append : (us vs : List ℕ) → units_text (us ++ vs) ≡ units_text us ++ units_text vs
units_text-append [] vs = refl
units_text-append (u ∷ us) vs = rw (units_text-append us vs, append_assoc) refl

units_of_chars-append : (cs ds : List ℕ) → units_of_chars (cs ++ ds) ≡ units_of_chars cs ++ units_of_chars ds
units_of_chars-append [] ds = refl
units_of_chars-append (c ∷ cs) ds = rw (units_of_chars-append cs ds, append_assoc) refl

pub units_of_chars-push : (cs : List ℕ) (c : ℕ) → units_of_chars (cs ++ c ∷ []) ≡ units_of_chars cs ++ encode_utf16 c
units_of_chars-push cs c = units_of_chars-append cs (c ∷ []) ∙ ap (λ us. units_of_chars cs ++ us) (append-nil (encode_utf16 c))

pub map_same : (cs : List ℕ) → map (λ c. c) cs ≡ cs
map_same [] = refl
map_same (c ∷ cs) = ap (λ ds. c ∷ ds) (map_same cs)
