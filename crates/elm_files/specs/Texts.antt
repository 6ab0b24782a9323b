-- The text that was put into a sink.
use Rattle.std.specs.Prelude.{◌≡◌, ◌++◌, ℕ, List, take, Option, option_map}

-- the text and then the piece; none if no text is told
abbrev pub longer : Option (List ℕ) → List ℕ → Option (List ℕ)
longer told piece = option_map (λ text. text ++ piece) told

-- the new text is the old one and then a beginning of the piece, from nothing to the whole
abbrev pub LongerByPart : Option (List ℕ) → List ℕ → Option (List ℕ) → Type 0
LongerByPart old piece new = (n : ℕ) × (new ≡ longer old (take n piece))
