-- The text of a pair of types.
use Rattle.std.specs.Prelude.{◌≡◌, ℕ, [], ◌∷◌, ◌++◌, codes}
use Rattle.elm_type.specs.Types.{ElmType, Leaf, Name, Scheme, tuple}
use Rattle.type_items.specs.Faults.{part_text}

-- LEFT /= RIGHT, with the names that the scheme of the pair gives its variables
pub record SaysParts (scheme : Scheme) (text : Name) : Type 0 where
  pub left : ElmType (Leaf ℕ)
  pub right : ElmType (Leaf ℕ)
  pub pair : scheme.type ≡ tuple (left ∷ right ∷ [])
  pub says : text ≡ part_text scheme left ++ codes " /= " ++ part_text scheme right
