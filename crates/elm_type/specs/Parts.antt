-- Types taken apart by their nodes.
use Rattle.std.specs.Prelude.{◌≡◌, ℕ, [], ◌∷◌}
use Rattle.elm_type.specs.Types.{ElmType, tuple, Leaf}
use Rattle.elm_type.specs.declared.node.Node.{Node}
use Rattle.elm_type.specs.declared.node.Node.TheVariants as node

-- how many parts follow a node
abbrev pub following : Node → ℕ
following (node.Made h n) = n
following (node.Record n) = n
following (node.Open x n) = n
following (node.Field k) = 1

-- a type of pairs
pub record IsPair (t : ElmType (Leaf ℕ)) : Type 0 where
  pub left : ElmType (Leaf ℕ)
  pub right : ElmType (Leaf ℕ)
  pub is : t ≡ tuple (left ∷ right ∷ [])
