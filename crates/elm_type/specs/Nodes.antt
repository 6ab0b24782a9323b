-- What each node adds to what is said of a type.
use Rattle.std.specs.Prelude.{ℕ, zero, suc, List, [], ◌∷◌}
use Rattle.elm_type.specs.Types.{Leaf}
use Rattle.elm_type.specs.Spelling.{leaf_of, leaf_node}
use Rattle.elm_type.specs.declared.node.Node.{Node}
use Rattle.elm_type.specs.declared.node.Node.TheVariants as node

-- how many nodes of the type: the variable of an open record is one
abbrev pub weight : Node → ℕ
weight (node.Made h n) = 1
weight (node.Record n) = 1
weight (node.Open x zero) = 1
weight (node.Open x (suc n)) = 2
weight (node.Field k) = 0

-- the variable or constant
abbrev pub leaves : Node → List (Leaf ℕ)
leaves (node.Made h n) = []
leaves (node.Record n) = []
leaves (node.Open x n) = leaf_of x ∷ []
leaves (node.Field k) = []

-- the node with another variable in its place
abbrev pub renamed_node : (Leaf ℕ → Leaf ℕ) → Node → Node
renamed_node f (node.Made h n) = node.Made h n
renamed_node f (node.Record n) = node.Record n
renamed_node f (node.Open x n) = node.Open (leaf_node (f (leaf_of x))) n
renamed_node f (node.Field k) = node.Field k
