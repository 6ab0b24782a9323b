-- Types whose nodes stand one after the other; for private clauses.
use Rattle.std.specs.Prelude.{◌≡◌, ◌==◌, ◌&&◌, ℕ, zero, suc, ◌+◌, List, [], ◌∷◌, ◌++◌, Bool, true, false, Option}
use Rattle.std.specs.Prelude.{Some, None, drop, codes}
use Rattle.canon_type.specs.Ports.{is_type}
use Rattle.elm_type.specs.declared.head.Head.{Head}
use Rattle.elm_type.specs.declared.head.Head.TheVariants as head
use Rattle.elm_type.specs.Types.{ElmType, ElmTypes, Fields, Leaf, count, count_fields}
use Rattle.elm_type.specs.Spelling.{spell, spell_all, spell_fields}
use Rattle.elm_type.specs.declared.node.Node.{Node}
use Rattle.elm_type.specs.declared.node.Node.TheVariants as node

-- from that place on the nodes are those of the type, and then the rest
abbrev pub Front : List Node → ℕ → ElmType (Leaf ℕ) → List Node → Type 0
Front nodes at t rest = drop at nodes ≡ spell t ++ rest

-- of so many types
abbrev pub FrontOfAll : List Node → ℕ → ℕ → ElmTypes (Leaf ℕ) → List Node → Type 0
FrontOfAll nodes at n ts rest = (drop at nodes ≡ spell_all ts ++ rest) × (count ts ≡ n)

-- of so many fields
abbrev pub FrontOfFields : List Node → ℕ → ℕ → Fields (Leaf ℕ) → List Node → Type 0
FrontOfFields nodes at n fs rest = (drop at nodes ≡ spell_fields fs ++ rest) × (count_fields fs ≡ n)

-- what stands after so many types, if there are so many
abbrev pub after : ℕ → List Node → Option (List Node)
after zero ns = Some ns
after (suc p) [] = None
after (suc p) (node.Made h n ∷ ns) = after (p + n) ns
after (suc p) (node.Record n ∷ ns) = after (p + n) ns
after (suc p) (node.Open x n ∷ ns) = after (p + n) ns
after (suc p) (node.Field k ∷ ns) = after (suc p) ns

-- ---- single nodes

-- the node of a type Program of three parts
abbrev pub is_program_head : Head → Bool
is_program_head (head.Named m x) = is_type (codes "Platform") (codes "Program") m x
is_program_head head.Function = false
is_program_head head.Tuple = false

abbrev pub is_program_node : Node → Bool
is_program_node (node.Made h n) = (n == 3) && is_program_head h
is_program_node (node.Record n) = false
is_program_node (node.Open x n) = false
is_program_node (node.Field k) = false

-- the node of ()
abbrev pub is_tuple_head : Head → Bool
is_tuple_head (head.Named m x) = false
is_tuple_head head.Function = false
is_tuple_head head.Tuple = true

abbrev pub is_unit_node : Node → Bool
is_unit_node (node.Made h n) = (n == 0) && is_tuple_head h
is_unit_node (node.Record n) = false
is_unit_node (node.Open x n) = false
is_unit_node (node.Field k) = false

abbrev pub first_is : (Node → Bool) → List Node → Bool
first_is test [] = false
first_is test (n ∷ ns) = test n
