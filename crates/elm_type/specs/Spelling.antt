-- A type as a list of its nodes: each node stands before its parts, and a field's name before the field's type. A node
-- tells how many parts follow, so the list is read without brackets, and each type has a list of its own.
use Rattle.std.specs.Prelude.{◌≡◌, ℕ, List, [], ◌∷◌, ◌++◌, take, drop}
use Rattle.elm_type.specs.Types.{Name, ElmType, ElmTypes, Fields, End, Closed, Over, Made, Record, NoType, MoreType}
use Rattle.elm_type.specs.Types.{NoField, MoreField, count, count_fields, Leaf, Free, Fixed}
use Rattle.elm_type.specs.declared.node.Leaf as stored
use Rattle.elm_type.specs.declared.node.Leaf.TheVariants as leaf
use Rattle.elm_type.specs.declared.node.Node.{Node}
use Rattle.elm_type.specs.declared.node.Node.TheVariants as node

abbrev pub leaf_node : Leaf ℕ → stored.Leaf
leaf_node (Free i) = leaf.Free i
leaf_node (Fixed r) = leaf.Fixed r

abbrev pub leaf_of : stored.Leaf → Leaf ℕ
leaf_of (leaf.Free i) = Free i
leaf_of (leaf.Fixed r) = Fixed r

-- ---- writing

-- the node of a record with so many fields
abbrev pub record_node : ℕ → End (Leaf ℕ) → Node
record_node n Closed = node.Record n
record_node n (Over x) = node.Open (leaf_node x) n

unfoldable mutual
  pub spell : ElmType (Leaf ℕ) → List Node
  spell (Made h ts) = node.Made h (count ts) ∷ spell_all ts
  spell (Record fs end) = record_node (count_fields fs) end ∷ spell_fields fs

  pub spell_all : ElmTypes (Leaf ℕ) → List Node
  spell_all NoType = []
  spell_all (MoreType t ts) = spell t ++ spell_all ts

  pub spell_fields : Fields (Leaf ℕ) → List Node
  spell_fields NoField = []
  spell_fields (MoreField k t fs) = node.Field k ∷ (spell t ++ spell_fields fs)

-- ---- reading, from the last node to the first, over the types read so far, each with the name of its field, if any

abbrev pub Read : Type 0
Read = List (Name × ElmType (Leaf ℕ))

abbrev pub read_types : Read → ElmTypes (Leaf ℕ)
read_types [] = NoType
read_types (r ∷ rs) = MoreType r.1 (read_types rs)

abbrev pub read_fields : Read → Fields (Leaf ℕ)
read_fields [] = NoField
read_fields (r ∷ rs) = MoreField r.0 r.1 (read_fields rs)

abbrev pub with_name : Name → Read → Read
with_name k [] = []
with_name k (r ∷ rs) = (k, r.1) ∷ rs

abbrev pub read_node : Node → Read → Read
read_node (node.Made h n) rs = ([], Made h (read_types (take n rs))) ∷ drop n rs
read_node (node.Record n) rs = ([], Record (read_fields (take n rs)) Closed) ∷ drop n rs
read_node (node.Open x n) rs = ([], Record (read_fields (take n rs)) (Over (leaf_of x))) ∷ drop n rs
read_node (node.Field k) rs = with_name k rs

unfoldable pub read : List Node → Read
read [] = []
read (n ∷ ns) = read_node n (read ns)

abbrev pub first_read : Read → ElmType (Leaf ℕ)
first_read [] = Record NoField Closed
first_read (r ∷ rs) = r.1

-- the type with these nodes
unfoldable pub type_of : List Node → ElmType (Leaf ℕ)
type_of ns = first_read (read ns)

-- the nodes are those of a type, all of them
abbrev pub AreSpelled : List Node → Type 0
AreSpelled ns = spell (type_of ns) ≡ ns
