-- The variables of an annotation by their numbers, and its fields in order.
use Rattle.std.specs.Prelude.{◌≡◌, ℕ, List, [], ◌∷◌, Option, Some, None, if◌then◌else◌}
use Rattle.std.specs.Str.{bytes_eq}
use Rattle.std.specs.HashMap as hash
use Rattle.std.specs.HashMap.{HashMap}
use Rattle.elm_canon.specs.Tree.{Annotation}
use Rattle.elm_canon.specs.View.{NamedType}
use Rattle.elm_type.specs.Types.{Name, ElmType, variable, Leaf, Free}
use Rattle.elm_type.specs.Spelling.{spell}
use Rattle.elm_type.specs.Rows.{name_lt}
use Rattle.elm_type.specs.declared.head.Head.TheVariants as head
use Rattle.elm_type.specs.declared.node.Leaf.TheVariants as leaf
use Rattle.elm_type.specs.declared.node.Node.{Node}
use Rattle.elm_type.specs.declared.node.Node.TheVariants as node
use Rattle.type_schemes.specs.declared.fields.Part.{Part}
use Rattle.elm_type.specs.Ground.{contains}
use Rattle.type_items.specs.Annotations.{written, number_of, annotation_type}

-- ---- the variables

abbrev pub base_names : Option Name → List Name
base_names None = []
base_names (Some a) = a ∷ []

abbrev pub field_names : NamedType → List Name
field_names f = written f.1

-- the number of a name that is there
abbrev pub place_in : Name → List Name → Option ℕ
place_in x order = if contains x order then Some (number_of x order) else None

-- the table has the numbers of the names
abbrev pub IsTable : {S : Type 0} → HashMap Name ℕ S → List Name → Type 0
IsTable numbers order = (x : Name) → hash.get bytes_eq numbers x ≡ place_in x order

-- ---- types over the numbers

abbrev pub numbered : List Name → Name → ElmType (Leaf ℕ)
numbered order a = variable (Free (number_of a order))

-- the nodes of a type
unfoldable pub type_nodes : List Name → Annotation → List Node
type_nodes order t = spell (annotation_type (numbered order) t)

-- ---- fields in the order of their names

abbrev pub put_in : {X : Type 0} → Name × X → List (Name × X) → List (Name × X)
put_in f [] = f ∷ []
put_in f (g ∷ gs) = if name_lt g.0 f.0 then g ∷ put_in f gs else f ∷ g ∷ gs

abbrev pub in_order : {X : Type 0} → List (Name × X) → List (Name × X)
in_order [] = []
in_order (f ∷ fs) = put_in f (in_order fs)

-- a field with the nodes of its type
abbrev pub Titled : Type 0
Titled = Name × List Node

abbrev pub titled : List Name → NamedType → Titled
titled order f = (f.0, type_nodes order f.1)

abbrev pub title_nodes : Titled → List Node
title_nodes p = node.Field p.0 ∷ p.1

abbrev pub part_view : Part → Titled
part_view p = (p.name, p.nodes.items)

-- the node of a record of so many fields
abbrev pub record_start : List Name → Option Name → ℕ → Node
record_start order None n = node.Record n
record_start order (Some a) n = node.Open (leaf.Free (number_of a order)) n

-- a parameter of a function
abbrev pub parameter_nodes : List Name → Annotation → List Node
parameter_nodes order t = node.Made head.Function 2 ∷ type_nodes order t
