-- Which lists of nodes are those of a type: read from the end, each node finds as many types after it as it tells, each
-- with the name of a field or without one, as the node asks.
use Rattle.std.specs.Prelude.{ℕ, zero, suc, List, [], ◌∷◌, Option, Some, None, Bool, true, false, if◌then◌else◌}
use Rattle.elm_type.specs.Types.{ElmType, Leaf}
use Rattle.elm_type.specs.Spelling.{type_of}
use Rattle.elm_type.specs.declared.node.Node.{Node}
use Rattle.elm_type.specs.declared.node.Node.TheVariants as node
use Rattle.interface.specs.Formats.{◌>>=◌}

-- what is left after so many types, each of which has a field's name
abbrev pub left_after_fields : ℕ → List Bool → Option (List Bool)
left_after_fields zero shapes = Some shapes
left_after_fields (suc n) [] = None
left_after_fields (suc n) (true ∷ shapes) = left_after_fields n shapes
left_after_fields (suc n) (false ∷ shapes) = None

-- so many, none of which has one
abbrev pub left_after_parts : ℕ → List Bool → Option (List Bool)
left_after_parts zero shapes = Some shapes
left_after_parts (suc n) [] = None
left_after_parts (suc n) (true ∷ shapes) = None
left_after_parts (suc n) (false ∷ shapes) = left_after_parts n shapes

-- so many, of which each has one or none has
abbrev pub left_after : Bool → ℕ → List Bool → Option (List Bool)
left_after true n shapes = left_after_fields n shapes
left_after false n shapes = left_after_parts n shapes

-- with one more in front
abbrev pub fronted_by : Bool → Option (List Bool) → Option (List Bool)
fronted_by b found = found >>= λ rest. Some (b ∷ rest)

abbrev pub shaped : Node → List Bool → Option (List Bool)
shaped (node.Made h n) shapes = fronted_by false (left_after_parts n shapes)
shaped (node.Record n) shapes = fronted_by false (left_after_fields n shapes)
shaped (node.Open x n) shapes = fronted_by false (left_after_fields n shapes)
shaped (node.Field k) shapes = fronted_by true (left_after_parts 1 shapes)

-- of each type that was read, whether it has the name of a field
unfoldable pub shapes_of : List Node → Option (List Bool)
shapes_of [] = Some []
shapes_of (n ∷ ns) = shapes_of ns >>= shaped n

-- there is one type alone, without a name
abbrev pub is_one : List Bool → Bool
is_one (false ∷ []) = true
is_one _ = false

abbrev pub are_shaped : Option (List Bool) → Bool
are_shaped None = false
are_shaped (Some shapes) = is_one shapes

-- the type of the nodes, if they are those of one
abbrev pub type_at : List Node → Option (ElmType (Leaf ℕ))
type_at ns = shapes_of ns >>= λ shapes. if is_one shapes then Some (type_of ns) else None
