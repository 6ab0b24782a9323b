-- What a type of the program is, and a scheme.
use Rattle.std.specs.Prelude.{ℕ, List, [], ◌∷◌, map, Option, Some, None}
use Rattle.elm_type.specs.Types.{Name, ElmType, Fields, NoField, MoreField, End, Closed, Over, Leaf, Kind, Scheme}
use Rattle.elm_type.specs.Spelling.{type_of, leaf_of}
use Rattle.elm_type.specs.declared.building.Field.{Field}
use Rattle.elm_type.specs.declared.node.Leaf as leaf
use Rattle.elm_type.specs.declared.ty.Ty.{Ty}
use Rattle.elm_type.specs.declared.scheme.Kind as stored
use Rattle.elm_type.specs.declared.scheme.Scheme as kept

abbrev pub type_view : Ty → ElmType (Leaf ℕ)
type_view ty = type_of ty.nodes.items

abbrev pub kind_view : stored.Kind → Kind
kind_view k = record { class = k.class; lacks = k.lacks.items }

abbrev pub scheme_view : kept.Scheme → Scheme
scheme_view s = record { type = type_view s.ty; kinds = map kind_view s.kinds.items }

abbrev pub field_view : Field → Name × ElmType (Leaf ℕ)
field_view f = (f.name, type_view f.ty)

abbrev pub fields_of : List (Name × ElmType (Leaf ℕ)) → Fields (Leaf ℕ)
fields_of [] = NoField
fields_of (f ∷ fs) = MoreField f.0 f.1 (fields_of fs)

abbrev pub end_view : Option leaf.Leaf → End (Leaf ℕ)
end_view None = Closed
end_view (Some x) = Over (leaf_of x)
