-- The outermost form of a type: what is shared, and a function of one type, is what it is.
use Rattle.std.specs.Prelude.{◌<◌, length, map, ⊤}
use Rattle.elm_canon.specs.Tree as plain
use Rattle.elm_canon.specs.Tree.{field_types_of}
use Rattle.elm_canon.specs.View.{annotation_view, field_type_view, types_view, function_type}
use Rattle.canon_type.specs.declared.shape.Shape.{Shape}
use Rattle.canon_type.specs.declared.shape.Shape.TheVariants as shape

abbrev pub shape_view : Shape → plain.Annotation
shape_view (shape.Variable a) = plain.Variable a.now
shape_view (shape.Named m x ts) = plain.NamedType m.now x.now (types_view ts.now)
shape_view (shape.Function t us) =
    plain.FunctionType (annotation_view t.now) (function_type (map annotation_view us.now))
shape_view (shape.Tuple ts) = plain.TupleType (types_view ts.now)
shape_view (shape.Record fs) = plain.RecordType (field_types_of (map field_type_view fs.now))
shape_view (shape.Extended a fs) = plain.ExtendedType a.now (field_types_of (map field_type_view fs.now))

-- a function has a result
abbrev pub HasResult : Shape → Type 0
HasResult (shape.Function t us) = 0 < length us.now
HasResult _ = ⊤
