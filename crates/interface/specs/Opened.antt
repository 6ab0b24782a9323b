-- A type of a declaration to which parts, fields or parameters may still be added in front.
use Rattle.std.specs.Prelude.{◌≡◌, List, [], ◌∷◌, map, reverse, Option, Some, None}
use Rattle.elm_canon.specs.Tree as plain
use Rattle.elm_canon.specs.Tree.{annotations_of, field_types_of}
use Rattle.elm_canon.specs.View.{annotation_view, field_type_view, function_type}
use Rattle.elm_canon.specs.declared.tree.Annotation.{Annotation}
use Rattle.interface.specs.declared.opened.Opened.{Opened}
use Rattle.interface.specs.declared.opened.Opened.TheVariants as opened

-- what it is as it stands: the last item of each list is the first part
abbrev pub opened_view : Opened → plain.Annotation
opened_view (opened.Variable a) = plain.Variable a
opened_view (opened.Named m x ts) = plain.NamedType m x (annotations_of (reverse (map annotation_view ts.items)))
opened_view (opened.Function f) = function_type (reverse (map annotation_view f.types.items))
opened_view (opened.Tuple ts) = plain.TupleType (annotations_of (reverse (map annotation_view ts.items)))
opened_view (opened.Record None fs) = plain.RecordType (field_types_of (reverse (map field_type_view fs.items)))
opened_view (opened.Record (Some a) fs) = plain.ExtendedType a (field_types_of (reverse (map field_type_view fs.items)))

-- those of a stack: the last item is the first type
abbrev pub stack_view : List Opened → List plain.Annotation
stack_view items = reverse (map opened_view items)

-- the first of the types, and the others
abbrev pub First : List plain.Annotation → Option Annotation → List plain.Annotation → Type 0
First old None new = old ≡ []
First old (Some t) new = old ≡ annotation_view t ∷ new
