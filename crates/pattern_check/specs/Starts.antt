-- What the starts and rows of the program are.
use Rattle.std.specs.Prelude.{List, [], ◌∷◌, ◌++◌, map, Option, option_map}
use Rattle.elm_canon.specs.Unions.{TupleUnion, ListUnion, tuple_alternative, nil_alternative, cons_alternative}
use Rattle.pattern_check.specs.Shapes.{Head, Literally, OtherLiteral, Constructor}
use Rattle.pattern_check.specs.Shapes.{Key, LiteralKey, OtherKey, ConstructorKey}
use Rattle.pattern_check.specs.Flat.{Part, open_parts}
use Rattle.pattern_check.specs.declared.start.Start.{Start}
use Rattle.pattern_check.specs.declared.start.Start.TheVariants as start
use Rattle.pattern_check.specs.declared.start.StartKey.{StartKey}
use Rattle.pattern_check.specs.declared.start.StartKey.TheVariants as key
use Rattle.pattern_check.specs.declared.row.Row.{Row}

abbrev pub start_view : Start → Head
start_view (start.Literal l) = Literally l.now
start_view start.Other = OtherLiteral
start_view (start.Tuple n) = Constructor (TupleUnion n) (tuple_alternative n)
start_view start.Empty = Constructor ListUnion nil_alternative
start_view start.Item = Constructor ListUnion cons_alternative
start_view (start.Constructor u a) = Constructor u.now a.now

abbrev pub starts_view : List Start → List Head
starts_view ss = map start_view ss

-- the constructors of lists
abbrev pub list_starts : List Head
list_starts = Constructor ListUnion nil_alternative ∷ Constructor ListUnion cons_alternative ∷ []

abbrev pub key_view : StartKey → Key
key_view (key.Literal l) = LiteralKey l.now
key_view key.Other = OtherKey
key_view (key.Constructor tag arity) = ConstructorKey tag arity

abbrev pub part_view : Option Start → Part
part_view p = option_map start_view p

abbrev pub parts_view : List (Option Start) → List Part
parts_view ps = map part_view ps

abbrev pub row_view : Row → List Part
row_view r = open_parts r.open ++ parts_view r.rest.now

abbrev pub rows_view : List Row → List (List Part)
rows_view rows = map row_view rows
