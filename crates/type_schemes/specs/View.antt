-- What a frozen type of the program is.
use Rattle.std.specs.Prelude.{map, Option, Some, None}
use Rattle.elm_type.specs.View.{kind_view}
use Rattle.type_walks.specs.Frozen as plain
use Rattle.type_schemes.specs.declared.frozen.Part.{Part}
use Rattle.type_schemes.specs.declared.frozen.Part.TheVariants as part
use Rattle.type_schemes.specs.declared.frozen.FieldPart.{FieldPart}
use Rattle.type_schemes.specs.declared.frozen.FrozenCell.{FrozenCell}
use Rattle.type_schemes.specs.declared.frozen.FrozenCell.TheVariants as cell
use Rattle.type_schemes.specs.declared.frozen.Frozen.{Frozen}

abbrev pub part_view : Part → plain.Part
part_view (part.Inner i) = plain.Inner i
part_view (part.Outer v) = plain.Outer v

abbrev pub field_view : FieldPart → plain.FieldPart
field_view f = (f.name, part_view f.part)

abbrev pub end_view : Option Part → Option plain.Part
end_view None = None
end_view (Some p) = Some (part_view p)

abbrev pub cell_view : FrozenCell → plain.FrozenCell
cell_view (cell.Open k) = plain.Open (kind_view k)
cell_view (cell.Built h ps) = plain.Built h (map part_view ps.items)
cell_view (cell.Row fs end) = plain.Row (map field_view fs.items) (end_view end)

abbrev pub frozen_view : Frozen → plain.Frozen
frozen_view f = record { cells = map cell_view f.cells.items; root = part_view f.root }
