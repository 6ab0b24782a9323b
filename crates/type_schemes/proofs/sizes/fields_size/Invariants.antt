use Rattle.std.proofs.Common.{◌≡◌, take, map, min}
use Rattle.elm_type.specs.Types.{size_fields}
use Rattle.type_store.specs.View.{field_view}
use Rattle.type_schemes.specs.Bases.{most, older_of, type_in}
use Rattle.type_schemes.specs.Reading.{read_row}
use Rattle.type_schemes.proofs.sizes.fields_size.Given as goal

abbrev pub invariant-loop-field : goal.invariant-loop-field
invariant-loop-field l = l.sum ≡ min (size_fields (read_row (type_in l.store (older_of l.known)) (map field_view (take l.field-index l.fields)))) most
