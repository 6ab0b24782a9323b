-- What values of the program are.
use Rattle.std.specs.Prelude.{List, map}
use Rattle.interface.specs.Interface.{Value, value_view}
use Rattle.interface.specs.declared.value.Value as offered

abbrev pub values_view : List offered.Value → List Value
values_view vs = map value_view vs
