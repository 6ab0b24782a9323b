-- What an interface of the program is.
use Rattle.interface.specs.declared.offered.Interface as program
use Rattle.interface.specs.Interface.{Interface, parts_view}

abbrev pub interface_view : program.Interface → Interface
interface_view i = parts_view i.values.items i.unions.items i.aliases.items
