-- What a module of the program compiles to.
use Rattle.std.specs.Prelude.{◌≡◌}
use Rattle.elm_canon.specs.Names.{Name}
use Rattle.link.specs.FragmentsView.{fragment_view}
use Rattle.interface.specs.View.{interface_view}
use Rattle.module_made.specs.Made.{Value, Good, Bad}
use Rattle.module_compile.specs.declared.made.Made as program
use Rattle.module_compile.specs.declared.made.Made.TheVariants as made

abbrev pub made_view : program.Made → Value
made_view (made.Good o f) = Good (interface_view o.value.interface) (fragment_view f)
made_view (made.Bad fs) = Bad fs.items

-- what it offers has that name
abbrev pub IsAtHome : Name → program.Made → Type 0
IsAtHome home (made.Good o f) = o.value.home ≡ home
IsAtHome home (made.Bad fs) = Unit {0}
