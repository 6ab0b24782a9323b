-- What modules of the program compile to.
use Rattle.std.specs.Prelude.{◌≡◌, Option, Some, None}
use Rattle.elm_canon.specs.Names.{Name}
use Rattle.module_compile.specs.View.{made_view, IsAtHome}
use Rattle.module_compile.specs.declared.made.Made as program
use Rattle.module_made.specs.Made as made

-- none: a module that it imports has faults or is blocked itself
abbrev pub Value : Type 0
Value = Option program.Made

abbrev pub value_view : Value → made.Value
value_view (Some m) = made_view m
value_view None = made.Blocked

-- what it offers, if anything, has that name
abbrev pub IsOf : Name → Value → Type 0
IsOf home (Some m) = IsAtHome home m
IsOf home None = Unit {0}
