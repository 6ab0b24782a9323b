-- The functions of core modules that no text of the language can say. The text of a core module defines each, so that
-- it has a type and can be used, with a body that counts for nothing. (elm/core 1.0.5: Basics, Bitwise, Char, Debug,
-- String; what is not exposed there serves other texts of the core.)
use Rattle.std.specs.Prelude.{List, [], ◌∷◌, if◌then◌else◌, codes, Option, Some, None, option_map, option_and_then}
use Rattle.std.specs.List.{filter_map}
use Rattle.elm_canon.specs.Names.{Name, same_name}
use Rattle.elm_canon.specs.declared.reference.Ref.{Ref}
use Rattle.elm_canon.specs.declared.reference.Ref.TheVariants.{Local, Top}
use Rattle.elm_canon.specs.Tree.{Functions, NoFunction, MoreFunction, Group, Together, Constant, Destructure}
use Rattle.elm_canon.specs.Tree.{Declaration, Given, Define, Module}
use Rattle.elm_meaning.specs.Functions.{Primitive, Crash, Remainder, Modulo, BitAnd, BitOr, BitXor, BitNot, ShiftLeft}
use Rattle.elm_meaning.specs.Functions.{ShiftRight, ShiftRightZero, FromInt, Length, UnitAt, FromUnit, Slice, Find}
use Rattle.elm_meaning.specs.Functions.{Same}

-- a name, and what it stands for
abbrev pub Row : Type 0
Row = Name × Primitive

abbrev pub basics_rows : List Row
basics_rows = (codes "modBy", Modulo) ∷ (codes "remainderBy", Remainder) ∷ []

abbrev pub bitwise_rows : List Row
bitwise_rows =
    (codes "and", BitAnd)
    ∷ (codes "or", BitOr)
    ∷ (codes "xor", BitXor)
    ∷ (codes "complement", BitNot)
    ∷ (codes "shiftLeftBy", ShiftLeft)
    ∷ (codes "shiftRightBy", ShiftRight)
    ∷ (codes "shiftRightZfBy", ShiftRightZero)
    ∷ []

abbrev pub char_rows : List Row
char_rows = (codes "unitAt", UnitAt) ∷ (codes "fromUnit", FromUnit) ∷ (codes "fromText", Same) ∷ []

abbrev pub debug_rows : List Row
debug_rows = (codes "todo", Crash) ∷ []

abbrev pub string_rows : List Row
string_rows =
    (codes "length", Length)
    ∷ (codes "slice", Slice)
    ∷ (codes "fromInt", FromInt)
    ∷ (codes "fromChar", Same)
    ∷ (codes "unitAt", UnitAt)
    ∷ (codes "find", Find)
    ∷ []

-- those of a module
abbrev pub rows_of : Name → List Row
rows_of home =
    if same_name home (codes "Basics") then basics_rows
    else (if same_name home (codes "Bitwise") then bitwise_rows
    else (if same_name home (codes "Char") then char_rows
    else (if same_name home (codes "Debug") then debug_rows
    else (if same_name home (codes "String") then string_rows
    else []))))

abbrev pub look : List Row → Name → Option Primitive
look [] x = None
look (row ∷ rows) x = if same_name x row.0 then Some row.1 else look rows x

abbrev pub primitive_of : Ref → Option Primitive
primitive_of (Local x) = None
primitive_of (Top home x) = look (rows_of home) x

-- ---- in a module

-- the name of a function that stands alone in its group
abbrev pub alone : Functions → Option Ref
alone NoFunction = None
alone (MoreFunction title ps e NoFunction) = Some title.name
alone (MoreFunction title ps e (MoreFunction next qs f fs)) = None

abbrev pub named : Ref → Option (Ref × Primitive)
named r = option_map (λ p. (r, p)) (primitive_of r)

abbrev pub core_in : Group → Option (Ref × Primitive)
core_in (Together fs) = option_and_then named (alone fs)
core_in (Constant title e) = None
core_in (Destructure p e) = None

-- the function that a declaration defines, where no text can say it
abbrev pub core_of : Declaration → Option (Ref × Primitive)
core_of (Given r k) = None
core_of (Define g) = core_in g

abbrev pub kept_by : Option (Ref × Primitive) → Declaration → List Declaration → List Declaration
kept_by None d ds = d ∷ ds
kept_by (Some p) d ds = ds

-- the others
abbrev pub others : List Declaration → List Declaration
others [] = []
others (d ∷ ds) = kept_by (core_of d) d (others ds)

-- those functions of a module, in order
abbrev pub cores_of : Module → List (Ref × Primitive)
cores_of m = filter_map core_of m.declarations

-- the module without them
abbrev pub without_cores : Module → Module
without_cores m = record {
  name = m.name;
  unions = m.unions;
  aliases = m.aliases;
  ports = m.ports;
  declarations = others m.declarations;
}
