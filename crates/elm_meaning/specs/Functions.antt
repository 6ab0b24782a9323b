-- Functions without a body: constructors, ports, `.x`, and those functions of the core that no text of the language can
-- say. (Elm guide: custom types, records, ports; elm/core 1.0.5: Debug, Basics, Bitwise, String, Char.)
use Rattle.std.specs.Prelude.{ℕ, length}
use Rattle.elm_canon.specs.Names.{Name}
use Rattle.elm_canon.specs.Tree.{Known, Maker, RecordMaker, OutPort, InPort}

-- Each is a function of the fixed text in front of the JavaScript of a program.
pub data Primitive : Type 0 where
  -- crashes with a text, as Debug.todo does
  Crash : Primitive
  -- what is left of a division, with the sign of what is divided, or with the sign of the divisor, which comes first
  Remainder : Primitive
  Modulo : Primitive
  BitAnd : Primitive
  BitOr : Primitive
  BitXor : Primitive
  BitNot : Primitive
  -- the number of places comes first
  ShiftLeft : Primitive
  ShiftRight : Primitive
  ShiftRightZero : Primitive
  -- a number in decimal
  FromInt : Primitive
  -- how many units a text has
  Length : Primitive
  -- the unit at a place of a text, and the text of one unit
  UnitAt : Primitive
  FromUnit : Primitive
  -- a text from one place to another
  Slice : Primitive
  -- where a text stands first, from a place on, in another, or -1
  Find : Primitive
  -- a value as one of another type: a Char as a String, a String of one character as a Char
  Same : Primitive
  -- -1, 0 or 1, by the order of two values
  Compare : Primitive

pub data Bodiless : Type 0 where
  -- a constructor or a port
  Given : Known → Bodiless
  -- .x
  Getter : Name → Bodiless
  Core : Primitive → Bodiless

-- how many arguments each takes

abbrev pub primitive_arity : Primitive → ℕ
primitive_arity Crash = 1
primitive_arity BitNot = 1
primitive_arity FromInt = 1
primitive_arity Length = 1
primitive_arity FromUnit = 1
primitive_arity Same = 1
primitive_arity Slice = 3
primitive_arity Find = 3
primitive_arity _ = 2

abbrev pub known_arity : Known → ℕ
known_arity (Maker a) = a.arity
known_arity (RecordMaker ks) = length ks
known_arity (OutPort port t) = 1
known_arity (InPort port t) = 1

abbrev pub arity_of : Bodiless → ℕ
arity_of (Given k) = known_arity k
arity_of (Getter k) = 1
arity_of (Core p) = primitive_arity p
