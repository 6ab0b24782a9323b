-- The functions of the core that no text of the language can say.
use Rattle.elm_meaning.specs.Functions as source
use Rattle.js_emit.specs.declared.bodiless.Primitive.{Primitive}
use Rattle.js_emit.specs.declared.bodiless.Primitive.TheVariants as primitive

abbrev pub primitive_view : Primitive → source.Primitive
primitive_view primitive.Crash = source.Crash
primitive_view primitive.Remainder = source.Remainder
primitive_view primitive.Modulo = source.Modulo
primitive_view primitive.BitAnd = source.BitAnd
primitive_view primitive.BitOr = source.BitOr
primitive_view primitive.BitXor = source.BitXor
primitive_view primitive.BitNot = source.BitNot
primitive_view primitive.ShiftLeft = source.ShiftLeft
primitive_view primitive.ShiftRight = source.ShiftRight
primitive_view primitive.ShiftRightZero = source.ShiftRightZero
primitive_view primitive.FromInt = source.FromInt
primitive_view primitive.Length = source.Length
primitive_view primitive.UnitAt = source.UnitAt
primitive_view primitive.FromUnit = source.FromUnit
primitive_view primitive.Slice = source.Slice
primitive_view primitive.Find = source.Find
primitive_view primitive.Same = source.Same
primitive_view primitive.Compare = source.Compare
