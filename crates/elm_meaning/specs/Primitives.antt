-- What a function without a body does with its arguments. (Elm guide: custom types, records, ports; elm/core 1.0.5:
-- Debug, Basics, Bitwise, String, Char, Platform.Cmd, Platform.Sub.) Values of another kind have no rule.
use Rattle.std.specs.Prelude.{ℤ, pos, length, if◌then◌else◌, ◌==◌}
use Rattle.runs.specs.Ends.{End, Val, Crashed, Stuck, then_do}
use Rattle.runs.specs.Numbers.{remainder, modulo, and_bits, or_bits, xor_bits, not_bits, shift_left, shift_right}
use Rattle.runs.specs.Numbers.{shift_right_zero, number_text}
use Rattle.runs.specs.Texts.{unit_at, slice, find_in, unit_of}
use Rattle.elm_canon.specs.Names.{Name}
use Rattle.elm_canon.specs.declared.unions.Tag.TheVariants.{Number}
use Rattle.elm_canon.specs.Tree.{Known, Maker, RecordMaker, OutPort, InPort}
use Rattle.elm_meaning.specs.Functions as primitives
use Rattle.elm_meaning.specs.Functions.{Primitive, Bodiless, Given, Getter, Core, arity_of}
use Rattle.elm_meaning.specs.Values.{Value, IntV, TextV, TagV, KnownV, WireV, Values, NoValue, MoreValue, count_of}
use Rattle.elm_meaning.specs.Values.{record_of, field_of}
use Rattle.elm_meaning.specs.Order.{compares, order_number}
use Rattle.elm_meaning.specs.Operate.{on_ints, build}
use Rattle.elm_meaning.specs.Ports.{unshape}

-- ---- the functions of the core

-- two numbers that give a number
abbrev pub two_ints : Values → (ℤ → ℤ → End ℤ) → End Value
two_ints (MoreValue v (MoreValue w NoValue)) go = on_ints v w go
two_ints _ go = Stuck

abbrev pub primitive : Primitive → Values → End Value
primitive primitives.Crash (MoreValue (TextV t) NoValue) = Crashed t
primitive primitives.Remainder vs = two_ints vs remainder
primitive primitives.Modulo vs = two_ints vs modulo
primitive primitives.BitAnd vs = two_ints vs (λ a b. Val (and_bits a b))
primitive primitives.BitOr vs = two_ints vs (λ a b. Val (or_bits a b))
primitive primitives.BitXor vs = two_ints vs (λ a b. Val (xor_bits a b))
primitive primitives.BitNot (MoreValue (IntV a) NoValue) = Val (IntV (not_bits a))
primitive primitives.ShiftLeft vs = two_ints vs (λ n a. Val (shift_left n a))
primitive primitives.ShiftRight vs = two_ints vs (λ n a. Val (shift_right n a))
primitive primitives.ShiftRightZero vs = two_ints vs (λ n a. Val (shift_right_zero n a))
primitive primitives.FromInt (MoreValue (IntV n) NoValue) = Val (TextV (number_text n))
primitive primitives.Length (MoreValue (TextV t) NoValue) = Val (IntV (pos (length t)))
primitive primitives.UnitAt (MoreValue (IntV i) (MoreValue (TextV t) NoValue)) =
    then_do (unit_at i t) (λ u. Val (IntV u))
primitive primitives.FromUnit (MoreValue (IntV n) NoValue) = Val (TextV (unit_of n))
primitive primitives.Slice (MoreValue (IntV a) (MoreValue (IntV b) (MoreValue (TextV t) NoValue))) =
    Val (TextV (slice a b t))
primitive primitives.Find (MoreValue (TextV p) (MoreValue (IntV i) (MoreValue (TextV t) NoValue))) =
    Val (IntV (find_in p i t))
primitive primitives.Same (MoreValue v NoValue) = Val v
primitive primitives.Compare (MoreValue v (MoreValue w NoValue)) =
    then_do (compares v w) (λ order. Val (IntV (order_number order)))
primitive _ vs = Stuck

-- ---- constructors and ports

-- A command or a subscription of a port, with what it sends or with the function that makes a message of what comes in.
-- It has the number 0; a batch of such has the number 1, and a list.
abbrev pub of_port : Name → Value → Value
of_port port v = TagV (Number (pos 0)) (MoreValue (TextV port) (MoreValue v NoValue))

abbrev pub given : Known → Values → End Value
given (Maker a) vs = build a.tag vs
given (RecordMaker ks) vs = record_of ks vs
given (OutPort port t) (MoreValue v NoValue) = then_do (unshape t v) (λ w. Val (of_port port (WireV w)))
given (InPort port t) (MoreValue f NoValue) = Val (of_port port f)
given _ vs = Stuck

-- ---- calls

-- with all its arguments
abbrev pub finish : Bodiless → Values → End Value
finish (Given k) vs = given k vs
finish (Getter k) (MoreValue v NoValue) = field_of k v
finish (Core p) vs = primitive p vs
finish _ vs = Stuck

-- with the arguments that it has so far
abbrev pub known : Bodiless → Values → End Value
known f vs = if count_of vs == arity_of f then finish f vs else Val (KnownV f vs)
