-- What is done with the values of parts, and what a function without a body is.
use Rattle.std.specs.Prelude.{pos, negsuc, List, [], ◌∷◌, false}
use Rattle.elm_canon.specs.declared.tree.Operator.{Operator}
use Rattle.elm_canon.specs.declared.tree.Operator.TheVariants as operator
use Rattle.elm_canon.specs.declared.tree.Connective.{Connective}
use Rattle.elm_canon.specs.declared.tree.Connective.TheVariants as connective
use Rattle.elm_canon.specs.Tree.{Op, TupleOf, ListOf, Build, RecordOf, Access, Update, Negate, Binary}
use Rattle.elm_canon.specs.Tree.{Known, Maker, RecordMaker, OutPort, InPort}
use Rattle.elm_meaning.specs.Functions as source
use Rattle.elm_meaning.specs.Functions.{Primitive, Bodiless, Given, Getter, Core, arity_of}
use Rattle.js_tree.specs.Tree as js
use Rattle.js_tree.specs.Tree.{Name, Helper, Js, JInt, JBool, JText, JVar, JArrow, JCall, JBinary, JObject, JProperty}
use Rattle.js_tree.specs.Tree.{JList, JHelper, JsList, NoJs, MoreJs, Stmts, Return, Plus, Minus, Times, StrictEquals}
use Rattle.js_emit.specs.Names.{tagged, build_js, fields_js, two, vars, made_names, now}
use Rattle.js_emit.specs.Codecs.{encoder}

-- ---- operators

abbrev pub is_false : Js → Js
is_false x = JBinary StrictEquals x (JBool false)

abbrev pub compares_as : Js → Js → Js → Js
compares_as a b n = JBinary StrictEquals (JHelper js.Compare (two a b)) n

abbrev pub binary_js : Operator → Js → Js → Js
binary_js operator.Add a b = JBinary Plus a b
binary_js operator.Subtract a b = JBinary Minus a b
binary_js operator.Multiply a b = JBinary Times a b
binary_js operator.Divide a b = JHelper js.Quotient (two a b)
binary_js operator.Append a b = JHelper js.Append (two a b)
binary_js operator.Cons a b = tagged (pos 1) (two a b)
binary_js operator.Equal a b = JHelper js.Equal (two a b)
binary_js operator.Unequal a b = is_false (JHelper js.Equal (two a b))
binary_js operator.Less a b = compares_as a b (JInt (negsuc 0))
binary_js operator.Greater a b = compares_as a b (JInt (pos 1))
binary_js operator.AtMost a b = is_false (compares_as a b (JInt (pos 1)))
binary_js operator.AtLeast a b = is_false (compares_as a b (JInt (negsuc 0)))

-- one thing with the parts; 0 where there is another number of them than that takes
abbrev pub perform_js : Op → JsList → Js
perform_js TupleOf NoJs = JInt (pos 0)
perform_js TupleOf xs = tagged (pos 0) xs
perform_js ListOf NoJs = tagged (pos 0) NoJs
perform_js ListOf xs = JList xs
perform_js (Build place u a) xs = build_js a.tag xs
perform_js (RecordOf ks) xs = JObject (fields_js ks xs)
perform_js (Access k) (MoreJs x NoJs) = JProperty x k
perform_js (Update ks) (MoreJs r xs) = JHelper js.Update (two r (JObject (fields_js ks xs)))
perform_js Negate (MoreJs x NoJs) = JBinary Minus (JInt (pos 0)) x
perform_js (Binary place op) (MoreJs x (MoreJs y NoJs)) = binary_js op x y
perform_js _ xs = JInt (pos 0)

abbrev pub connective_js : Connective → js.Operator
connective_js connective.And = js.And
connective_js connective.Or = js.Or

-- ---- functions without a body

abbrev pub helper : Primitive → Helper
helper source.Crash = js.Crash
helper source.Remainder = js.Remainder
helper source.Modulo = js.Modulo
helper source.BitAnd = js.BitAnd
helper source.BitOr = js.BitOr
helper source.BitXor = js.BitXor
helper source.BitNot = js.BitNot
helper source.ShiftLeft = js.ShiftLeft
helper source.ShiftRight = js.ShiftRight
helper source.ShiftRightZero = js.ShiftRightZero
helper source.FromInt = js.FromInt
helper source.Length = js.Length
helper source.UnitAt = js.UnitAt
helper source.FromUnit = js.FromUnit
helper source.Slice = js.Slice
helper source.Find = js.Find
helper source.Same = js.Same
helper source.Compare = js.Compare

abbrev pub given_js : Known → JsList → Js
given_js (Maker a) xs = build_js a.tag xs
given_js (RecordMaker ks) xs = JObject (fields_js ks xs)
given_js (OutPort port t) (MoreJs x NoJs) = tagged (pos 0) (two (JText port) (JCall (encoder t) x))
given_js (InPort port t) (MoreJs x NoJs) = tagged (pos 0) (two (JText port) x)
given_js _ xs = JInt (pos 0)

-- with all its arguments
abbrev pub finish_js : Bodiless → JsList → Js
finish_js (Given k) xs = given_js k xs
finish_js (Getter k) (MoreJs x NoJs) = JProperty x k
finish_js (Core p) xs = JHelper (helper p) xs
finish_js _ xs = JInt (pos 0)

-- a function for each name
abbrev pub arrows_of : List Name → Stmts → Stmts
arrows_of [] s = s
arrows_of (q ∷ qs) s = Return (JArrow q (arrows_of qs s))

-- as a function of its arguments in turn
abbrev pub bodiless_js : Bodiless → Js
bodiless_js k = let xs = made_names 0 (arity_of k) in now (arrows_of xs (Return (finish_js k (vars xs))))
