-- How long the text of statements is: at least a unit for each statement, besides its expressions.
use Rattle.std.proofs.Common.{◌≡◌, ℕ, suc, ◌+◌, ◌≤◌, List, ◌++◌, length, length-append, arith}
use Rattle.std.specs.Prelude.{codes}
use Rattle.js_tree.specs.Tree.{Name, Js, JArrow, JBlock, JCall, JBinary, JProperty, JHelper, JList, JObject}
use Rattle.js_tree.specs.Tree.{JsList, NoJs, MoreJs, Fields, NoField, MoreField, Stmts, Const, Let, Assign, Return, If}
use Rattle.js_tree.specs.Tree.{While, Continue, Helper, Operator}
use Rattle.js_tree.specs.Text.{js_text, stmts_text, name_text, list_text, more_text, fields_text, more_fields_text, text_text}
use Rattle.js_tree.specs.Text.{operator_text, helper_text}
use Rattle.js_emit.specs.Names.{now}

abbrev pub size : Js → ℕ
size e = length (js_text e)

abbrev pub core : Stmts → ℕ
core (Const x e s) = size e + suc (core s)
core (Let x e s) = size e + suc (core s)
core (Assign x e s) = size e + suc (core s)
core (Return e) = size e
core (If c s t) = size c + suc (core s + core t)
core (While s) = core s
core Continue = 0

-- ---- pieces

two : (a b : List ℕ) → length (a ++ b) ≡ length a + length b
two a b = length-append a b

pub three : (a b c : List ℕ) → length (a ++ b ++ c) ≡ length a + length b + length c
three a b c = simp length-append

four : (a b c d : List ℕ) → length (a ++ b ++ c ++ d) ≡ length a + length b + length c + length d
four a b c d = simp length-append

pub five : (a b c d e : List ℕ) → length (a ++ b ++ c ++ d ++ e) ≡ length a + length b + length c + length d + length e
five a b c d e = simp length-append

pub six : (a b c d e f : List ℕ) → length (a ++ b ++ c ++ d ++ e ++ f) ≡ length a + length b + length c + length d + length e + length f
six a b c d e f = simp length-append

seven : (a b c d e f g : List ℕ) → length (a ++ b ++ c ++ d ++ e ++ f ++ g)
    ≡ length a + length b + length c + length d + length e + length f + length g
seven a b c d e f g = simp length-append

-- ---- statements

pub core_text : (s : Stmts) → core s ≤ length (stmts_text s)
core_text (Const x e s) =
    omega (arith, core_text s, six (codes "const ") (name_text x) (codes "=") (js_text e) (codes ";") (stmts_text s))
core_text (Let x e s) =
    omega (arith, core_text s, six (codes "let ") (name_text x) (codes "=") (js_text e) (codes ";") (stmts_text s))
core_text (Assign x e s) =
    omega (arith, core_text s, five (name_text x) (codes "=") (js_text e) (codes ";") (stmts_text s))
core_text (Return e) = omega (arith, three (codes "return ") (js_text e) (codes ";"))
core_text (If c s t) =
    omega (arith, core_text s, core_text t, seven (codes "if(") (js_text c) (codes "){") (stmts_text s) (codes "}else{") (stmts_text t) (codes "}"))
core_text (While s) = omega (arith, core_text s, three (codes "while(true){") (stmts_text s) (codes "}"))
core_text Continue = omega arith

pub block_core : (s : Stmts) → core s ≤ size (JBlock s)
block_core s = omega (arith, core_text s, three (codes "(()=>{") (stmts_text s) (codes "})()"))

pub arrow_core : (p : Name) (s : Stmts) → suc (core s) ≤ size (JArrow p s)
arrow_core p s = omega (arith, core_text s, five (codes "(") (name_text p) (codes "=>{") (stmts_text s) (codes "})"))

pub core_now : (s : Stmts) → core s ≤ size (now s)
core_now (Return e) = omega arith
core_now (If c s t) =
    omega (arith, core_now s, core_now t, seven (codes "(") (js_text c) (codes "?") (js_text (now s)) (codes ":") (js_text (now t)) (codes ")"))
core_now (Const x e s) = block_core (Const x e s)
core_now (Let x e s) = block_core (Let x e s)
core_now (Assign x e s) = block_core (Assign x e s)
core_now (While s) = block_core (While s)
core_now Continue = omega arith

-- ---- expressions

pub call_size : (f a : Js) → suc (size f + size a) ≤ size (JCall f a)
call_size f a = omega (arith, four (js_text f) (codes "(") (js_text a) (codes ")"))

pub binary_size : (op : Operator) (a b : Js) → suc (suc (size a + size b)) ≤ size (JBinary op a b)
binary_size op a b = omega (arith, five (codes "(") (js_text a) (operator_text op) (js_text b) (codes ")"))

pub property_size : (x : Js) (k : List ℕ) → suc (size x) ≤ size (JProperty x k)
property_size x k = omega (arith, four (js_text x) (codes "[") (text_text k) (codes "]"))

-- ---- lists of expressions and fields

-- a unit for each besides
abbrev pub total : JsList → ℕ
total NoJs = 0
total (MoreJs x xs) = suc (size x + total xs)

abbrev pub field_total : Fields → ℕ
field_total NoField = 0
field_total (MoreField k x fs) = suc (size x + field_total fs)

more_total : (xs : JsList) → total xs ≤ length (more_text xs)
more_total NoJs = omega arith
more_total (MoreJs x xs) = omega (arith, more_total xs, three (codes ",") (js_text x) (more_text xs))

pub list_total : (xs : JsList) → total xs ≤ suc (length (list_text xs))
list_total NoJs = omega arith
list_total (MoreJs x xs) = omega (arith, more_total xs, two (js_text x) (more_text xs))

more_fields_total : (fs : Fields) → field_total fs ≤ length (more_fields_text fs)
more_fields_total NoField = omega arith
more_fields_total (MoreField k x fs) =
    omega (arith, more_fields_total fs, five (codes ",") (text_text k) (codes ":") (js_text x) (more_fields_text fs))

pub fields_total : (fs : Fields) → field_total fs ≤ length (fields_text fs)
fields_total NoField = omega arith
fields_total (MoreField k x fs) =
    omega (arith, more_fields_total fs, four (text_text k) (codes ":") (js_text x) (more_fields_text fs))

pub helper_size : (h : Helper) (xs : JsList) → total xs ≤ size (JHelper h xs)
helper_size h xs = omega (arith, list_total xs, four (helper_text h) (codes "(") (list_text xs) (codes ")"))

pub list_size : (xs : JsList) → total xs ≤ size (JList xs)
list_size xs = omega (arith, list_total xs, three (codes "_list([") (list_text xs) (codes "])"))

pub object_size : (fs : Fields) → field_total fs ≤ size (JObject fs)
object_size fs = omega (arith, fields_total fs, three (codes "{") (fields_text fs) (codes "}"))
