-- Names, literals and objects of the output.
use Rattle.std.specs.Prelude.{ℕ, zero, suc, ℤ, pos, List, [], ◌∷◌, codes, decimal}
use Rattle.elm_canon.specs.Names as source
use Rattle.elm_canon.specs.declared.reference.Ref.{Ref}
use Rattle.elm_canon.specs.declared.reference.Ref.TheVariants as ref
use Rattle.elm_canon.specs.declared.unions.Tag.{Tag}
use Rattle.elm_canon.specs.declared.unions.Tag.TheVariants.{Number, Truth, Blank}
use Rattle.elm_canon.specs.declared.tree.Literal.{Literal}
use Rattle.elm_canon.specs.declared.tree.Literal.TheVariants as literal
use Rattle.js_tree.specs.Tree.{Name, Top, Local, Made, Js, JInt, JBool, JText, JVar, JBlock, JConditional, JObject, JsList}
use Rattle.js_tree.specs.Tree.{NoJs, MoreJs, Fields, NoField, MoreField, Stmts, Const, Let, Assign, Return, If, While}
use Rattle.js_tree.specs.Tree.{Continue}

abbrev pub js_name : Ref → Name
js_name (ref.Local x) = Local x
js_name (ref.Top m x) = Top m x

-- so many made names, from that number on
abbrev pub made_names : ℕ → ℕ → List Name
made_names d zero = []
made_names d (suc n) = Made d ∷ made_names (suc d) n

-- a character is a text
abbrev pub literal_js : Literal → Js
literal_js (literal.Int n) = JInt n
literal_js (literal.Char us) = JText us
literal_js (literal.Text us) = JText us

-- ---- objects

-- the name of a part by its number: a0, a1, and so on
abbrev pub part_name : ℕ → List ℕ
part_name i = 97 ∷ decimal i

-- the parts from the i-th on
abbrev pub parts_from : ℕ → JsList → Fields
parts_from i NoJs = NoField
parts_from i (MoreJs x xs) = MoreField (part_name i) x (parts_from (suc i) xs)

-- {"$":k,"a0":..}
abbrev pub tagged : ℤ → JsList → Js
tagged k xs = JObject (MoreField (codes "$") (JInt k) (parts_from 0 xs))

-- a constructor with its fields
abbrev pub build_js : Tag → JsList → Js
build_js (Number k) xs = tagged k xs
build_js (Truth b) xs = JBool b
build_js Blank xs = JInt (pos 0)

-- {"x":..}, in written order
abbrev pub fields_js : List source.Name → JsList → Fields
fields_js (k ∷ ks) (MoreJs x xs) = MoreField k x (fields_js ks xs)
fields_js _ _ = NoField

-- ---- lists of expressions

abbrev pub one : Js → JsList
one x = MoreJs x NoJs

abbrev pub two : Js → Js → JsList
two x y = MoreJs x (one y)

abbrev pub vars : List Name → JsList
vars [] = NoJs
vars (x ∷ xs) = MoreJs (JVar x) (vars xs)

-- ---- statements as an expression

-- What statements in return position return, as an expression: a choice between such, or a function that is called at
-- once.
abbrev pub now : Stmts → Js
now (Return e) = e
now (If c s t) = JConditional c (now s) (now t)
now (Const x e s) = JBlock (Const x e s)
now (Let x e s) = JBlock (Let x e s)
now (Assign x e s) = JBlock (Assign x e s)
now (While s) = JBlock (While s)
now Continue = JBlock Continue
