-- Small programs, as canonical trees.
use Rattle.std.specs.Prelude.{ℕ, pos, List, [], ◌∷◌, Option, Some, None, codes}
use Rattle.elm_base.specs.declared.position.Pos.{Pos}
use Rattle.elm_canon.specs.declared.reference.Ref.TheVariants.{Local, Top}
use Rattle.elm_canon.specs.declared.tree.Literal.TheVariants as literal
use Rattle.elm_canon.specs.declared.tree.Operator.{Operator}
use Rattle.elm_canon.specs.declared.tree.Operator.TheVariants as operator
use Rattle.elm_canon.specs.Unions.{TupleUnion, ListUnion, tuple_alternative, nil_alternative, cons_alternative}
use Rattle.elm_canon.specs.Tree.{Annotation, Variable, FunctionType, Pattern, Anything, Named, Construct}
use Rattle.elm_canon.specs.Tree.{LocatedPattern}
use Rattle.elm_canon.specs.Tree.{patterns_of, TupleOf, RecordOf, Access, Update, Binary, Title, Expr, Is, NameOf}
use Rattle.elm_canon.specs.Tree.{Accessor, Lambda, Apply, Strict, Let, Case, Located, exprs_of, branches_of, groups_of}
use Rattle.elm_canon.specs.Tree.{Group}
use Rattle.elm_canon.specs.Tree.{Together, Constant, Destructure, functions_of, Define, Module}
use Rattle.elm_type.specs.Types.{Name}

abbrev pub place : ℕ → ℕ → Pos
place row column = record { row = row; column = column }

abbrev pub x : Name
x = codes "x"

abbrev pub y : Name
y = codes "y"

abbrev pub z : Name
z = codes "z"

-- ---- parts of programs, at a row and a column

abbrev pub number : ℕ → ℕ → ℕ → Expr
number row column n = Located (place row column) (Is (literal.Int (pos n)))

abbrev pub text : ℕ → ℕ → Name → Expr
text row column t = Located (place row column) (Is (literal.Text t))

abbrev pub name : ℕ → ℕ → Name → Expr
name row column v = Located (place row column) (NameOf (Local v))

abbrev pub call : ℕ → ℕ → Name → Expr → Expr
call row column f e = Located (place row column) (Apply (name row column f) (exprs_of (e ∷ [])))

abbrev pub pair_of : ℕ → ℕ → Expr → Expr → Expr
pair_of row column a b = Located (place row column) (Strict TupleOf (exprs_of (a ∷ b ∷ [])))

abbrev pub computed : ℕ → ℕ → ℕ → Operator → Expr → Expr → Expr
computed row column at op a b = Located (place row column) (Strict (Binary (place row at) op) (exprs_of (a ∷ b ∷ [])))

abbrev pub bound : ℕ → ℕ → Name → Pattern
bound row column v = LocatedPattern (place row column) (Named v)

abbrev pub local_title : Name → ℕ → ℕ → Option Annotation → Title
local_title f row column annotation = record { name = Local f; place = place row column; annotation = annotation }

abbrev pub title : Name → ℕ → Option Annotation → Title
title f row annotation = record { name = Top (codes "Main") f; place = place row 1; annotation = annotation }

abbrev pub function : Title → List Pattern → Expr → Group
function title ps e = Together (functions_of ((title, patterns_of ps, e) ∷ []))

abbrev pub module_of : Group → Module
module_of g = record { name = codes "Main"; unions = []; aliases = []; ports = []; declarations = Define g ∷ [] }

abbrev pub a_to_a : Annotation
a_to_a = FunctionType (Variable (codes "a")) (Variable (codes "a"))

-- ---- programs

-- .z { x = 1, y = 2 } in row 4, at column 5
abbrev pub field_of_record : Expr
field_of_record = Located (place 4 5) (Apply (Located (place 4 5) (Accessor z)) (exprs_of (
    Located (place 4 8) (Strict (RecordOf (x ∷ y ∷ [])) (exprs_of (number 4 14 1 ∷ number 4 21 2 ∷ []))) ∷ [])))

abbrev pub no_field_z : Module
no_field_z = module_of (Constant (title (codes "bad") 3 None) field_of_record)

-- pairs =
--     let pair x = ( x, x ) in ( pair 1, pair "a" )
abbrev pub pair_twice : Module
pair_twice =
    let pair = local_title (codes "pair") 4 9 None in
    module_of (Constant (title (codes "pairs") 3 None) (Located (place 4 5) (Let
    (groups_of (function pair (bound 4 14 x ∷ []) (pair_of 4 18 (name 4 20 x) (name 4 23 x)) ∷ []))
    (pair_of 4 30 (call 4 32 (codes "pair") (number 4 37 1)) (call 4 40 (codes "pair") (text 4 45 (codes "a")))))))

-- bad =
--     (\pair -> ( pair 1, pair "a" )) (\x -> ( x, x ))
abbrev pub pair_once : Module
pair_once =
    module_of (Constant (title (codes "bad") 3 None) (Located (place 4 5) (Apply
    (Located (place 4 6) (Lambda (patterns_of (bound 4 7 (codes "pair") ∷ []))
    (pair_of 4 15 (call 4 17 (codes "pair") (number 4 22 1)) (call 4 25 (codes "pair") (text 4 30 (codes "a"))))))
    (exprs_of (Located (place 4 38) (Lambda (patterns_of (bound 4 39 x ∷ []))
    (pair_of 4 44 (name 4 46 x) (name 4 49 x))) ∷ [])))))

-- f : a -> a
-- f x =
--     1
abbrev pub not_every_a : Module
not_every_a = module_of (function (title (codes "f") 4 (Some a_to_a)) (bound 4 3 x ∷ []) (number 5 5 1))

-- g : number -> number
-- g x = x + 1
abbrev pub next : Module
next =
    let annotation = FunctionType (Variable (codes "number")) (Variable (codes "number")) in
    module_of (function (title (codes "g") 4 (Some annotation)) (bound 4 3 x ∷ [])
    (computed 4 7 9 operator.Add (name 4 7 x) (number 4 11 1)))

-- f r =
--     { r | x = r.x + 1 }
abbrev pub updated : Module
updated =
    let r = codes "r" in
    let x_of_r = Located (place 4 15) (Strict (Access x) (exprs_of (name 4 15 r ∷ []))) in
    module_of (function (title (codes "f") 3 None) (bound 3 3 r ∷ []) (Located (place 4 5) (Strict (Update (x ∷ []))
    (exprs_of (name 4 7 r ∷ computed 4 15 19 operator.Add x_of_r (number 4 21 1) ∷ [])))))

-- f a b =
--     ( a < b, a ++ b )
abbrev pub both_classes : Module
both_classes =
    let a = codes "a" in
    let b = codes "b" in
    module_of (function (title (codes "f") 3 None) (bound 3 3 a ∷ bound 3 5 b ∷ []) (pair_of 4 5
    (computed 4 7 9 operator.Less (name 4 7 a) (name 4 11 b))
    (computed 4 14 16 operator.Append (name 4 14 a) (name 4 19 b))))

-- f : a -> a
-- f x =
--     let
--         g : b -> a
--         g y =
--             x
--     in
--     g 1
abbrev pub scoped : Module
scoped =
    let b_to_a = FunctionType (Variable (codes "b")) (Variable (codes "a")) in
    let g = local_title (codes "g") 7 9 (Some b_to_a) in
    module_of (function (title (codes "f") 4 (Some a_to_a)) (bound 4 3 x ∷ []) (Located (place 5 5) (Let
    (groups_of (function g (bound 7 11 y ∷ []) (name 8 13 x) ∷ []))
    (call 10 5 (codes "g") (number 10 7 1)))))

-- case xs of
--     [] -> 0
--     y :: _ -> y
abbrev pub first_or_zero : Expr
first_or_zero =
    let empty = LocatedPattern (place 2 5) (Construct ListUnion nil_alternative (patterns_of [])) in
    let rest = LocatedPattern (place 3 10) Anything in
    let parts = patterns_of (bound 3 5 y ∷ rest ∷ []) in
    let some = LocatedPattern (place 3 5) (Construct ListUnion cons_alternative parts) in
    Located (place 1 1) (Case (name 1 6 (codes "xs")) (branches_of ((empty, number 2 11 0) ∷ (some, name 3 15 y) ∷ [])))

-- f x
abbrev pub use_of : ℕ → Name → Expr
use_of row f = Located (place row 7) (Apply
    (Located (place row 7) (NameOf (Top (codes "Main") f))) (exprs_of (name row 9 x ∷ [])))

-- f x = g x
--
-- g : a -> a
-- g x = f x
abbrev pub by_annotation : Module
by_annotation =
    module_of (Together (functions_of (
    (title (codes "f") 3 None, patterns_of (bound 3 3 x ∷ []), use_of 3 (codes "g"))
    ∷ (title (codes "g") 6 (Some a_to_a), patterns_of (bound 6 3 x ∷ []), use_of 6 (codes "f"))
    ∷ [])))

-- let ( a, b ) = ( 1, "x" ) in a
abbrev pub taken_apart : Expr
taken_apart =
    let parts = patterns_of (bound 1 7 (codes "a") ∷ bound 1 10 (codes "b") ∷ []) in
    let both = LocatedPattern (place 1 5) (Construct (TupleUnion 2) (tuple_alternative 2) parts) in
    Located (place 1 1) (Let
    (groups_of (Destructure both (pair_of 1 16 (number 1 18 1) (text 1 21 x)) ∷ []))
    (name 1 30 (codes "a")))
