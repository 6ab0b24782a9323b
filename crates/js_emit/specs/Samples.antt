-- Small declarations, as trees, for the worked examples.
use Rattle.std.specs.Prelude.{[], ◌∷◌, true, false, codes}
use Rattle.elm_canon.specs.declared.reference.Ref.TheVariants.{Local}
use Rattle.elm_canon.specs.declared.unions.Tag.TheVariants.{Truth}
use Rattle.elm_canon.specs.declared.unions.Alternative.{Alternative}
use Rattle.elm_canon.specs.Unions.{Union, Declared}
use Rattle.elm_canon.specs.declared.tree.Operator.TheVariants as operator
use Rattle.elm_canon.specs.declared.tree.Connective.TheVariants.{And}
use Rattle.elm_canon.specs.Tree.{Anything, Named, As, FieldsOf, Construct, NoPattern, Build, RecordOf, Update, Expr, If}
use Rattle.elm_canon.specs.Tree.{Logical, Lambda, Strict, Let, Case, NoExpr, branches_of, groups_of, Together, Destructure}
use Rattle.elm_canon.specs.Tree.{Declaration, patterns_of}
use Rattle.elm_meaning.specs.Samples.{here, top, one, two, local, int, binary, unit_of, pair_of, call, int_p, pair_p}
use Rattle.elm_meaning.specs.Samples.{nil_p, cons_p, function, defined, constant}

-- first fs = case fs of [] -> 0 ; f :: _ -> f ()
abbrev pub first : Declaration
first =
    defined (top (codes "first")) (codes "fs" ∷ [])
    (Case (local (codes "fs")) (branches_of ((nil_p, int 0)
    ∷ (cons_p (Named (codes "f")) Anything, call (local (codes "f")) (unit_of ∷ []))
    ∷ [])))

-- zeros a b = case ( a, b ) of ( 0, _ ) -> 1 ; ( _, 0 ) -> 2 ; ( 5, n ) -> n ; _ -> 3
abbrev pub zeros : Declaration
zeros =
    defined (top (codes "zeros")) (codes "a" ∷ codes "b" ∷ [])
    (Case (pair_of (local (codes "a")) (local (codes "b"))) (branches_of ((pair_p (int_p 0) Anything, int 1)
    ∷ (pair_p Anything (int_p 0), int 2)
    ∷ (pair_p (int_p 5) (Named (codes "n")), local (codes "n"))
    ∷ (Anything, int 3)
    ∷ [])))

abbrev pub yes : Alternative
yes = record { name = codes "True"; tag = Truth true; arity = 0 }

abbrev pub no : Alternative
no = record { name = codes "False"; tag = Truth false; arity = 0 }

abbrev pub bools : Union
bools = Declared (codes "Basics") (codes "Bool") (yes ∷ no ∷ [])

-- flip b = case b of False -> True ; True -> False
abbrev pub flip : Declaration
flip =
    defined (top (codes "flip")) (codes "b" ∷ [])
    (Case (local (codes "b")) (branches_of ((Construct bools no NoPattern, Strict (Build here bools yes) NoExpr)
    ∷ (Construct bools yes NoPattern, Strict (Build here bools no) NoExpr)
    ∷ [])))

-- twice = let { ( x, { y } ) = ( 1, { y = 2 } ) ; go n = if n < y then go (n + x) else n } in go 0 + x, and 1 more
abbrev pub twice : Declaration
twice =
    constant (top (codes "twice")) (binary operator.Add
    (Let (groups_of (Destructure (pair_p (Named (codes "x")) (FieldsOf (codes "y" ∷ []))) (pair_of (int 1) (Strict (RecordOf (codes "y" ∷ [])) (one (int 2))))
    ∷ Together (function (Local (codes "go")) (codes "n" ∷ [])
    (If (binary operator.Less (local (codes "n")) (local (codes "y"))) (call (local (codes "go")) (binary operator.Add (local (codes "n")) (local (codes "x")) ∷ []))
    (local (codes "n"))))
    ∷ []))
    (binary operator.Add (call (local (codes "go")) (int 0 ∷ [])) (local (codes "x")))) (int 1))

-- \( x, _ ) r -> { r | y = x }
abbrev pub updater : Expr
updater =
    Lambda (patterns_of (pair_p (Named (codes "x")) Anything ∷ As Anything (codes "r") ∷ []))
    (Strict (Update (codes "y" ∷ [])) (two (local (codes "r")) (local (codes "x"))))

-- between a b n = a <= n && n <= b
abbrev pub between : Declaration
between =
    defined (top (codes "between")) (codes "a" ∷ codes "b" ∷ codes "n" ∷ [])
    (Logical here And (binary operator.AtMost (local (codes "a")) (local (codes "n")))
    (binary operator.AtMost (local (codes "n")) (local (codes "b"))))
