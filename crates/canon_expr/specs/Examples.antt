-- Calls and chains of operators, worked out.
use Rattle.std.specs.Prelude.{◌≡◌, ℕ, pos, List, [], ◌∷◌, map, codes}
use Rattle.elm_canon.specs.Unions.{Union, Declared}
use Rattle.elm_canon.specs.declared.unions.Alternative.{Alternative}
use Rattle.elm_canon.specs.declared.unions.Tag.TheVariants.{Number}
use Rattle.elm_canon.specs.declared.reference.Ref.TheVariants.{Local, Top}
use Rattle.elm_canon.specs.declared.tree.Operator.{Operator}
use Rattle.elm_canon.specs.declared.tree.Operator.TheVariants as operator
use Rattle.elm_canon.specs.declared.tree.Connective.TheVariants as connective
use Rattle.elm_canon.specs.Tree.{Expr, NameOf, Located, Apply, Strict, Build, Binary, Logical, exprs_of}
use Rattle.elm_tree.specs.Tree.{Pos, Word}
use Rattle.elm_tree.specs.Regroup.{operator_rows}
use Rattle.canon_expr.specs.Operators.{operator_meanings, function_of, both}
use Rattle.canon_expr.specs.Callees.{Callee, Maker, alone, plain, with_arguments, finished, chain_of}

-- in row 1
abbrev at : ℕ → Pos
at column = record { row = 1; column = column }

abbrev word : ℕ → List ℕ → Word
word column text = record { place = at column; text = text }

abbrev a : Expr
a = NameOf (Local (codes "a"))

abbrev b : Expr
b = NameOf (Local (codes "b"))

abbrev c : Expr
c = NameOf (Local (codes "c"))

abbrev f : Expr
f = NameOf (Local (codes "f"))

abbrev g : Expr
g = NameOf (Local (codes "g"))

abbrev computes : ℕ → Operator → Expr → Expr → Expr
computes column o x y = Strict (Binary (at column) o) (both x y)

-- a constructor with two fields
abbrev pair_alternative : Alternative
pair_alternative = record { name = codes "Pair"; tag = Number (pos 0); arity = 2 }

abbrev pair_union : Union
pair_union = Declared (codes "Main") (codes "Pair") (pair_alternative ∷ [])

abbrev pair : Callee
pair = alone (Maker (at 1) (codes "Main") (codes "Pair") pair_union pair_alternative)

-- ---- operators

-- each operator of the language has a meaning
abbrev pub EachMeans : Type 0
EachMeans = map (λ m. m.text) operator_meanings ≡ map (λ r. r.text) operator_rows

-- (::) is a function of List
abbrev pub ConsFunction : Type 0
ConsFunction = function_of (word 1 (codes "::")) ≡ Located (at 1) (NameOf (Top (codes "List") (codes "cons")))

-- ---- calls

-- a |> f b
abbrev pub PipedLast : Type 0
PipedLast =
    finished (chain_of (plain a) ((word 3 (codes "|>"), with_arguments (plain f) (b ∷ [])) ∷ []))
    ≡ Apply f (both b a)

-- a |> f |> g
abbrev pub PipedTwice : Type 0
PipedTwice =
    finished (chain_of (plain a) ((word 3 (codes "|>"), plain f) ∷ (word 8 (codes "|>"), plain g) ∷ []))
    ≡ Apply g (exprs_of (Apply f (exprs_of (a ∷ [])) ∷ []))

-- Pair a <| b has both fields
abbrev pub Builds : Type 0
Builds =
    finished (chain_of (with_arguments pair (a ∷ [])) ((word 8 (codes "<|"), plain b) ∷ []))
    ≡ Strict (Build (at 1) pair_union pair_alternative) (both a b)

-- Pair a is a function
abbrev pub WantsMore : Type 0
WantsMore =
    finished (with_arguments pair (a ∷ []))
    ≡ Apply (Located (at 1) (NameOf (Top (codes "Main") (codes "Pair")))) (exprs_of (a ∷ []))

-- ---- chains

-- a - b - c
abbrev pub ToTheLeft : Type 0
ToTheLeft =
    finished (chain_of (plain a) ((word 3 (codes "-"), plain b) ∷ (word 7 (codes "-"), plain c) ∷ []))
    ≡ computes 7 operator.Subtract (computes 3 operator.Subtract a b) c

-- a :: b ++ c
abbrev pub ToTheRight : Type 0
ToTheRight =
    finished (chain_of (plain a) ((word 3 (codes "::"), plain b) ∷ (word 8 (codes "++"), plain c) ∷ []))
    ≡ computes 3 operator.Cons a (computes 8 operator.Append b c)

-- a || b && c
abbrev pub Decided : Type 0
Decided =
    finished (chain_of (plain a) ((word 3 (codes "||"), plain b) ∷ (word 8 (codes "&&"), plain c) ∷ []))
    ≡ Logical (at 3) connective.Or a (Logical (at 8) connective.And b c)

-- a ^ b
abbrev pub Power : Type 0
Power =
    finished (chain_of (plain a) ((word 3 (codes "^"), plain b) ∷ []))
    ≡ Apply (Located (at 3) (NameOf (Top (codes "Basics") (codes "pow")))) (both a b)
