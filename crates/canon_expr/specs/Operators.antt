-- What operators mean. (elm/core 1.0.5: Basics, List.)
use Rattle.std.specs.Prelude.{ℕ, List, [], ◌∷◌, if◌then◌else◌, codes}
use Rattle.std.specs.Str.{bytes_eq}
use Rattle.elm_base.specs.Units.{text_units}
use Rattle.canon_env.specs.Exposing.{operator_home}
use Rattle.elm_canon.specs.declared.reference.Ref.TheVariants.{Top}
use Rattle.elm_canon.specs.declared.tree.Operator.TheVariants as operator
use Rattle.elm_canon.specs.declared.tree.Connective.TheVariants as connective
use Rattle.elm_canon.specs.Tree.{Expr, NameOf, Located, Exprs, NoExpr, MoreExpr}
use Rattle.elm_tree.specs.Tree.{Word}
use Rattle.canon_expr.specs.declared.operators.Between.{Between}
use Rattle.canon_expr.specs.declared.operators.Between.TheVariants.{ToRight, ToLeft, Computes, Decides, Calls}

-- an operator: its text, the core function that it names, in UTF-8, and what it does
pub record Meaning : Type 0 where
  pub text : List ℕ
  pub function : List ℕ
  pub between : Between

abbrev pub means : List ℕ → List ℕ → Between → Meaning
means text function between = record { text = text; function = function; between = between }

abbrev pub tight_meanings : List Meaning
tight_meanings =
    means (codes "++") (codes "append") (Computes operator.Append)
    ∷ means (codes "::") (codes "cons") (Computes operator.Cons)
    ∷ means (codes "+") (codes "add") (Computes operator.Add)
    ∷ means (codes "-") (codes "sub") (Computes operator.Subtract)
    ∷ means (codes "*") (codes "mul") (Computes operator.Multiply)
    ∷ means (codes "//") (codes "idiv") (Computes operator.Divide)
    ∷ means (codes "^") (codes "pow") Calls
    ∷ means (codes "<<") (codes "composeL") Calls
    ∷ means (codes ">>") (codes "composeR") Calls
    ∷ []

-- the right one is applied to the left one (|>), or the left one to the right one (<|); or it computes, decides whether
-- to go on, or calls the core function
abbrev pub operator_meanings : List Meaning
operator_meanings =
    means (codes "<|") (codes "apL") ToLeft ∷ means (codes "|>") (codes "apR") ToRight
    ∷ means (codes "||") (codes "or") (Decides connective.Or)
    ∷ means (codes "&&") (codes "and") (Decides connective.And)
    ∷ means (codes "==") (codes "eq") (Computes operator.Equal)
    ∷ means (codes "/=") (codes "neq") (Computes operator.Unequal)
    ∷ means (codes "<") (codes "lt") (Computes operator.Less)
    ∷ means (codes ">") (codes "gt") (Computes operator.Greater)
    ∷ means (codes "<=") (codes "le") (Computes operator.AtMost)
    ∷ means (codes ">=") (codes "ge") (Computes operator.AtLeast)
    ∷ tight_meanings

abbrev pub unknown : List ℕ → Meaning
unknown text = means text [] Calls

abbrev pub meaning_among : List ℕ → List Meaning → Meaning
meaning_among text [] = unknown text
meaning_among text (m ∷ ms) = if bytes_eq text m.text then m else meaning_among text ms

-- an operator that nothing has the name of calls what no function has the name of
unfoldable pub meaning_of : List ℕ → Meaning
meaning_of text = meaning_among text operator_meanings

-- the core function, which stands where the operator stands
abbrev pub function_of : Word → Expr
function_of op = Located op.place
    (NameOf (Top (text_units (operator_home op.text)) (text_units (meaning_of op.text).function)))

abbrev pub both : Expr → Expr → Exprs
both a b = MoreExpr a (MoreExpr b NoExpr)
