-- Forms of expressions and patterns.
use Rattle.std.proofs.Common.{◌≡◌, List, [], ◌∷◌, true, false, Some, None, length, refl, arith}
use Rattle.std.specs.Prelude.{Option}
use Rattle.elm_lexer.specs.declared.token.Kind.{Kind}
use Rattle.elm_lexer.specs.declared.token.Kind.TheVariants as kind
use Rattle.elm_lexer.specs.Tokens.{Token}
use Rattle.elm_tree.specs.Tree as tree
use Rattle.elm_tree.specs.View.{WordExpr, record_expr, patterns_view}
use Rattle.elm_tree.specs.Words.{expr_by, pattern_by, pos_of}
use Rattle.elm_tree.specs.declared.tree.Word.{Word}
use Rattle.elm_tree.specs.declared.tree.Pattern.{Pattern}
use Rattle.canon_expr.specs.Binding.{is_lambda, is_function, pattern_place}

pub word_no_lambda : (k : Kind) (t : Token) → is_lambda (expr_by k t) ≡ false
word_no_lambda (kind.Int n) t = refl
word_no_lambda kind.Char t = refl
word_no_lambda kind.Text t = refl
word_no_lambda kind.UpperName t = refl
word_no_lambda kind.QualifiedUpper t = refl
word_no_lambda kind.Operator t = refl
word_no_lambda kind.Field t = refl
word_no_lambda _ t = refl

pub record_no_lambda : (tokens : List Token) (first : Word) (base : Option Word) (fs : List WordExpr) →
    is_lambda (record_expr tokens first base fs) ≡ false
record_no_lambda tokens first None fs = refl
record_no_lambda tokens first (Some r) fs = refl

pub word_place : (k : Kind) (t : Token) → pattern_place (pattern_by k t) ≡ pos_of t
word_place kind.Underscore t = refl
word_place (kind.Int n) t = refl
word_place kind.Char t = refl
word_place kind.Text t = refl
word_place _ t = refl

-- with parameters
pub has_parameters : (tokens : List Token) (ps : List Pattern) (e : tree.Expr) → (length ps ≡ 0 → ⊥) →
    is_function (patterns_view tokens ps) e ≡ true
has_parameters tokens [] e h = absurd (h refl)
has_parameters tokens (p ∷ ps) e h = refl

-- without
pub no_parameters : (tokens : List Token) (ps : List Pattern) (e : tree.Expr) → length ps ≡ 0 →
    is_lambda e ≡ is_function (patterns_view tokens ps) e
no_parameters tokens [] e h = refl
no_parameters tokens (p ∷ ps) e h = absurd (omega (arith, h))
