-- Which tokens have values that the program can keep.
use Rattle.std.specs.Prelude.{◌≤◌, List, ⊤}
use Rattle.std.specs.List.{All}
use Rattle.elm_lexer.specs.declared.token.Kind.{Kind}
use Rattle.elm_lexer.specs.declared.token.Kind.TheVariants as kind
use Rattle.elm_lexer.specs.Names.{AreValues}
use Rattle.elm_lexer.specs.Tokens.{Token}

-- a number is at most 2 ^ 53 - 1
abbrev pub IsSafe : Kind → Type 0
IsSafe (kind.Int n) = n ≤ 9007199254740991
IsSafe _ = ⊤

-- each text and character has a value, and each number is safe
pub record AreLiterals (tokens : List Token) : Type 0 where
  pub values : AreValues tokens
  pub numbers : All (λ t. IsSafe t.kind) tokens
