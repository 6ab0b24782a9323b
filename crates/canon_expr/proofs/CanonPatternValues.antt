-- Tokens with values: what holds of each token holds of the one that a word is.
use Rattle.std.proofs.Common.{◌≡◌, ℕ, ◌<◌, ◌≤◌, ◌⊎◌, inl, inr, List, length, subst, sym}
use Rattle.std.specs.List.{All}
use Rattle.std.proofs.lemmas.Bool.{cases_lt}
use Rattle.std.proofs.lemmas.List.{get_or_past}
use Rattle.std.proofs.lemmas.List.Elements.{All-get_or}
use Rattle.elm_lexer.specs.declared.token.Kind.{Kind}
use Rattle.elm_lexer.specs.declared.token.Kind.TheVariants as kind
use Rattle.elm_lexer.specs.Literals.{SpellsLiteral}
use Rattle.elm_lexer.specs.Names.{SpellsValue}
use Rattle.elm_lexer.specs.Tokens.{Token}
use Rattle.elm_tree.specs.Words.{token_at, no_token}
use Rattle.canon_expr.specs.Literals.{IsSafe, AreLiterals}

each : (P : Token → Type 0) → P no_token → (tokens : List Token) (i : ℕ) → All P tokens → P (token_at tokens i)
each P none tokens i all = by (cases_lt i (length tokens))
  where
    by : (i < length tokens) ⊎ (length tokens ≤ i) → P (token_at tokens i)
    by (inl within) = All-get_or P tokens i no_token within all
    by (inr past) = subst P (sym (get_or_past tokens i no_token past)) none

pub safe_at : (tokens : List Token) (i : ℕ) (k : Kind) → AreLiterals tokens → (token_at tokens i).kind ≡ k → IsSafe k
safe_at tokens i k h is = subst IsSafe is (each (λ t. IsSafe t.kind) tt tokens i h.numbers)

pub char_spelled : (tokens : List Token) (i : ℕ) → AreLiterals tokens → (token_at tokens i).kind ≡ kind.Char →
    SpellsLiteral (token_at tokens i).text
char_spelled tokens i h is =
    subst (λ k. SpellsValue k (token_at tokens i).text) is
    (each (λ t. SpellsValue t.kind t.text) tt tokens i h.values)

pub text_spelled : (tokens : List Token) (i : ℕ) → AreLiterals tokens → (token_at tokens i).kind ≡ kind.Text →
    SpellsLiteral (token_at tokens i).text
text_spelled tokens i h is =
    subst (λ k. SpellsValue k (token_at tokens i).text) is
    (each (λ t. SpellsValue t.kind t.text) tt tokens i h.values)
