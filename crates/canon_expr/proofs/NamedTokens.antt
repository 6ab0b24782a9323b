-- What is neither a wildcard nor a literal is a name.
use Rattle.std.proofs.Common.{◌≡◌, ℕ, refl}
use Rattle.elm_lexer.specs.declared.token.Kind.{Kind}
use Rattle.elm_lexer.specs.declared.token.Kind.TheVariants.{Underscore, Int, Char, Text}
use Rattle.elm_lexer.specs.Tokens.{Token}
use Rattle.elm_tree.specs.Tree.{Named}
use Rattle.elm_tree.specs.Words.{pattern_by, word_of, number_in}

pub named : (k : Kind) (t : Token) → (k ≡ Underscore → ⊥) → ((n : ℕ) → k ≡ Int n → ⊥) → (k ≡ Char → ⊥) →
    (k ≡ Text → ⊥) → pattern_by k t ≡ Named (word_of t)
named Underscore t a b c d = absurd (a refl)
named (Int n) t a b c d = absurd (b n refl)
named Char t a b c d = absurd (c refl)
named Text t a b c d = absurd (d refl)
named _ t a b c d = refl

pub no_number : (k : Kind) → ((n : ℕ) → k ≡ Int n → ⊥) → number_in k ≡ 0
no_number (Int n) h = absurd (h n refl)
no_number _ h = refl
