-- Each text and character has a value, and each number is safe: `tokens_values`, `numbers_safe`.
use Rattle.elm_lexer.proofs.Values.{tokens_values}
use Rattle.canon_expr.proofs.Lexed.{numbers_safe}
use Rattle.canon_expr.proofs.canon_pattern_laws.literals_law.Goals as goal

pub returns : goal.returns
returns c = λ text ts h. record { values = tokens_values text ts h; numbers = numbers_safe h.1 }
