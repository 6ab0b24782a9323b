-- A text has one list of tokens and one end of it: `same_tokens`.
use Rattle.elm_lexer.proofs.Same.{same_tokens}
use Rattle.elm_lexer.proofs.laws.tokens_law.Goals as goal

pub returns : goal.returns
returns c = same_tokens
