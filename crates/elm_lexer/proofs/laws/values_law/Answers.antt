-- Each text and character among the tokens is a literal: `tokens_values`.
use Rattle.elm_lexer.proofs.Values.{tokens_values}
use Rattle.elm_lexer.proofs.laws.values_law.Goals as goal

pub returns : goal.returns
returns c = tokens_values
