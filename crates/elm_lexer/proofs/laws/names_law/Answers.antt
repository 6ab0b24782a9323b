-- Each name without points among the tokens is a word: `tokens_names`.
use Rattle.elm_lexer.proofs.Names.{tokens_names}
use Rattle.elm_lexer.proofs.laws.names_law.Goals as goal

pub returns : goal.returns
returns c = tokens_names
