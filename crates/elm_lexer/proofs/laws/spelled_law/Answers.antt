-- Each text and character among the tokens spells its value: `tokens_spelled`.
use Rattle.elm_lexer.proofs.Spelled.{tokens_spelled}
use Rattle.elm_lexer.proofs.laws.spelled_law.Goals as goal

pub returns : goal.returns
returns c = tokens_spelled
