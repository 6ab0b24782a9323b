-- A text has one list of tokens and one end of it: `fault_alone`.
use Rattle.elm_lexer.proofs.Same.{fault_alone}
use Rattle.elm_lexer.proofs.laws.one_law.Goals as goal

pub returns : goal.returns
returns c = fault_alone
