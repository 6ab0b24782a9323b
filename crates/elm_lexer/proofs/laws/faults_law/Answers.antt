-- A text has one list of tokens and one end of it: `same_faults`.
use Rattle.elm_lexer.proofs.Same.{same_faults}
use Rattle.elm_lexer.proofs.laws.faults_law.Goals as goal

pub returns : goal.returns
returns c = same_faults
