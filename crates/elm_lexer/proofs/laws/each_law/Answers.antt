-- Each text has a list of tokens or a fault: `each`.
use Rattle.elm_lexer.proofs.Total.{each}
use Rattle.elm_lexer.proofs.laws.each_law.Goals as goal

pub returns : goal.returns
returns c = each
