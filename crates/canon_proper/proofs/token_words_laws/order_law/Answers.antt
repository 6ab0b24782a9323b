-- Each token moves the place on: `tokens_ordered`.
use Rattle.canon_proper.proofs.Order.{tokens_ordered}
use Rattle.canon_proper.proofs.token_words_laws.order_law.Goals as goal

pub returns : goal.returns
returns c = tokens_ordered
