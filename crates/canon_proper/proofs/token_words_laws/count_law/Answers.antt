-- Each token has a byte: `tokens_count`.
use Rattle.canon_proper.proofs.Counts.{tokens_count}
use Rattle.canon_proper.proofs.token_words_laws.count_law.Goals as goal

pub returns : goal.returns
returns c = tokens_count
