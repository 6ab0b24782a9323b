-- Along the derivation: `module_spelled`.
use Rattle.canon_proper.proofs.Walking.{module_spelled, text_spelled}
use Rattle.canon_proper.proofs.parsed_words_laws.spelled_law.Goals as goal

pub returns : goal.returns
returns c = record { tokens = module_spelled; text = text_spelled }
