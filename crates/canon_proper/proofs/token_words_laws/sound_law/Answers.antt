-- By what the lexer shows of names and literals, and by the pieces of fields and integers: `tokens_sound`.
use Rattle.canon_proper.proofs.Pieces.{tokens_sound}
use Rattle.canon_proper.proofs.token_words_laws.sound_law.Goals as goal

pub returns : goal.returns
returns c = tokens_sound
