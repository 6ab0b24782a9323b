-- Interfaces of one text are the same.
use Rattle.interface.proofs.Whole.{one_text}
use Rattle.interface.proofs.received.one_text.Goals as goal

pub returns : goal.returns
returns c = one_text
