use Rattle.infer.proofs.Writing.{own_written, offered_written}
use Rattle.infer.proofs.infer_known_laws.known_law.Goals as goal

pub returns-clause-own : goal.returns-clause-own
returns-clause-own c = own_written c.top_law.ensures.scheme c.top_law.ensures.written

pub returns-clause-offered : goal.returns-clause-offered
returns-clause-offered c = offered_written
