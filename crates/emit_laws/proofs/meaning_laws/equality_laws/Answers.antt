use Rattle.emit_laws.proofs.meaning_laws.equality_laws.Goals as goal
use Rattle.emit_laws.proofs.Equality.{equals_itself, equal_turns, equals_alike}

pub returns : goal.returns
returns c = record { equals_itself = equals_itself; turns = equal_turns; alike = equals_alike }
