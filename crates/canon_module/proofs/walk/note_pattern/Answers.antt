-- What is wrong in the pattern is noted where it has a meaning.
use Rattle.canon_module.proofs.Outcome.{where_done}
use Rattle.canon_module.proofs.walk.note_pattern.Goals as goal

pub returns : goal.returns
returns c = where_done _ c.done.result c.pattern.result c.done.ensures c.pattern.ensures.log
