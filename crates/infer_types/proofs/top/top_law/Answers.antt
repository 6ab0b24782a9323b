use Rattle.infer_types.proofs.Topmost.{kept_is_scheme, kept_is_written, kept_is_declared}
use Rattle.infer_types.proofs.top.top_law.Goals as goal

pub returns-clause-scheme : goal.returns-clause-scheme
returns-clause-scheme c = kept_is_scheme

pub returns-clause-written : goal.returns-clause-written
returns-clause-written c = kept_is_written

pub returns-clause-declared : goal.returns-clause-declared
returns-clause-declared c = kept_is_declared
