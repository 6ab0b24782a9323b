use Rattle.project_proper.proofs.Chain.{builds_linked, links_named}
use Rattle.project_proper.proofs.build_laws.build_law.Goals as goal

pub returns-clause-linked : goal.returns-clause-linked
returns-clause-linked c = builds_linked

pub returns-clause-named : goal.returns-clause-named
returns-clause-named c = links_named
