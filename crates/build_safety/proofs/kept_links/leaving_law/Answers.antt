use Rattle.build_safety.proofs.LeavingModules.{builds_leave}
use Rattle.build_safety.proofs.kept_links.leaving_law.Goals as goal

pub returns : goal.returns
returns c = builds_leave c.modules_law.ensures
