use Rattle.build_safety.proofs.KeptLinks.{links_leave_ports}
use Rattle.build_safety.proofs.kept_links.kept_law.Goals as goal

pub returns : goal.returns
returns c = links_leave_ports
