use Rattle.build_safety.proofs.LinkedMain.{links_have_main}
use Rattle.build_safety.proofs.linked_main.main_law.Goals as goal

pub returns : goal.returns
returns c = links_have_main
