-- By induction on the tree: `narrow`, `narrow_group`.
use Rattle.canon_proper.proofs.Narrowing.{narrow, narrow_group}
use Rattle.canon_proper.proofs.laws.narrower_law.Goals as goal

pub returns : goal.returns
returns c = record { expr = narrow; group = narrow_group }
