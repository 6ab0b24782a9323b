use Rattle.std.proofs.Common.{refl}
use Rattle.std.specs.Fmt.{digits}
use Rattle.js_emit.proofs.laws.subset.Goals as goal

pub returns : goal.returns
unfolding digits
returns c = record { all = refl }
