use Rattle.std.proofs.Common.{rules}
use Rattle.elm_canon.specs.declared.reference.Ref.TheVariants.{Local, Top}
use Rattle.infer.specs.Types.{schemes_of}
use Rattle.infer.proofs.types.Types.new.Goals as goal

pub returns : goal.returns
unfolding schemes_of
returns c (Local x) = search rules
returns c (Top m x) = search rules
