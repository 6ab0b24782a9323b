-- Each kind has a type: `each_kind`.
use Rattle.elm_type.proofs.EveryKind.{each_kind}
use Rattle.elm_type.proofs.ground_types_laws.kind_law.Goals as goal

pub returns : goal.returns
returns c = each_kind
