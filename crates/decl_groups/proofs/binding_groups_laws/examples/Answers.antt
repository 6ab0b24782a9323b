-- The groups are computed.
use Rattle.std.specs.Prelude.{refl}
use Rattle.decl_groups.specs.InOrder.{ordered_groups}
use Rattle.decl_groups.proofs.binding_groups_laws.examples.Goals as goal

pub returns : goal.returns
unfolding ordered_groups
returns c = record { used_first = refl; joined = refl; alone = refl; ties = refl }
