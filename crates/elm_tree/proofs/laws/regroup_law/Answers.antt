-- Chains are grouped in one way: `groups_well`, `groups_once`.
use Rattle.elm_tree.proofs.Grouping.{groups_well, groups_once}
use Rattle.elm_tree.proofs.laws.regroup_law.Goals as goal

pub returns : goal.returns
returns g c = record { some = groups_well; one = groups_once }
