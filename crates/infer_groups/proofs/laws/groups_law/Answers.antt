use Rattle.infer_groups.proofs.Turning.{defines_none, defines_one_more, defines_all, stops_at_names, stops_at_group}
use Rattle.infer_groups.proofs.laws.groups_law.Goals as goal

pub returns-clause-none : goal.returns-clause-none
returns-clause-none c = defines_none

pub returns-clause-more : goal.returns-clause-more
returns-clause-more c = defines_one_more

pub returns-clause-all : goal.returns-clause-all
returns-clause-all c = defines_all

pub returns-clause-names : goal.returns-clause-names
returns-clause-names c = stops_at_names

pub returns-clause-group : goal.returns-clause-group
returns-clause-group c = stops_at_group
