use Rattle.type_constructs.proofs.type_definitions_laws.member_law.Goals as goal
use Rattle.type_constructs.proofs.Grouping.{walks_small, walks_destructure, walks_no_member, walks_one_member}

pub returns-clause-small : goal.returns-clause-small
returns-clause-small c = walks_small

pub returns-clause-destructure : goal.returns-clause-destructure
returns-clause-destructure c = walks_destructure

pub returns-clause-none : goal.returns-clause-none
returns-clause-none c = walks_no_member

pub returns-clause-one_more : goal.returns-clause-one_more
returns-clause-one_more c = walks_one_member
