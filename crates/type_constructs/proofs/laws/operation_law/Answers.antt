use Rattle.type_constructs.proofs.laws.operation_law.Goals as goal
use Rattle.type_constructs.proofs.Walking.{walks_tuple, walks_list, walks_build, walks_record, walks_access, walks_update, walks_negate, walks_binary}

pub returns-clause-tuple : goal.returns-clause-tuple
returns-clause-tuple c = walks_tuple

pub returns-clause-list : goal.returns-clause-list
returns-clause-list c = walks_list

pub returns-clause-build : goal.returns-clause-build
returns-clause-build c = walks_build

pub returns-clause-record_of : goal.returns-clause-record_of
returns-clause-record_of c = walks_record

pub returns-clause-access : goal.returns-clause-access
returns-clause-access c = walks_access

pub returns-clause-update : goal.returns-clause-update
returns-clause-update c = walks_update

pub returns-clause-negate : goal.returns-clause-negate
returns-clause-negate c = walks_negate

pub returns-clause-binary : goal.returns-clause-binary
returns-clause-binary c = walks_binary
