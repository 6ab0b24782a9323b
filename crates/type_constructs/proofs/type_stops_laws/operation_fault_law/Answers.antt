use Rattle.type_constructs.proofs.type_stops_laws.operation_fault_law.Goals as goal
use Rattle.type_constructs.proofs.Operating.{fails_tuple, fails_tuple_parts, fails_list, fails_list_parts, fails_build_shape, fails_build, fails_build_parts, fails_record, fails_record_parts, fails_access_lack, fails_accessed, fails_access, fails_updated, fails_update_lack, fails_update, fails_update_parts, fails_negate, fails_negated, fails_binary_class, fails_binary, fails_binary_left, fails_binary_right}

pub returns-clause-tuple : goal.returns-clause-tuple
returns-clause-tuple c = fails_tuple

pub returns-clause-tuple_parts : goal.returns-clause-tuple_parts
returns-clause-tuple_parts c = fails_tuple_parts

pub returns-clause-list : goal.returns-clause-list
returns-clause-list c = fails_list

pub returns-clause-list_parts : goal.returns-clause-list_parts
returns-clause-list_parts c = fails_list_parts

pub returns-clause-build_shape : goal.returns-clause-build_shape
returns-clause-build_shape c = fails_build_shape

pub returns-clause-build : goal.returns-clause-build
returns-clause-build c = fails_build

pub returns-clause-build_parts : goal.returns-clause-build_parts
returns-clause-build_parts c = fails_build_parts

pub returns-clause-record_of : goal.returns-clause-record_of
returns-clause-record_of c = fails_record

pub returns-clause-record_parts : goal.returns-clause-record_parts
returns-clause-record_parts c = fails_record_parts

pub returns-clause-access_lack : goal.returns-clause-access_lack
returns-clause-access_lack c = fails_access_lack

pub returns-clause-accessed : goal.returns-clause-accessed
returns-clause-accessed c = fails_accessed

pub returns-clause-access : goal.returns-clause-access
returns-clause-access c = fails_access

pub returns-clause-updated : goal.returns-clause-updated
returns-clause-updated c = fails_updated

pub returns-clause-update_lack : goal.returns-clause-update_lack
returns-clause-update_lack c = fails_update_lack

pub returns-clause-update : goal.returns-clause-update
returns-clause-update c = fails_update

pub returns-clause-update_parts : goal.returns-clause-update_parts
returns-clause-update_parts c = fails_update_parts

pub returns-clause-negate : goal.returns-clause-negate
returns-clause-negate c = fails_negate

pub returns-clause-negated : goal.returns-clause-negated
returns-clause-negated c = fails_negated

pub returns-clause-binary_class : goal.returns-clause-binary_class
returns-clause-binary_class c = fails_binary_class

pub returns-clause-binary : goal.returns-clause-binary
returns-clause-binary c = fails_binary

pub returns-clause-binary_left : goal.returns-clause-binary_left
returns-clause-binary_left c = fails_binary_left

pub returns-clause-binary_right : goal.returns-clause-binary_right
returns-clause-binary_right c = fails_binary_right
