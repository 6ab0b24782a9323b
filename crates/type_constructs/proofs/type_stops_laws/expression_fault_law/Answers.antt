use Rattle.type_constructs.proofs.type_stops_laws.expression_fault_law.Goals as goal
use Rattle.type_constructs.proofs.Stopping.{fails_number_class, fails_number, fails_type, fails_copy, fails_accessor_lack, fails_accessor, fails_function, fails_parameters, fails_body, fails_applied, fails_arguments, fails_test, fails_then, fails_else, fails_logical, fails_logical_left, fails_logical_right, fails_subject, fails_branches, fails_definitions, fails_let_body, fails_next_part, fails_more_parts, fails_fewer_parts, fails_branch_pattern, fails_branch_body}

pub returns-clause-number_class : goal.returns-clause-number_class
returns-clause-number_class c = fails_number_class

pub returns-clause-number : goal.returns-clause-number
returns-clause-number c = fails_number

pub returns-clause-type_of : goal.returns-clause-type_of
returns-clause-type_of c = fails_type

pub returns-clause-copy : goal.returns-clause-copy
returns-clause-copy c = fails_copy

pub returns-clause-accessor_lack : goal.returns-clause-accessor_lack
returns-clause-accessor_lack c = fails_accessor_lack

pub returns-clause-accessor : goal.returns-clause-accessor
returns-clause-accessor c = fails_accessor

pub returns-clause-function : goal.returns-clause-function
returns-clause-function c = fails_function

pub returns-clause-parameters : goal.returns-clause-parameters
returns-clause-parameters c = fails_parameters

pub returns-clause-body : goal.returns-clause-body
returns-clause-body c = fails_body

pub returns-clause-applied : goal.returns-clause-applied
returns-clause-applied c = fails_applied

pub returns-clause-arguments : goal.returns-clause-arguments
returns-clause-arguments c = fails_arguments

pub returns-clause-test : goal.returns-clause-test
returns-clause-test c = fails_test

pub returns-clause-chosen : goal.returns-clause-chosen
returns-clause-chosen c = fails_then

pub returns-clause-otherwise : goal.returns-clause-otherwise
returns-clause-otherwise c = fails_else

pub returns-clause-logical : goal.returns-clause-logical
returns-clause-logical c = fails_logical

pub returns-clause-logical_left : goal.returns-clause-logical_left
returns-clause-logical_left c = fails_logical_left

pub returns-clause-logical_right : goal.returns-clause-logical_right
returns-clause-logical_right c = fails_logical_right

pub returns-clause-subject : goal.returns-clause-subject
returns-clause-subject c = fails_subject

pub returns-clause-branches : goal.returns-clause-branches
returns-clause-branches c = fails_branches

pub returns-clause-definitions : goal.returns-clause-definitions
returns-clause-definitions c = fails_definitions

pub returns-clause-let_body : goal.returns-clause-let_body
returns-clause-let_body c = fails_let_body

pub returns-clause-next_part : goal.returns-clause-next_part
returns-clause-next_part c = fails_next_part

pub returns-clause-more_parts : goal.returns-clause-more_parts
returns-clause-more_parts c = fails_more_parts

pub returns-clause-fewer_parts : goal.returns-clause-fewer_parts
returns-clause-fewer_parts c = fails_fewer_parts

pub returns-clause-branch_pattern : goal.returns-clause-branch_pattern
returns-clause-branch_pattern c = fails_branch_pattern

pub returns-clause-branch_body : goal.returns-clause-branch_body
returns-clause-branch_body c = fails_branch_body
