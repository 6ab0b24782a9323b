use Rattle.type_constructs.proofs.laws.expression_law.Goals as goal
use Rattle.type_constructs.proofs.Walking.{walks_number, walks_type, walks_copy, walks_accessor, walks_function, walks_apply, walks_none, walks_one_more, walks_if, walks_logical, walks_case, walks_no_branch, walks_one_branch, walks_let}

pub returns-clause-number : goal.returns-clause-number
returns-clause-number c = walks_number

pub returns-clause-type_of : goal.returns-clause-type_of
returns-clause-type_of c = walks_type

pub returns-clause-copy : goal.returns-clause-copy
returns-clause-copy c = walks_copy

pub returns-clause-accessor : goal.returns-clause-accessor
returns-clause-accessor c = walks_accessor

pub returns-clause-function : goal.returns-clause-function
returns-clause-function c = walks_function

pub returns-clause-apply : goal.returns-clause-apply
returns-clause-apply c = walks_apply

pub returns-clause-none : goal.returns-clause-none
returns-clause-none c = walks_none

pub returns-clause-one_more : goal.returns-clause-one_more
returns-clause-one_more c = walks_one_more

pub returns-clause-choice : goal.returns-clause-choice
returns-clause-choice c = walks_if

pub returns-clause-logical : goal.returns-clause-logical
returns-clause-logical c = walks_logical

pub returns-clause-case_of : goal.returns-clause-case_of
returns-clause-case_of c = walks_case

pub returns-clause-no_branch : goal.returns-clause-no_branch
returns-clause-no_branch c = walks_no_branch

pub returns-clause-one_branch : goal.returns-clause-one_branch
returns-clause-one_branch c = walks_one_branch

pub returns-clause-let_in : goal.returns-clause-let_in
returns-clause-let_in c = walks_let
