use Rattle.type_constructs.proofs.laws.pattern_law.Goals as goal
use Rattle.type_constructs.proofs.Matching.{matches_anything, matches_name, matches_literal, matches_fields, matches_as, matches_located, matches_constructor, shapes_tuple, shapes_list, matches_none, matches_one_more}

pub returns-clause-anything : goal.returns-clause-anything
returns-clause-anything c = matches_anything

pub returns-clause-name : goal.returns-clause-name
returns-clause-name c = matches_name

pub returns-clause-literal : goal.returns-clause-literal
returns-clause-literal c = matches_literal

pub returns-clause-fields : goal.returns-clause-fields
returns-clause-fields c = matches_fields

pub returns-clause-also : goal.returns-clause-also
returns-clause-also c = matches_as

pub returns-clause-located : goal.returns-clause-located
returns-clause-located c = matches_located

pub returns-clause-constructor : goal.returns-clause-constructor
returns-clause-constructor c = matches_constructor

pub returns-clause-tuple : goal.returns-clause-tuple
returns-clause-tuple c = shapes_tuple

pub returns-clause-list : goal.returns-clause-list
returns-clause-list c = shapes_list

pub returns-clause-none : goal.returns-clause-none
returns-clause-none c = matches_none

pub returns-clause-one_more : goal.returns-clause-one_more
returns-clause-one_more c = matches_one_more
