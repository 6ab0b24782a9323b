use Rattle.type_constructs.proofs.laws.pattern_fault_law.Goals as goal
use Rattle.type_constructs.proofs.Missing.{fails_literal, fails_fields_lack, fails_fields, fails_shape, fails_constructor, fails_parts, fails_next, fails_more, fails_fewer}

pub returns-clause-literal : goal.returns-clause-literal
returns-clause-literal c = fails_literal

pub returns-clause-lack : goal.returns-clause-lack
returns-clause-lack c = fails_fields_lack

pub returns-clause-fields : goal.returns-clause-fields
returns-clause-fields c = fails_fields

pub returns-clause-shape : goal.returns-clause-shape
returns-clause-shape c = fails_shape

pub returns-clause-constructor : goal.returns-clause-constructor
returns-clause-constructor c = fails_constructor

pub returns-clause-parts : goal.returns-clause-parts
returns-clause-parts c = fails_parts

pub returns-clause-next : goal.returns-clause-next
returns-clause-next c = fails_next

pub returns-clause-more : goal.returns-clause-more
returns-clause-more c = fails_more

pub returns-clause-fewer : goal.returns-clause-fewer
returns-clause-fewer c = fails_fewer
