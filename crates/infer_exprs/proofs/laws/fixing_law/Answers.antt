use Rattle.infer_exprs.proofs.Fixing.{fixed_is_asked, fixing_stops}
use Rattle.infer_exprs.proofs.laws.fixing_law.Goals as goal

pub returns-clause-asked : goal.returns-clause-asked
returns-clause-asked c = fixed_is_asked

pub returns-clause-stops : goal.returns-clause-stops
returns-clause-stops c code d annotation i vs old mid u bad open_ not_ =
    fixing_stops c.choice_law.ensures c.saying_law.ensures.more c.definition_law.ensures.stops code d annotation i vs
    old mid u bad open_ not_
