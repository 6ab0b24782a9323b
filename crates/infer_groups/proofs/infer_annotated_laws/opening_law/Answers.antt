use Rattle.infer_groups.proofs.Opening.{constants_ready, constants_mean}
use Rattle.infer_groups.proofs.infer_annotated_laws.opening_law.Goals as goal

pub returns-clause-ready : goal.returns-clause-ready
returns-clause-ready c code annotation i vs old mid open_ =
    constants_ready c.choice_law.ensures code annotation i vs old mid open_

pub returns-clause-mean : goal.returns-clause-mean
returns-clause-mean c code annotation i vs old mid a links scope q open_ set =
    constants_mean c.choice_law.ensures code annotation i vs old mid open_ c.saying_law.ensures.more a links scope q set
