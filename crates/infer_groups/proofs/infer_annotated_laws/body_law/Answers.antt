use Rattle.infer_groups.proofs.Walking.{body_done, body_stops}
use Rattle.infer_groups.proofs.infer_annotated_laws.body_law.Goals as goal

pub returns-clause-done : goal.returns-clause-done
returns-clause-done c code d annotation i vs v old mid u x open_ asked follows walked =
    body_done c.choice_law.ensures c.saying_law.ensures.later c.saying_law.ensures.more code d annotation i vs v old mid
    u open_ asked x follows walked

pub returns-clause-stops : goal.returns-clause-stops
returns-clause-stops c code d annotation i vs v old mid u x bad open_ asked stopped =
    body_stops c.choice_law.ensures c.saying_law.ensures.later c.saying_law.ensures.more code d annotation i vs v old
    mid u open_ asked
    c.definition_law.ensures.stops x bad stopped
