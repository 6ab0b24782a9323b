use Rattle.infer_groups.proofs.InferAnnotatedClosing.{escapes, is_large, may_let_go, closes}
use Rattle.infer_groups.proofs.infer_annotated_laws.closing_law.Goals as goal

pub returns-clause-escapes : goal.returns-clause-escapes
returns-clause-escapes c code d annotation i k vs v x old mid now new done escape is =
    escapes code d annotation i vs v old mid now done c.escape_law.ensures.finds c.escape_law.ensures.fails k x new
    escape is

pub returns-clause-large : goal.returns-clause-large
returns-clause-large c code d annotation i vs v old mid now new done free large =
    is_large code d annotation i vs v old mid now done c.escape_law.ensures.deep c.definition_law.ensures.large new free
    large

pub returns-clause-may : goal.returns-clause-may
returns-clause-may c code d annotation i vs v old mid now done free =
    may_let_go code d annotation i vs v old mid now done free

pub returns-clause-closes : goal.returns-clause-closes
returns-clause-closes c code d annotation i vs v old mid now new done free small gone =
    closes code d annotation i vs v old mid now done c.choice_law.ensures c.saying_law.ensures.later
    c.escape_law.ensures.deep
    c.definition_law.ensures.passes new free small gone
