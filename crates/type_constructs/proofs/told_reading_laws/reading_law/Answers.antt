use Rattle.type_constructs.proofs.Telling.{read_is_told, scheme_is_as_large, scheme_is_ordered, size_is_told}
use Rattle.type_constructs.proofs.told_reading_laws.reading_law.Goals as goal

pub returns-clause-told : goal.returns-clause-told
returns-clause-told c = read_is_told

pub returns-clause-size : goal.returns-clause-size
returns-clause-size c = scheme_is_as_large

pub returns-clause-ordered : goal.returns-clause-ordered
returns-clause-ordered c = scheme_is_ordered c.renaming_law.ensures.twice

pub returns-clause-counted : goal.returns-clause-counted
returns-clause-counted c = size_is_told
