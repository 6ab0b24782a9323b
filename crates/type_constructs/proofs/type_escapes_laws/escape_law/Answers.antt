use Rattle.type_constructs.proofs.type_escapes_laws.escape_law.Goals as goal
use Rattle.type_constructs.proofs.Finding.{all_deep, finds_escape, fails_escaped}

pub returns-clause-deep : goal.returns-clause-deep
returns-clause-deep c = all_deep c.own_law.ensures.stays c.own_law.ensures.holds

pub returns-clause-finds : goal.returns-clause-finds
returns-clause-finds c = finds_escape c.own_law.ensures.stays c.own_law.ensures.holds

pub returns-clause-fails : goal.returns-clause-fails
returns-clause-fails c = fails_escaped c.definition_law.ensures.escapes
