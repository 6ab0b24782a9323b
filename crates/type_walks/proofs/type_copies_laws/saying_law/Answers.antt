use Rattle.type_walks.proofs.type_copies_laws.saying_law.Goals as goal
use Rattle.type_walks.proofs.Saying.{says_of_copies, says_later, says_with_more}

pub returns-clause-copies : goal.returns-clause-copies
returns-clause-copies c = says_of_copies

pub returns-clause-later : goal.returns-clause-later
returns-clause-later c = says_later

pub returns-clause-more : goal.returns-clause-more
returns-clause-more c = says_with_more
