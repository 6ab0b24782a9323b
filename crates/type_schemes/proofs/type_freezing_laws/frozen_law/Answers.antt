use Rattle.type_schemes.proofs.Keeping.{frozen_live, frozen_can, can_later}
use Rattle.type_schemes.proofs.type_freezing_laws.frozen_law.Goals as goal

pub returns-clause-live : goal.returns-clause-live
returns-clause-live c = frozen_live

pub returns-clause-can : goal.returns-clause-can
returns-clause-can c = frozen_can

pub returns-clause-later : goal.returns-clause-later
returns-clause-later c = can_later
