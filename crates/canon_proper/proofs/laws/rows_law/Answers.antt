-- Row by row: `names_are`, `own_are`, `imported_are`.
use Rattle.canon_proper.proofs.Rows.{names_are, own_are, imported_are}
use Rattle.canon_proper.proofs.laws.rows_law.Goals as goal

pub returns : goal.returns
returns c = record { names = names_are; own = own_are; imported = imported_are }
