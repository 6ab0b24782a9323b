-- Orders and rings of small graphs: `is_diamond`, `is_later`, `is_circle`, `is_alone`.
use Rattle.import_graph.proofs.Worked.{is_diamond, is_later, is_circle, is_alone}
use Rattle.import_graph.proofs.laws.examples.Goals as goal

pub returns : goal.returns
returns c = record { diamond = is_diamond; later = is_later; circle = is_circle; alone = is_alone }
