use Rattle.emit_size_laws.proofs.Programs.{small_is_proper}
use Rattle.emit_size_laws.proofs.laws.output_law.Goals as goal

pub returns-clause-runs : goal.returns-clause-runs
returns-clause-runs c = λ p bytes named small. c.meaning_law.ensures p (small_is_proper p bytes named small).0

pub returns-clause-subset : goal.returns-clause-subset
returns-clause-subset c = λ p bytes named small.
    let both = small_is_proper p bytes named small in
    c.subset_law.ensures p both.0 both.1
