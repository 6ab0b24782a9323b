-- The outcome and the count are the only ones: `only_outcome`, `only_count`.
use Rattle.project_parts.specs.Outcomes.{Clean}
use Rattle.elm_make.proofs.Building.{only_outcome, only_count}
use Rattle.elm_make.proofs.project.build.Goals as goal

pub returns-clause-outcome : goal.returns-clause-outcome
returns-clause-outcome g c =
    only_outcome c.outcome_law.ensures (g.F.Files.tree c.args.files.now) c.args.entry.now c.args.output.now c.utf8.entry
    c.build_checked.result c.build_checked.ensures.outcome

pub returns-clause-count : goal.returns-clause-count
returns-clause-count g c =
    only_count c.count_law.ensures (g.F.Files.tree c.args.files.now) c.args.entry.now
    (λ tree. Clean tree c.args.entry.now c.args.output.now) c.build_checked.result c.build_checked.ensures.outcome
