-- The faults of all constructors together: `faults_together`.
use Rattle.std.proofs.Common.{map, ap, ◌∙◌, ◌++◌}
use Rattle.elm_tree.specs.View.{constructor_view}
use Rattle.elm_tree.specs.Turns.{tokens_view}
use Rattle.canon_type.proofs.Making.{faults_together}
use Rattle.canon_type.proofs.unions.union_of.Goals as goal

pub returns-clause-faults : goal.returns-clause-faults
returns-clause-faults c = λ w h.
    c.in_ok-fields.ensures.faults w h
    ∙ ap (λ z. c.args.findings.now.items ++ z)
    (faults_together w (map (constructor_view (tokens_view c.args.tokens.now)) c.args.written.now.constructors.now))
