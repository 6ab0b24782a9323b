-- The fault at the word.
use Rattle.std.proofs.Common.{[], ◌∷◌, ◌++◌, ap, ◌∙◌}
use Rattle.canon_type.proofs.Meanings.{on_ok}
use Rattle.canon_type.proofs.named.no_type.Goals as goal

pub returns-clause-faults : goal.returns-clause-faults
returns-clause-faults c =
    on_ok c.blank.result
    (c.in_ok-push.ensures.items ∙ ap (λ f. c.args.findings.now.items ++ f ∷ []) c.in_ok-finding_long.ensures)
