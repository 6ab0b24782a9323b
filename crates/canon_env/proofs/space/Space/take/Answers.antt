-- Names that are added one after the other: `same_name-sym`.
use Rattle.std.proofs.Common.{ap, ◌∙◌}
use Rattle.canon_env.specs.Space.{named_in}
use Rattle.canon_env.proofs.Adding.{same_name-sym}
use Rattle.canon_env.proofs.space.Space.take.Goals as goal

pub returns-in-Some-clause-others : goal.returns-in-Some-clause-others
returns-in-Some-clause-others g c = λ q x h.
    ap (λ o. named_in o x) (c.swap_remove.ensures.updates.2 q (same_name-sym c.args.qualifier.now q ∙ h))
