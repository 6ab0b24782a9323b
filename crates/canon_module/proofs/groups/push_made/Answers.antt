-- One definition more: `pushed`.
use Rattle.std.proofs.Common.{refl}
use Rattle.std.proofs.lemmas.Result.{on_ok_weaker}
use Rattle.canon_env.proofs.Filtering.{pushed}
use Rattle.canon_expr.specs.Kept.{made_view}
use Rattle.canon_module.proofs.groups.push_made.Goals as goal

pub returns : goal.returns
returns c =
    on_ok_weaker c.put.result
    (λ is. pushed made_view c.args.taken.now.items _ _ _ _ is refl c.made_by.ensures)
    c.put.ensures
