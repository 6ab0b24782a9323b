use Rattle.std.proofs.Common.{ap, ◌∙◌}
use Rattle.indexmap.specs.IndexMap.{get}
use Rattle.infer_steps.specs.Keys.{same_pair}
use Rattle.infer_steps.proofs.scope.find_top.Goals as goal

pub returns : goal.returns
returns g c =
    c.get.ensures.value
    ∙ ap (get same_pair c.args.names.now) (λ i. (c.in_ok-clone.ensures.cases i, c.in_ok-clone-2.ensures.cases i))
