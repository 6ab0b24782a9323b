-- The last one is the first in scope: `scope_push`.
use Rattle.std.proofs.Common.{◌∷◌, ap, ◌∙◌}
use Rattle.infer_patterns.specs.View.{in_scope}
use Rattle.infer_patterns.proofs.Binding.{scope_push}
use Rattle.infer_patterns.proofs.bound.bind.Goals as goal

pub returns : goal.returns
returns c =
    ap in_scope c.in_ok-push.ensures.items
    ∙ (scope_push c.args.bound.now.items (record { name = c.in_ok-clone.field-0; variable = c.args.variable })
    ∙ ap (λ x. (x, c.args.variable) ∷ in_scope c.args.bound.now.items) c.in_ok-clone.ensures.cases)
