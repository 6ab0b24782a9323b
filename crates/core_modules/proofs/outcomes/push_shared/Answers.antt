-- The item that is added.
use Rattle.core_modules.proofs.Shared.{then_ok}
use Rattle.core_modules.proofs.outcomes.push_shared.Goals as goal

pub returns : goal.returns
returns g c = then_ok c.push.result (λ p. (c.in_ok-item.item, c.in_ok-item.ensures, p)) c.push.ensures
