-- Reaching, step by step: `sound`, `complete`. Where groups have an order, it is computed: `is_the_order`.
use Rattle.std.proofs.Common.{length}
use Rattle.decl_groups.proofs.Computed.{is_the_order}
use Rattle.decl_groups.proofs.Reaching.{sound, complete}
use Rattle.decl_groups.proofs.binding_groups_laws.computed_law.Goals as goal

pub returns : goal.returns
returns c = record {
  reaching = λ uses w i j. (λ e. sound uses (length uses) i j e, λ r. complete uses w i j r);
  order = is_the_order;
}
