use Rattle.std.proofs.Common.{sym, ap, ◌∙◌}
use Rattle.std.specs.Prelude.{if◌then◌else◌}
use Rattle.infer_order.specs.Owners.{numbers_of, put_all}
use Rattle.infer_order.proofs.order.add_definition.Goals as goal

pub returns-else-is_inferred : goal.returns-else-is_inferred
returns-else-is_inferred c d is y =
    let old = numbers_of c.args.owners.now in
    ap (λ b. (if b then put_all d.names c.args.number old else old) y)
    (sym c.if-is_inferred.false ∙ c.is_inferred.ensures d is.title)
